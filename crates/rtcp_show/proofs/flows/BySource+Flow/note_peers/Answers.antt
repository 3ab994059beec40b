-- Where an RTP packet came from, and then where a report did.
use Rattle.std.proofs.Common.{[], unwrap_or}
use Rattle.std.proofs.lemmas.Result.{on_ok_weaker}
use Rattle.rtcp_engine.specs.state.Views.{event_value}
use Rattle.rtcp_show.specs.Flows.{flow_in, peer_of_event}
use Rattle.rtcp_show.specs.Listings.{lists}
use Rattle.rtcp_show.proofs.FlowLemmas.{heard_both}
use Rattle.rtcp_show.proofs.flows.BySource+Flow.note_peers.Goals as goal

pub returns : goal.returns
returns g c = λ history media stands is.
    let peer = peer_of_event (event_value c.args.event.now) in
    let packets = unwrap_or c.args.compound.now [] in
    let first = c.in_ok-note_peer.ensures history stands in
    on_ok_weaker c.note_peer-2.result (λ second ssrc.
    heard_both (lists history ssrc) peer packets media ssrc (flow_in c.args.self.now ssrc)
    (flow_in c.note_peer.new.self ssrc) (flow_in c.note_peer-2.new.self ssrc)
    (rw (c.media_of.ensures media is, c.peer_of-peer.ensures) at (first ssrc))
    (rw (c.reporter.ensures, c.peer_of-peer.ensures) at (second ssrc))) (c.note_peer-2.ensures history stands)
