-- The flow of a source that is listed is put back with the peer.
use Rattle.std.proofs.Common.{◌∙◌, ap, if◌then◌else◌, nat_eq, sym}
use Rattle.std.proofs.lemmas.Result.{on_ok_weaker}
use Rattle.rtcp_show.specs.declared.flows.Flow.{Flow}
use Rattle.rtcp_show.specs.Flows.{flow_in, with_peer}
use Rattle.rtcp_show.specs.Kept.{kept_of}
use Rattle.rtcp_show.specs.Listings.{lists}
use Rattle.rtcp_show.proofs.FlowLemmas.{flow_put, listed_peer}
use Rattle.rtcp_show.proofs.flows.BySource+Flow.note_peer.Goals as goal

pub returns : goal.returns
returns g c = λ history stands.
    let flows = flow_in c.args.self.now in
    let source = c.in-Some.ssrc in
    let set : Flow → Flow = with_peer c.args.port c.args.peer in
    let holds = sym (c.is_listed.ensures history stands) ∙ c.if-not-is_listed.false in
    rw c.in-Some.is (on_ok_weaker c.put.result (λ put ssrc.
    flow_put (nat_eq source ssrc) c.with_peer.result _ (kept_of c.args.self.now ssrc) (put ssrc)
    ∙ ap (λ flow. if nat_eq source ssrc then flow else flows ssrc) (c.with_peer.ensures ∙ ap set c.flow-flow.ensures)
    ∙ listed_peer (lists history) set source flows holds ssrc) c.put.ensures)
