-- The round trips of a compound, and then its CNAMEs.
use Rattle.std.proofs.lemmas.Result.{on_ok_weaker}
use Rattle.rtcp_engine.specs.answers.Histories.{setup_at}
use Rattle.rtcp_show.specs.Listings.{lists}
use Rattle.rtcp_show.specs.Notes.{noted_in}
use Rattle.rtcp_show.proofs.NoteLemmas.{noted_both}
use Rattle.rtcp_show.proofs.notes.BySource+Note.note_compound.Goals as goal

pub returns : goal.returns
returns g c = λ history stands.
    let first = c.in_ok-note_trips.ensures history stands in
    rw c.in-Some.is (on_ok_weaker c.note_packets.result (λ second ssrc.
    noted_both (lists history ssrc) c.args.arrived (setup_at history).ssrc c.in-Some.compound ssrc
    (noted_in c.args.self.now ssrc) (noted_in c.note_trips.new.self ssrc) (noted_in c.note_packets.new.self ssrc)
    (first ssrc) (second ssrc)) (c.note_packets.ensures history stands))
