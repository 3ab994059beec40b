-- The round trip of who reports, where it is listed and names a sender report.
use Rattle.std.proofs.Common.{◌∙◌, Some, ap, if◌then◌else◌, nat_eq, sym, ℕ}
use Rattle.rtcp_wire.specs.Values.{ReportBlock}
use Rattle.std.proofs.lemmas.Result.{on_ok_weaker}
use Rattle.rtcp_wire.specs.Views.{block_value}
use Rattle.rtcp_show.specs.Listings.{lists}
use Rattle.rtcp_show.specs.Notes.{noted_in}
use Rattle.rtcp_show.proofs.NoteLemmas.{listed_block}
use Rattle.rtcp_show.proofs.notes.BySource+Note.note_block.Goals as goal

pub returns : goal.returns
returns g c = λ history stands.
    let reported : ℕ × ReportBlock = (c.args.reporter, block_value c.args.block.now) in
    let holds = sym (c.is_listed.ensures history stands) ∙ c.if-not-is_listed.false in
    let names = sym c.names_report.ensures ∙ c.if-not-names_report.false in
    on_ok_weaker c.set_trip.result (λ put ssrc.
    let note = noted_in c.args.self.now ssrc in
    put ssrc
    ∙ ap (λ trip. if nat_eq c.args.reporter ssrc then record note { trip = Some trip } else note) c.round_trip.ensures
    ∙ listed_block (lists history) c.args.arrived reported ssrc note holds names) c.set_trip.ensures
