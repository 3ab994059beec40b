-- What a chunk names is noted of its source alone, where that is listed.
use Rattle.std.proofs.Common.{◌∙◌, ap, sym}
use Rattle.std.proofs.lemmas.Result.{on_ok_weaker}
use Rattle.rtcp_show.specs.Listings.{lists}
use Rattle.rtcp_show.specs.Notes.{noted_in}
use Rattle.rtcp_show.proofs.NoteLemmas.{listed_chunk, unlisted_chunk}
use Rattle.rtcp_show.proofs.notes.BySource+Note.note_chunk.Goals as goal

pub returns-then-is_listed : goal.returns-then-is_listed
returns-then-is_listed g c = λ history stands.
    let chunk = c.args.chunk.now in
    let holds = ap (lists history) (sym c.id.ensures) ∙ sym (c.is_listed.ensures history stands)
    ∙ c.if-is_listed.true in
    on_ok_weaker c.note_items.result (λ noted ssrc. noted ssrc
    ∙ listed_chunk (lists history) chunk.id chunk.items ssrc (noted_in c.args.self.now ssrc) holds)
    c.note_items.ensures

pub returns-else-is_listed : goal.returns-else-is_listed
returns-else-is_listed g c = λ history stands ssrc.
    let chunk = c.args.chunk.now in
    let never = ap (lists history) (sym c.id.ensures) ∙ sym (c.is_listed.ensures history stands)
    ∙ c.if-is_listed.false in
    unlisted_chunk (lists history) chunk.id chunk.items ssrc (noted_in c.args.self.now ssrc) never
