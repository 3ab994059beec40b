use Rattle.std.proofs.Common.{◌≡◌, ℕ}
use Rattle.rtcp_show.specs.Notes.{cnames_by, noted_in, with_cnames}
use Rattle.rtcp_show.proofs.notes.BySource+Note.note_items.Given as goal

-- what is noted, and then the items that are left
abbrev pub invariant-loop-item : goal.invariant-loop-item
invariant-loop-item l = (ssrc : ℕ) →
    with_cnames (cnames_by l.chunk.id l.item-iterator) ssrc (noted_in l.self ssrc)
    ≡ with_cnames (cnames_by l.chunk.id l.initial.item-iterator) ssrc (noted_in l.initial.self ssrc)
