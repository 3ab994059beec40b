use Rattle.std.proofs.Common.{◌≡◌, ℕ}
use Rattle.std.specs.List.{flat_map}
use Rattle.rtcp_engine.specs.answers.Histories.{History}
use Rattle.rtcp_engine.specs.state.States.{StandsAt}
use Rattle.rtcp_show.specs.Listings.{if_listed, lists}
use Rattle.rtcp_show.specs.Notes.{cnames_of_chunk, noted_in, with_cnames}
use Rattle.rtcp_show.proofs.notes.BySource+Note.note_chunks.Given as goal

-- what is noted, and then the chunks that are left
abbrev pub invariant-loop-chunk : goal.invariant-loop-chunk
invariant-loop-chunk g l = (history : History) → StandsAt l.participant history → (ssrc : ℕ) →
    if_listed (lists history ssrc) (with_cnames (flat_map cnames_of_chunk l.chunk-iterator) ssrc) (noted_in l.self ssrc)
    ≡ if_listed (lists history ssrc) (with_cnames (flat_map cnames_of_chunk l.initial.chunk-iterator) ssrc)
    (noted_in l.initial.self ssrc)
