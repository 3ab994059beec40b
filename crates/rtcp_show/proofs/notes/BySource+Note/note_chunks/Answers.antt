use Rattle.std.proofs.Common.{◌∙◌}
use Rattle.rtcp_show.specs.Listings.{lists}
use Rattle.rtcp_show.specs.Notes.{cnames_of_chunk, noted_in}
use Rattle.rtcp_show.proofs.NoteLemmas.{named_on}
use Rattle.rtcp_show.proofs.notes.BySource+Note.note_chunks.Goals as goal

pub loop-chunk-preserved : goal.loop-chunk-preserved
loop-chunk-preserved g c = λ history stands ssrc.
    named_on cnames_of_chunk (lists history ssrc) c.in-Some.chunk c.next.new.self c.loop-chunk.chunk-iterator ssrc
    (noted_in c.loop-chunk.self ssrc) (noted_in c.note_chunk.new.self ssrc) c.in-Some.ensures.steps
    (c.in_ok-note_chunk.ensures history stands ssrc) ∙ c.loop-chunk.invariant history stands ssrc
