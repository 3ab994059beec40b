use Rattle.std.proofs.Common.{slice_index_or}
use Rattle.rtcp_serve.proofs.Pauses.{past_after, past_before, turn_after, turn_before}
use Rattle.rtcp_serve.proofs.serve_laws.moments_end_turns.Goals as goal

pub returns-clause-before : goal.returns-clause-before
returns-clause-before g c = λ reader moment most history before after result cut k d below on is.
    turn_before moment most cut.made (slice_index_or cut.runs.reached.pauses k d) (cut.heeded.each k d below) on is

pub returns-clause-after : goal.returns-clause-after
returns-clause-after g c = λ reader moment most history before after result cut k d below on is.
    turn_after moment most cut.made (slice_index_or cut.runs.reached.pauses k d) (cut.heeded.each k d below) on is

pub returns-clause-whole : goal.returns-clause-whole
returns-clause-whole g c = λ reader moment most history before after result cut. (
  past_before moment most cut.made cut.left_at cut.leaves,
  past_after moment most cut.further cut.runs.reached.tally.moment cut.waits,
)
