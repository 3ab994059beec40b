use Rattle.std.proofs.Common.{append-nil}
use Rattle.rtcp_json.proofs.AddingLemmas.{one, then}
use Rattle.rtcp_json.proofs.answers.write_start.Goals as goal

pub returns : goal.returns
returns c =
    then (one c.in_ok-begin_object.ensures)
    (then (one c.in_ok-key.ensures)
    (then
    (then (one c.in_ok-begin_object-2.ensures)
    (then (simp append-nil at c.in_ok-write_counts.ensures)
    (one c.in_ok-end_object.ensures)))
    (one c.in_ok-end_object-2.ensures)))
