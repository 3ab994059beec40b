use Rattle.rtcp_json.proofs.AddingLemmas.{one, then}
use Rattle.rtcp_json.proofs.ends.write_end.Goals as goal

pub returns : goal.returns
returns c =
    then (one c.in_ok-begin_object.ensures)
    (then (rw c.cause_name.ensures at c.in_ok-write_name.ensures)
    (then c.in_ok-write_long_number.ensures
    (then c.in_ok-write_long_number-2.ensures
    (then c.in_ok-write_long_number-3.ensures
    (then c.in_ok-write_long_number-4.ensures
    (then c.in_ok-write_long_number-5.ensures
    (then (one c.in_ok-key.ensures)
    (then (one c.in_ok-boolean.ensures)
    (one c.in_ok-end_object.ensures)))))))))
