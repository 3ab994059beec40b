use Rattle.rtcp_json.proofs.AddingLemmas.{one, then}
use Rattle.rtcp_json.proofs.told.write_unsent.Goals as goal

pub returns : goal.returns
returns c =
    then (one c.in_ok-begin_object.ensures)
    (then c.in_ok-write_long_number.ensures
    (then c.in_ok-write_name.ensures
    (then c.in_ok-write_null.ensures
    (then c.in_ok-write_null-2.ensures
    (then c.in_ok-write_null-3.ensures
    (one c.in_ok-end_object.ensures))))))
