use Rattle.rtcp_json.proofs.AddingLemmas.{one, then}
use Rattle.rtcp_json.proofs.reports.write_sender_report.Goals as goal

pub returns : goal.returns
returns c =
    then (one c.in_ok-begin_object.ensures)
    (then c.in_ok-write_name.ensures
    (then c.in_ok-write_word.ensures
    (then c.in_ok-write_long.ensures
    (then c.in_ok-write_number.ensures
    (then c.in_ok-write_number-2.ensures
    (then c.in_ok-write_number-3.ensures
    (then (one c.in_ok-key.ensures)
    (then (rw c.blocks-2.ensures at c.in_ok-write_blocks.ensures)
    (then c.in_ok-write_octets.ensures
    (one c.in_ok-end_object.ensures))))))))))
