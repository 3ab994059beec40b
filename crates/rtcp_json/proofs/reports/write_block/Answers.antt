use Rattle.std.proofs.Common.{rules, w32}
use Rattle.std.proofs.lemmas.Int.{to_z-of_z}
use Rattle.rtcp_json.proofs.AddingLemmas.{one, then}
use Rattle.rtcp_json.proofs.reports.write_block.Goals as goal

pub returns : goal.returns
returns c =
    then (one c.in_ok-begin_object.ensures)
    (then c.in_ok-write_word.ensures
    (then (rw c.from.ensures at c.in_ok-write_number.ensures)
    (then (rw (to_z-of_z w32 c.args.block.now.lost (search rules)) at c.in_ok-write_signed.ensures)
    (then c.in_ok-write_number-2.ensures
    (then c.in_ok-write_number-3.ensures
    (then c.in_ok-write_number-4.ensures
    (then c.in_ok-write_number-5.ensures
    (one c.in_ok-end_object.ensures))))))))
