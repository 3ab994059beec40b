use Rattle.rtcp_json.proofs.AddingLemmas.{one, then}
use Rattle.rtcp_json.proofs.packets.write_application.Goals as goal

pub returns : goal.returns
returns c =
    then (one c.in_ok-begin_object.ensures)
    (then c.in_ok-write_name.ensures
    (then c.in_ok-write_word.ensures
    (then (rw c.from.ensures at c.in_ok-write_number.ensures)
    (then c.in_ok-write_text.ensures
    (then c.in_ok-write_octets.ensures
    (one c.in_ok-end_object.ensures))))))
