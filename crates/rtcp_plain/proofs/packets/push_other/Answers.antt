use Rattle.rtcp_plain.proofs.PartLemmas.{three_pairs}
use Rattle.rtcp_plain.proofs.packets.push_other.Goals as goal

pub returns : goal.returns
returns c =
    three_pairs _ _ _ _ _ _ _ _ _ _ (rw c.from.ensures at c.in_ok-push_number.ensures)
    (rw c.from-2.ensures at c.in_ok-push_number-2.ensures) c.in_ok-push_number-3.ensures
