use Rattle.rtcp_show.proofs.LineLemmas.{five_parts}
use Rattle.rtcp_show.proofs.changes.push_change_at.Goals as goal

pub returns : goal.returns
returns c =
    five_parts _ _ _ _ _ _ _ _ _ _ _ (rw c.joined.ensures at c.in_ok-push_where.ensures)
    (rw c.began_to_send.ensures at c.in_ok-push_where-2.ensures)
    (rw c.stopped_sending.ensures at c.in_ok-push_where-3.ensures)
    (rw c.left.ensures at c.in_ok-push_where-4.ensures) (rw c.went_without_bye.ensures at c.in_ok-push_where-5.ensures)
