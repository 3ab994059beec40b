use Rattle.rtcp_plain.proofs.PartLemmas.{sender_parts}
use Rattle.rtcp_plain.proofs.reports.push_sender.Goals as goal

pub returns : goal.returns
returns c =
    sender_parts _ _ _ _ _ _ _ _ _ _ _ _ _ _ _ _ _ _ c.in_ok-extend_from_slice.ensures.items c.in_ok-push_source.ensures
    c.in_ok-extend_from_slice-2.ensures.items (rw c.ntp_time.ensures at c.in_ok-push_seconds.ensures)
    (rw c.from.ensures at c.in_ok-push_number.ensures) (rw c.from-2.ensures at c.in_ok-push_number-2.ensures)
    (rw c.from-3.ensures at c.in_ok-push_number-3.ensures)
