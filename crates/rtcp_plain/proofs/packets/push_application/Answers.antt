use Rattle.rtcp_plain.proofs.PartLemmas.{application_parts}
use Rattle.rtcp_plain.proofs.packets.push_application.Goals as goal

pub returns : goal.returns
returns c =
    application_parts _ _ _ _ _ _ _ _ _ _ _ _ _ _ _ c.in_ok-extend_from_slice.ensures.items c.in_ok-push_source.ensures
    (rw c.from.ensures at c.in_ok-push_number.ensures) c.in_ok-extend_from_slice-2.ensures.items
    c.in_ok-push_quoted.ensures c.in_ok-push_number-2.ensures
