use Rattle.rtcp_show.proofs.LineLemmas.{four_parts}
use Rattle.rtcp_show.proofs.header.push_name.Goals as goal

pub returns : goal.returns
returns c =
    four_parts _ _ _ _ _ _ _ _ _ c.in_ok-extend_from_slice.ensures.items c.in_ok-push_word.ensures
    c.in_ok-extend_from_slice-2.ensures.items c.in_ok-push_quoted.ensures
