use Rattle.rtcp_plain.proofs.PartLemmas.{three_parts}
use Rattle.rtcp_plain.proofs.reports.push_block.Goals as goal

pub returns : goal.returns
returns c =
    three_parts _ _ _ _ _ _ _ c.in_ok-extend_from_slice.ensures.items c.in_ok-push_word.ensures
    c.in_ok-push_block_facts.ensures
