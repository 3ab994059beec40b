use Rattle.rtcp_plain.proofs.PartLemmas.{six_parts}
use Rattle.rtcp_plain.proofs.blocks.push_block_row.Goals as goal

pub returns : goal.returns
returns c =
    six_parts _ _ _ _ _ _ _ _ _ _ _ _ _ c.in_ok-extend_from_slice.ensures.items c.in_ok-push_word.ensures
    c.in_ok-extend_from_slice-2.ensures.items c.in_ok-push_word-2.ensures c.in_ok-push_block_facts.ensures
    c.in_ok-push.ensures.items
