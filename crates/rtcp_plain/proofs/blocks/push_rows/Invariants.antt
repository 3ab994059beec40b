use Rattle.std.proofs.Common.{◌≡◌, ◌++◌}
use Rattle.std.specs.List.{flat_map}
use Rattle.rtcp_plain.specs.Blocks.{block_row_text}
use Rattle.rtcp_plain.proofs.blocks.push_rows.Given as goal

-- what is written, and then the rows of the blocks that are left
abbrev pub invariant-loop-block : goal.invariant-loop-block
invariant-loop-block l =
    l.out.items ++ flat_map (block_row_text l.reporter) l.block-iterator
    ≡ l.fn.out.items ++ flat_map (block_row_text l.reporter) l.fn.blocks
