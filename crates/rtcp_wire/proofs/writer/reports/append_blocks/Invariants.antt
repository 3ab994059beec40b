use Rattle.std.proofs.Common.{◌≡◌, ◌++◌, All, map, take}
use Rattle.std.specs.List.{flat_map}
use Rattle.rtcp_wire.specs.Views.{block_value}
use Rattle.rtcp_wire.specs.Writing.{written_block, IsBlockInRange}
use Rattle.rtcp_wire.proofs.writer.reports.append_blocks.Given as goal

abbrev pub invariant-loop-block : goal.invariant-loop-block
invariant-loop-block l =
    (l.buffer.items ≡ l.initial.buffer.items ++ flat_map written_block (map block_value (take l.block-index l.blocks)))
    × All IsBlockInRange (map block_value (take l.block-index l.blocks))
