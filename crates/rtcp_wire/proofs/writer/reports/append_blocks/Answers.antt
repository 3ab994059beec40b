-- One block more is appended.
use Rattle.std.proofs.Common.{pos}
use Rattle.rtcp_wire.specs.Views.{block_value}
use Rattle.rtcp_wire.specs.Writing.{written_block, IsBlockInRange}
use Rattle.rtcp_wire.proofs.Appending.{one_more, room_for_one, all_more}
use Rattle.rtcp_wire.proofs.writer.reports.append_blocks.Goals as goal

pub append_block-requires : goal.append_block-requires
append_block-requires c =
    room_for_one block_value written_block c.args.blocks.now c.loop-block.block-index
    (record { ssrc = 0; fraction = 0; lost = pos 0; highest = 0; jitter = 0; lsr = 0; dlsr = 0 })
    c.args.buffer.now.items c.loop-block.buffer.items 1472 c.loop-block-test.true c.loop-block.invariant.0
    c.requires

pub loop-block-preserved : goal.loop-block-preserved
loop-block-preserved c = (
  one_more block_value written_block c.args.blocks.now c.loop-block.block-index _ c.args.buffer.now.items
      c.loop-block.buffer.items c.append_block.new.buffer.items c.loop-block-test.true c.loop-block.invariant.0
      c.append_block.ensures.octets,
  all_more IsBlockInRange block_value c.args.blocks.now c.loop-block.block-index _ c.loop-block-test.true
      c.loop-block.invariant.1 c.append_block.ensures.in_range,
)
