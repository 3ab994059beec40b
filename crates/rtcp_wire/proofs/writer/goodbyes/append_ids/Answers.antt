-- One identifier more is appended.
use Rattle.std.proofs.Common.{ℕ, ◌<◌, ◌^◌}
use Rattle.std.proofs.lemmas.List.Elements.{All-more}
use Rattle.rtcp_wire.specs.Writing.{written_word}
use Rattle.rtcp_wire.proofs.Appending.{one_number_more, room_for_number}
use Rattle.rtcp_wire.proofs.writer.goodbyes.append_ids.Goals as goal

pub append_u32-requires : goal.append_u32-requires
append_u32-requires c =
    room_for_number written_word c.args.ids.now c.loop-id.id-index 0 c.args.buffer.now.items c.loop-id.buffer.items 1472
    c.loop-id-test.true c.loop-id.invariant.0 c.requires

pub loop-id-preserved : goal.loop-id-preserved
loop-id-preserved c = (
  one_number_more written_word c.args.ids.now c.loop-id.id-index 0 c.args.buffer.now.items c.loop-id.buffer.items
      c.append_u32.new.buffer.items c.loop-id-test.true c.loop-id.invariant.0 c.append_u32.ensures.octets,
  All-more (λ (id : ℕ). id < 2 ^ 32) c.args.ids.now c.loop-id.id-index 0 c.loop-id-test.true c.loop-id.invariant.1
      c.append_u32.ensures.in_range,
)
