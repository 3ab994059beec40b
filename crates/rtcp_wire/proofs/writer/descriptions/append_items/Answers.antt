-- Each item can be written and has room.
use Rattle.rtcp_wire.specs.WriterViews.{item_ref_of}
use Rattle.rtcp_wire.specs.Writing.{written_item, IsWritableItem}
use Rattle.rtcp_wire.proofs.Appending.{room_for_one, all_here}
use Rattle.rtcp_wire.proofs.writer.descriptions.append_items.Goals as goal

pub append_item-requires-clause-writable : goal.append_item-requires-clause-writable
append_item-requires-clause-writable c = all_here IsWritableItem item_ref_of c.args.items.now c.loop-item.item-index _
    c.loop-item-test.true c.requires.writable

pub append_item-requires-clause-room : goal.append_item-requires-clause-room
append_item-requires-clause-room c =
    room_for_one item_ref_of written_item c.args.items.now c.loop-item.item-index _ c.args.buffer.now.items
    c.loop-item.buffer.items 1472 c.loop-item-test.true c.loop-item.invariant c.requires.room
