-- Each packet can be written and has room.
use Rattle.rtcp_wire.specs.WriterViews.{packet_ref_of}
use Rattle.rtcp_wire.specs.Writing.{written, IsWritable}
use Rattle.rtcp_wire.proofs.Appending.{room_for_one, all_here}
use Rattle.rtcp_wire.proofs.writer.packets.append_packets.Goals as goal

pub append_packet-requires-clause-writable : goal.append_packet-requires-clause-writable
append_packet-requires-clause-writable c = all_here IsWritable packet_ref_of c.args.packets.now
    c.loop-packet.packet-index _ c.loop-packet-test.true c.requires.writable

pub append_packet-requires-clause-room : goal.append_packet-requires-clause-room
append_packet-requires-clause-room c =
    room_for_one packet_ref_of written c.args.packets.now c.loop-packet.packet-index _ c.args.buffer.now.items
    c.loop-packet.buffer.items 1472 c.loop-packet-test.true c.loop-packet.invariant.0 c.requires.room
