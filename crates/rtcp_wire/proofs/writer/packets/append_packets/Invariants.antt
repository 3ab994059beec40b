use Rattle.std.proofs.Common.{◌≡◌, ◌++◌, All, map, take}
use Rattle.std.specs.List.{flat_map}
use Rattle.rtcp_wire.specs.WriterViews.{packet_ref_of}
use Rattle.rtcp_wire.specs.Writing.{written, IsInRange}
use Rattle.rtcp_wire.proofs.writer.packets.append_packets.Given as goal

abbrev pub invariant-loop-packet : goal.invariant-loop-packet
invariant-loop-packet l =
    (l.buffer.items ≡ l.initial.buffer.items ++ flat_map written (map packet_ref_of (take l.packet-index l.packets)))
    × All IsInRange (map packet_ref_of (take l.packet-index l.packets))
