use Rattle.std.proofs.Common.{◌≡◌, length, map, take}
use Rattle.std.specs.Prelude.{min}
use Rattle.std.specs.List.{flat_map}
use Rattle.rtcp_wire.specs.WriterViews.{packet_ref_of}
use Rattle.rtcp_wire.specs.Writing.{written}
use Rattle.rtcp_wire.proofs.writer.size.compound_size.Given as goal

abbrev pub invariant-loop-packet : goal.invariant-loop-packet
invariant-loop-packet l = l.size ≡ min (length (flat_map written (map packet_ref_of (take l.packet-index l.packets))))
    262145
