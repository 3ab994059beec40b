use Rattle.std.proofs.Common.{◌≤◌, ◌-◌, List, length, drop}
use Rattle.rtcp_wire.specs.Grammar.{Joins, IsSpelling}
use Rattle.rtcp_wire.specs.Values.{RtcpPacket}
use Rattle.rtcp_parts.specs.Cursors.{IsBoundary}
use Rattle.rtcp_parts.proofs.Packets.{Passed}
use Rattle.rtcp_parts.proofs.packet.packet_from.Given as goal

-- the packets from here on are those after some that are not wanted, and none is cut here
abbrev pub invariant-packets : goal.invariant-packets
invariant-packets l =
    (l.from ≤ l.at)
    × ((packets : List RtcpPacket) → Joins IsSpelling packets (drop l.from l.datagram)
    → Passed l.wanted l.datagram l.at packets)
    × (IsBoundary l.datagram l.from → IsBoundary l.datagram l.at)

abbrev pub decreases-packets : goal.decreases-packets
decreases-packets l = length l.datagram - l.at
