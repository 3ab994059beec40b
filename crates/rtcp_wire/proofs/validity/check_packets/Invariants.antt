use Rattle.std.proofs.Common.{◌-◌, ◌==◌, length}
use Rattle.rtcp_wire.specs.Summaries.{sender_of}
use Rattle.rtcp_wire.specs.Walks.{packets_in}
use Rattle.rtcp_wire.proofs.Summing.{LeavesPackets}
use Rattle.rtcp_wire.proofs.Walking.{HasPassed}
use Rattle.rtcp_wire.proofs.validity.check_packets.Given as goal

-- Packets were passed, and are summed up.
abbrev pub invariant-packets : goal.invariant-packets
invariant-packets l = record {
  passed : HasPassed l.datagram l.reader;
  summed : LeavesPackets (sender_of l.datagram) ((length l.datagram - length l.reader) == 0)
      l.initial.summary l.summary (packets_in l.datagram) (packets_in l.reader);
}

abbrev pub decreases-packets : goal.decreases-packets
decreases-packets l = length l.reader
