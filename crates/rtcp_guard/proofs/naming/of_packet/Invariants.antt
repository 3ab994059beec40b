-- The names so far and those that are left are all names.
use Rattle.std.proofs.Common.{◌≡◌, ◌≤◌, ◌+◌, ◌++◌, length}
use Rattle.rtcp_guard.specs.Naming.{but, names_of_packet}
use Rattle.rtcp_guard.proofs.naming.of_packet.Given as goal

abbrev pub invariant-csrcs : goal.invariant-csrcs
invariant-csrcs l = record {
  goes_on : l.names.items ++ but l.own l.csrc-iterator ≡ names_of_packet l.own l.head;
  room : length l.names.items + length l.csrc-iterator ≤ 16;
}
