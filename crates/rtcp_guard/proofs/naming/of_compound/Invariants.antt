-- The names so far and those that are left are all names, and so are the goodbyes.
use Rattle.std.proofs.Common.{◌≡◌, ◌≤◌, ◌++◌, length}
use Rattle.std.specs.Option.{option_or}
use Rattle.rtcp_guard.specs.Naming.{goodbye_of_compound, names_of_compound}
use Rattle.rtcp_guard.proofs.Leavers.{first_goodbye}
use Rattle.rtcp_guard.proofs.Runs.{names_after}
use Rattle.rtcp_guard.proofs.naming.of_compound.Given as goal

abbrev pub invariant-facts : goal.invariant-facts
invariant-facts g l = record {
  goes_on : l.names.items ++ names_after l.own l.last l.fact-iterator ≡ names_of_compound l.own l.compound;
  goodbye : option_or l.goodbye (first_goodbye l.own l.fact-iterator) ≡ goodbye_of_compound l.own l.compound;
  fits : length l.names.items ≤ g.row.N;
}
