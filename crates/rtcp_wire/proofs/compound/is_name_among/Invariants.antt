use Rattle.std.proofs.Common.{◌≡◌}
use Rattle.std.specs.List.{list_any}
use Rattle.rtcp_wire.specs.Sole.{is_name}
use Rattle.rtcp_wire.proofs.compound.is_name_among.Given as goal

-- what is left gives a name where all do
abbrev pub invariant-facts : goal.invariant-facts
invariant-facts l = list_any is_name l.fact-iterator ≡ list_any is_name l.fn.facts
