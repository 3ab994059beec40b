use Rattle.std.proofs.Common.{◌≡◌, ◌++◌}
use Rattle.rtcp_wire.specs.Facts.{facts_of}
use Rattle.rtcp_wire_tests.proofs.tests.facts.visited.Given as goal

-- what was found and what is left
abbrev pub invariant-loop-fact : goal.invariant-loop-fact
invariant-loop-fact l = facts_of l.compound ≡ l.found.items ++ l.fact-iterator
