use Rattle.std.proofs.Common.{◌≡◌, length}
use Rattle.rtcp_wire.specs.FactsLeft.{facts_left}
use Rattle.rtcp_wire.proofs.fact.remaining.FactsIterator.next.Given as goal

-- no fact was passed over
abbrev pub invariant-packets : goal.invariant-packets
invariant-packets l = l.fn.self ≡ facts_left l.self-inside.first l.self-inside.chunks l.self-inside.gone
    l.self-inside.packets

abbrev pub decreases-packets : goal.decreases-packets
decreases-packets l = length l.self-inside.packets
