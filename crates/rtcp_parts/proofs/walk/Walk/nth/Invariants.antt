use Rattle.std.proofs.Common.{◌≤◌, ◌-◌}
use Rattle.rtcp_parts.proofs.Stepping.{HasStepped}
use Rattle.rtcp_parts.proofs.walk.Walk.nth.Given as goal

abbrev pub invariant-parts : goal.invariant-parts
invariant-parts g l =
    (l.passed ≤ l.index)
    × HasStepped g.Self.Walk.parts_of g.Self.Walk.is_left g.Self.Walk.keeps_boundary l.datagram l.passed l.cursor

abbrev pub decreases-parts : goal.decreases-parts
decreases-parts g l = l.index - l.passed
