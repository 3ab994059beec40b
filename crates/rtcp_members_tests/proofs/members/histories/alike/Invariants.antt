-- Each step was at most one fact.
use Rattle.std.proofs.Common.{◌≤◌}
use Rattle.rtcp_members_tests.proofs.members.histories.alike.Given as goal

abbrev pub invariant-steps : goal.invariant-steps
invariant-steps g l = (l.list.facts ≤ l.step) × ((l.sorted.facts ≤ l.step) × (l.room.facts ≤ l.step))
