-- Each source so far was one fact.
use Rattle.std.proofs.Common.{◌≡◌}
use Rattle.rtcp_members_tests.proofs.members.rooms.full.Given as goal

abbrev pub invariant-ssrcs : goal.invariant-ssrcs
invariant-ssrcs g l = l.session.facts ≡ l.below
