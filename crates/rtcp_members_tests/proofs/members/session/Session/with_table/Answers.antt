-- An empty table was given no packet.
use Rattle.std.proofs.Common.{subst, sym}
use Rattle.rtcp_members.specs.Tables.{HasFew}
use Rattle.rtcp_members.proofs.LawLemmas.{packets_are_few-none}
use Rattle.rtcp_members_tests.proofs.members.session.Session.with_table.Goals as goal

pub invariant_of-result : goal.invariant_of-result
invariant_of-result g c = record { few = subst (HasFew 0) (sym c.requires) (packets_are_few-none c.args.capacity) }
