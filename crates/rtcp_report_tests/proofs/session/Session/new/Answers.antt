-- An empty table was given no packet.
use Rattle.std.proofs.Common.{subst, sym}
use Rattle.rtcp_members.specs.Tables.{HasFew}
use Rattle.rtcp_members.proofs.LawLemmas.{packets_are_few-none}
use Rattle.rtcp_report_tests.proofs.session.Session.new.Goals as goal

pub invariant_of-result : goal.invariant_of-result
invariant_of-result g c = record { few = subst (HasFew 0) (sym c.empty.ensures) (packets_are_few-none 1024) }
