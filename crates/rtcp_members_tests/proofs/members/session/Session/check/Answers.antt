-- A check gives no packet.
use Rattle.std.proofs.Common.{subst, sym}
use Rattle.rtcp_members.specs.Traces.{horizons_at}
use Rattle.rtcp_members.specs.Tables.{HasFew}
use Rattle.rtcp_members.proofs.LawLemmas.{packets_are_few-check}
use Rattle.rtcp_members_tests.proofs.members.session.Session.check.Goals as goal

pub invariant_of-self : goal.invariant_of-self
invariant_of-self g c =
    record {
      few = subst (HasFew c.args.self.now.facts) (sym c.check.ensures.content)
          (packets_are_few-check c.args.self.now.facts (g.T.MemberTable.content c.args.self.now.table)
          (horizons_at c.args.silent c.args.«data» c.args.gone) c.args.self.now.few);
    }
