-- To forget a source gives no packet.
use Rattle.std.proofs.Common.{subst, sym}
use Rattle.rtcp_members.specs.Tables.{HasFew}
use Rattle.rtcp_members.proofs.LawLemmas.{packets_are_few-forgotten}
use Rattle.rtcp_members_tests.proofs.members.session.Session.forget.Goals as goal

pub invariant_of-self : goal.invariant_of-self
invariant_of-self g c =
    record {
      few = subst (HasFew c.args.self.now.facts) (sym c.forget.ensures.content)
          (packets_are_few-forgotten c.args.self.now.facts (g.T.MemberTable.content c.args.self.now.table) c.args.ssrc
          c.args.self.now.few);
    }
