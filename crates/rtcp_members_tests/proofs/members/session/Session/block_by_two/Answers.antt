-- The next source is due, and its block gives no packet.
use Rattle.std.proofs.Common.{rules, subst, sym}
use Rattle.rtcp_members.specs.Tables.{HasFew}
use Rattle.rtcp_members.proofs.LawLemmas.{first_is_due-answered}
use Rattle.rtcp_members.proofs.LawLemmas.{packets_are_few-block}
use Rattle.rtcp_members_tests.proofs.members.session.Session.block_by_two.Goals as goal

pub block_of-requires : goal.block_of-requires
block_of-requires g c = first_is_due-answered c.args.after (g.T.MemberTable.content c.args.self.now.table)
    c.in_ok-ssrc.ssrc (search rules)

pub invariant_of-self : goal.invariant_of-self
invariant_of-self g c =
    record {
      few = subst (HasFew c.args.self.now.facts) (sym c.block_of.ensures.content)
          (packets_are_few-block c.args.self.now.facts (g.T.MemberTable.content c.args.self.now.table) c.in_ok-ssrc.ssrc
          c.args.self.now.few);
    }
