-- An RTP packet is one more.
use Rattle.std.proofs.Common.{◌+◌, subst, sym}
use Rattle.rtcp_wire.specs.declared.fact.Fact.TheVariants.{Media}
use Rattle.rtcp_members.specs.Tables.{HasFew}
use Rattle.rtcp_members.proofs.LawLemmas.{packets_are_few-fact}
use Rattle.rtcp_report_tests.proofs.session.Session.packet.Goals as goal

pub invariant_of-self : goal.invariant_of-self
invariant_of-self g c =
    record {
      few = subst (HasFew (c.args.self.now.facts + 1)) (sym c.apply.ensures.content)
          (packets_are_few-fact c.args.self.now.facts (g.T.MemberTable.content c.args.self.now.table)
          (Media c.args.ssrc c.args.seq 0 0 8000) 0 c.args.self.now.few);
    }
