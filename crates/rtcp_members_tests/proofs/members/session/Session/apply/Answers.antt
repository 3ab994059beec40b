-- One fact more is one packet more at most.
use Rattle.std.proofs.Common.{◌≤◌, ◌+◌, true, false, if◌then◌else◌, arith, subst, sym}
use Rattle.rtcp_wire.specs.Facts.{is_media}
use Rattle.rtcp_members.specs.Tables.{HasFew, after_fact}
use Rattle.rtcp_members.proofs.LawLemmas.{packets_are_few-fact, packets_are_few-more}
use Rattle.rtcp_members_tests.proofs.members.session.Session.apply.Goals as goal

pub invariant_of-self : goal.invariant_of-self
invariant_of-self g c =
    let facts = c.args.self.now.facts in
    let next = after_fact c.args.fact c.args.t (g.T.MemberTable.content c.args.self.now.table) in
    let counted = packets_are_few-fact facts (g.T.MemberTable.content c.args.self.now.table) c.args.fact c.args.t
    c.args.self.now.few in
    let one = elim (is_media c.args.fact) as (λ b. (if b then facts + 1 else facts) ≤ facts + 1) [
      | true ↦ omega arith
      | false ↦ omega arith
    ] in
    record {
      few = subst (HasFew (facts + 1)) (sym c.apply-applied.ensures.content)
          (packets_are_few-more _ (facts + 1) next one counted);
    }
