use Rattle.rtcp_engine.specs.answers.Arrivals.{facts_of_csrcs}
use Rattle.rtcp_engine.proofs.Saying.{Leads}
use Rattle.rtcp_engine.proofs.table.apply_csrcs.Given as goal

abbrev pub invariant-csrcs : goal.invariant-csrcs
invariant-csrcs g l = Leads (facts_of_csrcs l.own l.csrc-iterator) (facts_of_csrcs l.own l.fn.head.csrcs) l.t
    (g.T.MemberTable.content l.table) (g.T.MemberTable.content l.fn.table) l.moved
