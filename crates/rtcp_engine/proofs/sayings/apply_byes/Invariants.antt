use Rattle.rtcp_engine.specs.state.Sayings.{facts_of_byes}
use Rattle.rtcp_engine.proofs.Saying.{Leads}
use Rattle.rtcp_engine.proofs.sayings.apply_byes.Given as goal

abbrev pub invariant-ids : goal.invariant-ids
invariant-ids g l = Leads (facts_of_byes l.id-iterator) (facts_of_byes l.fn.ids) l.t
    (g.T.MemberTable.content l.table)
    (g.T.MemberTable.content l.fn.table) l.moved
