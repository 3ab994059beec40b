use Rattle.rtcp_engine.specs.state.Sayings.{facts_of_chunks}
use Rattle.rtcp_engine.proofs.Saying.{Leads}
use Rattle.rtcp_engine.proofs.sayings.apply_chunks.Given as goal

abbrev pub invariant-chunks : goal.invariant-chunks
invariant-chunks g l = Leads (facts_of_chunks l.chunk-iterator) (facts_of_chunks l.fn.chunks) l.t
    (g.T.MemberTable.content l.table)
    (g.T.MemberTable.content l.fn.table) l.moved
