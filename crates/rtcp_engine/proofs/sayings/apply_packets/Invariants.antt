use Rattle.rtcp_wire.specs.Facts.{facts_of}
use Rattle.rtcp_engine.proofs.Saying.{Leads}
use Rattle.rtcp_engine.proofs.sayings.apply_packets.Given as goal

abbrev pub invariant-packets : goal.invariant-packets
invariant-packets g l = Leads (facts_of l.packet-iterator) (facts_of l.fn.packets) l.t (g.T.MemberTable.content l.table)
    (g.T.MemberTable.content l.fn.table) l.moved
