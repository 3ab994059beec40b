use Rattle.std.proofs.Common.{ap}
use Rattle.rtcp_wire.specs.Facts.{facts_of, facts_of_packet}
use Rattle.rtcp_wire.specs.Views.{packet_value}
use Rattle.rtcp_engine.proofs.Saying.{leads_on}
use Rattle.rtcp_engine.proofs.sayings.apply_packets.Goals as goal

pub packets-preserved : goal.packets-preserved
packets-preserved g c = leads_on (facts_of_packet (packet_value c.in-Some.packet)) (facts_of c.next.new.self)
    (ap facts_of c.in-Some.ensures.steps)
    c.apply_packet-by_this.ensures.content c.apply_packet-by_this.ensures.moved c.packets.invariant
