use Rattle.std.proofs.Common.{◌++◌, List, ℕ, codes, ap, subst, ◌∙◌}
use Rattle.std.specs.List.{flat_map}
use Rattle.rtcp_wire.specs.Values.{RtcpPacket}
use Rattle.rtcp_text.specs.Text.{packet_text}
use Rattle.rtcp_print.proofs.PageLemmas.{Brings, both, goes_on}
use Rattle.rtcp_print.proofs.brief.push_accepted.Goals as goal

pub loop-packet-preserved : goal.loop-packet-preserved
loop-packet-preserved c = record {
  same = c.push_packet.ensures.same ∙ c.push-in-loop-packet.ensures.same ∙ c.loop-packet.invariant.same;
  brings =
      let text = λ (packet : RtcpPacket). codes " " ++ packet_text packet in
      goes_on (subst (λ (rest : List ℕ). Brings c.push.new.self c.loop-packet.page rest
      (flat_map text c.args.compound.now))
      (ap (flat_map text) c.in-Some.ensures.steps) c.loop-packet.invariant.brings)
      (both c.push-in-loop-packet.ensures.adds c.push_packet.ensures.adds);
}
