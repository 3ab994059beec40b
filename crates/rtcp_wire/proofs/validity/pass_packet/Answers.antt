use Rattle.std.proofs.Common.{◌∙◌, ap, take, drop, subst}
use Rattle.rtcp_wire.specs.Readings.{size_of}
use Rattle.rtcp_wire.specs.Headers.{type_of, count_of}
use Rattle.rtcp_wire.specs.Parts.{IsWhole, IsUnpadded}
use Rattle.rtcp_wire.specs.Summaries.{sender_of, AddsPacket}
use Rattle.rtcp_wire.proofs.PacketOrFault.{HasBody, packet_passed, packet_summed}
use Rattle.rtcp_wire.proofs.validity.pass_packet.Goals as goal

pub returns : goal.returns
returns c =
    let octets = c.args.reader.now in
    let header = c.in_ok-header.header in
    let body = c.in_ok-body.body.now in
    let fields = c.in_ok-header.ensures.fields in
    let size = fields.2 ∙ ap size_of c.rest.ensures in
    let own = c.take-octets.ensures.taken ∙ ap (λ n. take n octets) size in
    let left = c.take-octets.ensures.rest ∙ ap (λ n. drop n octets) size in
    let has : HasBody c.args.is_first octets body header.kind header.count = record {
      good = subst (IsWhole c.args.is_first) c.rest.ensures c.in_ok-header.ensures.whole;
      unpadded = subst (λ s. IsUnpadded s body) own c.in_ok-body.ensures;
      kind_is = fields.1 ∙ ap type_of c.rest.ensures;
      count_is = fields.0 ∙ ap count_of c.rest.ensures;
    } in
    record {
      valid = rw left (packet_passed c.args.is_first octets body header.kind header.count has c.check_body.result
          c.check_body.ensures.valid);
      sums = packet_summed c.args.is_first octets body header.kind header.count has
          (λ _ packet. AddsPacket (sender_of c.args.datagram.now) c.args.is_first c.args.summary.now
          c.check_body.new.summary packet) c.check_body.result c.check_body.ensures.sums;
    }
