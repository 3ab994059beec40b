use Rattle.std.proofs.Common.{ap, arith, length}
use Rattle.rtcp_wire.proofs.RtpPlaces.{payload_stands, sizes}
use Rattle.rtcp_wire.proofs.rtp.head.RtpHead.payload_offset.Goals as goal

pub overflow_sub-result : goal.overflow_sub-result
overflow_sub-result c = omega (arith, sizes c.args.datagram.now c.args.self.now c.requires _ c.padding_size.ensures)

pub overflow_sub-result-2 : goal.overflow_sub-result-2
overflow_sub-result-2 c =
    omega (
      arith,
      sizes c.args.datagram.now c.args.self.now c.requires _ c.padding_size.ensures,
      ap length c.payload.ensures,
    )

pub returns-clause-offset : goal.returns-clause-offset
returns-clause-offset c spelled =
    omega (
      arith,
      sizes c.args.datagram.now c.args.self.now spelled _ c.padding_size.ensures,
      ap length c.payload.ensures,
    )

pub returns-clause-stands : goal.returns-clause-stands
returns-clause-stands c =
    payload_stands c.args.datagram.now c.args.self.now c.requires _ (returns-clause-offset c c.requires)
