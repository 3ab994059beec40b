-- A packet is the next one that is wanted, or is passed.
use Rattle.std.proofs.Common.{arith}
use Rattle.rtcp_parts.proofs.Boundaries.{boundary_on}
use Rattle.rtcp_parts.proofs.Packets.{passed_all, passed_by, passed_to}
use Rattle.rtcp_parts.proofs.packet.packet_from.Goals as goal

pub returns-in_err-packet-clause-next : goal.returns-in_err-packet-clause-next
returns-in_err-packet-clause-next c packets h =
    rw c.from_residual.ensures (passed_all c.args.wanted c.args.datagram.now c.packets.at packets
    (c.packets.invariant.1 packets h) (λ value others read. c.in_err-packet.ensures.first value others read))

pub returns-then-has-clause-next : goal.returns-then-has-clause-next
returns-then-has-clause-next c packets h =
    passed_to c.args.wanted c.args.datagram.now c.packets.at packets c.in_ok-packet.packet
    (c.packets.invariant.1 packets h) (λ none. cc (c.in_ok-packet.ensures.none none)) c.in_ok-packet.ensures.first
    (c.has.ensures.0 c.if-has.true)

pub returns-then-has-clause-own : goal.returns-then-has-clause-own
returns-then-has-clause-own c begins =
    let here = c.packets.invariant.2 begins in
    record {
      before = c.packets.at;
      place = c.in_ok-packet.ensures.place;
      begins = here;
      ends = boundary_on c.args.datagram.now c.packets.at c.in_ok-packet.packet here
          (λ none. cc (c.in_ok-packet.ensures.none none)) c.in_ok-packet.ensures.first c.in_ok-packet.ensures.place;
    }

pub packets-preserved : goal.packets-preserved
packets-preserved c = (
  omega (arith, c.packets.invariant.0, c.in_ok-packet.ensures.placed.begins, c.in_ok-packet.ensures.placed.ends),
  λ packets h. passed_by c.args.wanted c.args.datagram.now c.packets.at packets c.in_ok-packet.packet
      (c.packets.invariant.1 packets h) (λ none. cc (c.in_ok-packet.ensures.none none)) c.in_ok-packet.ensures.first
      (λ is. cc (c.if-has.ensures.1 is)),
  λ begins. boundary_on c.args.datagram.now c.packets.at c.in_ok-packet.packet (c.packets.invariant.2 begins)
      (λ none. cc (c.in_ok-packet.ensures.none none)) c.in_ok-packet.ensures.first c.in_ok-packet.ensures.place,
)
