-- The walk is in the next BYE with sources, or none is left.
use Rattle.std.proofs.Common.{◌+◌, length, refl, arith}
use Rattle.rtcp_parts.specs.declared.cursor.Cursor.{Cursor}
use Rattle.rtcp_parts.proofs.GoodbyeWalks.{at_first_source, none_in, with_sources}
use Rattle.rtcp_parts.proofs.Entering.{none_among, ready_at_end, ready_in_packet}
use Rattle.rtcp_parts.proofs.goodbyes.ready.Goals as goal

pub returns-in-Some : goal.returns-in-Some
returns-in-Some c =
    let placed = c.in-Some.ensures.placed in
    let packet = c.in-Some.packet in
    let now : Cursor = record {
      next = packet.next;
      place = packet.place;
      end = packet.place + length packet.body.now;
      left = c.from.result;
      ssrc = 0;
    } in
    ready_in_packet with_sources none_in c.args.datagram.now c.args.cursor.now now packet c.if-cursor-ne0.false
    placed.0 refl (omega arith) (omega arith) refl (omega (arith, placed.1.2, c.from.ensures))
    (λ packets h. c.in-Some.ensures.next packets h)
    (λ value body. at_first_source c.args.datagram.now packet now c.args.cursor.now.next value placed.0 refl refl
    c.from.ensures body (omega (arith, placed.1.0, placed.1.1)))

pub returns-in-None : goal.returns-in-None
returns-in-None c =
    ready_at_end c.args.datagram.now c.args.cursor.now c.ended.result c.if-cursor-ne0.false c.ended.ensures
    (λ packets h. none_among with_sources none_in packets (c.in-None.ensures.next packets h))
