-- The walk is in the next report with blocks, or none is left.
use Rattle.std.proofs.Common.{arith}
use Rattle.rtcp_parts.proofs.BlockWalks.{at_first_block, none_in, room_before, with_blocks}
use Rattle.rtcp_parts.proofs.Entering.{none_among, ready_at_end, ready_in_packet}
use Rattle.rtcp_parts.proofs.blocks.ready.Goals as goal

pub returns-in_default : goal.returns-in_default
returns-in_default c =
    ready_at_end c.args.datagram.now c.args.cursor.now c.ended.result c.if-cursor-ne0.false c.ended.ensures
    (λ packets h. none_among with_blocks none_in packets (c.in_default.ensures.next packets h))

pub returns-in-Some-in_report : goal.returns-in-Some-in_report
returns-in-Some-in_report c =
    let at = c.in-Some-in_report.ensures in
    let placed = c.in-Some.ensures.placed in
    ready_in_packet with_blocks none_in c.args.datagram.now c.args.cursor.now c.in-Some-in_report.cursor
    c.in-Some.packet c.if-cursor-ne0.false placed.0 at.1.next (omega (arith, at.1.place))
    (omega (arith, at.1.place, at.1.end, at.0)) at.1.end (omega (arith, at.1.left, placed.1.2))
    (λ packets h. c.in-Some.ensures.next packets h)
    (λ value body. at_first_block c.args.datagram.now c.in-Some.packet c.in-Some-in_report.cursor
    c.args.cursor.now.next value placed.0 at.1 body placed.1.0 placed.1.1)

pub returns-in-None : goal.returns-in-None
returns-in-None c =
    ready_at_end c.args.datagram.now c.args.cursor.now c.ended-in-None.result c.if-cursor-ne0.false
    c.ended-in-None.ensures
    (λ packets h.
    let next = c.in-Some.ensures.next packets h in
    let placed = c.in-Some.ensures.placed in
    let packet = c.in-Some.packet in
    let room = room_before next.value packet.kind packet.count packet.body.now next.first.body placed.1.0 placed.1.1 in
    absurd (omega (arith, c.in-None.ensures, room)))
