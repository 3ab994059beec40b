-- The sender is that of the next sender report.
use Rattle.std.proofs.Common.{arith}
use Rattle.rtcp_parts.proofs.Entering.{none_among}
use Rattle.rtcp_parts.proofs.SinglePackets.{no_sender_in, reports, sender_next, sender_room, takes_none, takes_one}
use Rattle.rtcp_parts.proofs.senders.SenderWalk.take.Goals as goal

pub returns-in_err-packet-clause-takes : goal.returns-in_err-packet-clause-takes
returns-in_err-packet-clause-takes c =
    rw c.from_residual.ensures (takes_none c.args.datagram.now c.args.cursor.now c.ended.result c.ended.ensures
    (λ packets h. none_among reports no_sender_in packets (c.in_err-packet.ensures.next packets h)))

pub returns-in_err-sender-clause-takes : goal.returns-in_err-sender-clause-takes
returns-in_err-sender-clause-takes c =
    let packet = c.in_ok-packet.packet in
    let placed = c.in_ok-packet.ensures.placed in
    rw c.from_residual-in_err-sender.ensures
    (takes_none c.args.datagram.now c.args.cursor.now c.ended.result c.ended.ensures
    (λ packets h.
    let next = c.in_ok-packet.ensures.next packets h in
    let room = sender_room next.value packet.kind packet.count packet.body.now next.first.body
    (omega (arith, placed.1.0, placed.1.1)) in
    absurd (omega (arith, room.0, c.in_err-sender.ensures))))

pub returns-clause-takes : goal.returns-clause-takes
returns-clause-takes c =
    let placed = c.in_ok-packet.ensures.placed in
    takes_one c.args.datagram.now c.args.cursor.now c.ended-2.result c.requires.within c.in_ok-packet.packet
    c.in_ok-sender.sender placed.0 c.ended-2.ensures
    (λ packets h. sender_next c.args.datagram.now packets c.in_ok-packet.packet c.in_ok-sender.sender
    (c.in_ok-packet.ensures.next packets h) (omega (arith, placed.1.0, placed.1.1)) c.in_ok-sender.ensures.1)
