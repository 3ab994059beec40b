-- The packet is the next one of an application.
use Rattle.std.proofs.Common.{subst, sym, arith}
use Rattle.rtcp_parts.specs.Cursors.{IsBoundary}
use Rattle.rtcp_parts.specs.declared.cursor.Cursor.{Cursor}
use Rattle.rtcp_parts.proofs.Boundaries.{boundary_at_end}
use Rattle.rtcp_parts.proofs.Entering.{none_among}
use Rattle.rtcp_parts.proofs.SinglePackets.{app_next, app_room, applications, defined, no_app_in, takes_none, takes_one}
use Rattle.rtcp_parts.proofs.apps.PlacedAppWalk.take.Goals as goal

pub returns-in_err-packet-clause-takes : goal.returns-in_err-packet-clause-takes
returns-in_err-packet-clause-takes c =
    rw c.from_residual.ensures (takes_none c.args.datagram.now c.args.cursor.now c.ended.result c.ended.ensures
    (λ packets h. none_among applications no_app_in packets (c.in_err-packet.ensures.next packets h)))

pub returns-in_err-app-clause-takes : goal.returns-in_err-app-clause-takes
returns-in_err-app-clause-takes c =
    let packet = c.in_ok-packet.packet in
    let placed = c.in_ok-packet.ensures.placed in
    rw c.from_residual-in_err-app.ensures
    (takes_none c.args.datagram.now c.args.cursor.now c.ended.result c.ended.ensures
    (λ packets h.
    let next = c.in_ok-packet.ensures.next packets h in
    let is = defined next.value packet.kind packet.count packet.body.now next.first.body
    (omega (arith, placed.1.0, placed.1.1)) in
    absurd (omega (arith, app_room next.value packet.count packet.body.now is, c.in_err-app.ensures))))

pub returns-clause-takes : goal.returns-clause-takes
returns-clause-takes c =
    let placed = c.in_ok-packet.ensures.placed in
    takes_one c.args.datagram.now c.args.cursor.now c.ended-2.result c.requires.within c.in_ok-packet.packet
    c.in_ok-app.app placed.0 c.ended-2.ensures
    (λ packets h. app_next c.args.datagram.now packets c.in_ok-packet.packet c.in_ok-app.app
    (c.in_ok-packet.ensures.next packets h) (omega (arith, placed.1.0, placed.1.1)) c.in_ok-app.ensures.1)

pub returns-in_err-packet-clause-own : goal.returns-in_err-packet-clause-own
returns-in_err-packet-clause-own c keeps here =
    rw c.from_residual.ensures (
      subst (λ (cursor : Cursor). IsBoundary c.args.datagram.now cursor.next)
          (sym c.ended.ensures) (boundary_at_end c.args.datagram.now c.args.cursor.now.next here),
      tt {0},
    )

pub returns-in_err-app-clause-own : goal.returns-in_err-app-clause-own
returns-in_err-app-clause-own c keeps here =
    rw c.from_residual-in_err-app.ensures (
      subst (λ (cursor : Cursor). IsBoundary c.args.datagram.now cursor.next)
          (sym c.ended.ensures) (boundary_at_end c.args.datagram.now c.args.cursor.now.next here),
      tt {0},
    )

pub returns-clause-own : goal.returns-clause-own
returns-clause-own c keeps here =
    let own = c.in_ok-packet.ensures.own here in (
      subst (λ (cursor : Cursor). IsBoundary c.args.datagram.now cursor.next) (sym c.ended-2.ensures) own.ends,
      record {
        before = own.before;
        place = omega (arith, own.place, c.in_ok-app.ensures.1.place);
        begins = own.begins;
      },
    )
