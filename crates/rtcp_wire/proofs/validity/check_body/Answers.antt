use Rattle.std.proofs.Common.{◌≤◌, length, sym, subst, arith}
use Rattle.rtcp_wire.specs.Walks.{body_says}
use Rattle.rtcp_wire.specs.Faults.{least_size}
use Rattle.rtcp_wire.specs.Summaries.{sender_of, AddsPacket}
use Rattle.rtcp_wire.proofs.BodyOrFault.{plain_body, other_body}
use Rattle.rtcp_wire.proofs.validity.check_body.Goals as goal

pub returns-in_ok-has_room-in-200-clause-valid : goal.returns-in_ok-has_room-in-200-clause-valid
returns-in_ok-has_room-in-200-clause-valid c =
    let room = subst (λ k. least_size k c.args.count ≤ length c.args.body.now) (sym c.in-200.is)
    c.in_ok-has_room-in-200.ensures in
    plain_body c.args.kind c.args.count c.args.body.now room (λ e. omega (arith, e, c.in-200.is))
    (λ e. omega (arith, e, c.in-200.is))

pub returns-in_ok-has_room-in-201-clause-valid : goal.returns-in_ok-has_room-in-201-clause-valid
returns-in_ok-has_room-in-201-clause-valid c =
    let room = subst (λ k. least_size k c.args.count ≤ length c.args.body.now) (sym c.in-201.is)
    c.in_ok-has_room-in-201.ensures in
    plain_body c.args.kind c.args.count c.args.body.now room (λ e. omega (arith, e, c.in-201.is))
    (λ e. omega (arith, e, c.in-201.is))

pub returns-in_ok-has_room-in-204-clause-valid : goal.returns-in_ok-has_room-in-204-clause-valid
returns-in_ok-has_room-in-204-clause-valid c =
    let room = subst (λ k. least_size k c.args.count ≤ length c.args.body.now) (sym c.in-204.is)
    c.in_ok-has_room-in-204.ensures in
    plain_body c.args.kind c.args.count c.args.body.now room (λ e. omega (arith, e, c.in-204.is))
    (λ e. omega (arith, e, c.in-204.is))

pub returns-in_ok-check_chunks-in-202-clause-sums : goal.returns-in_ok-check_chunks-in-202-clause-sums
returns-in_ok-check_chunks-in-202-clause-sums c =
    subst (λ k. AddsPacket (sender_of c.args.datagram.now) c.args.is_first c.args.summary.now
    c.check_chunks.new.summary (body_says k c.args.count c.args.body.now)) (sym c.in-202.is)
    (c.in_ok-check_chunks-in-202.ensures.sums c.args.is_first)

pub returns-in_default-clause-valid : goal.returns-in_default-clause-valid
returns-in_default-clause-valid c =
    other_body c.args.kind c.args.count c.args.body.now (λ e. omega (arith, e)) (λ e. omega (arith, e))
    (λ e. omega (arith, e)) (λ e. omega (arith, e)) (λ e. omega (arith, e))
