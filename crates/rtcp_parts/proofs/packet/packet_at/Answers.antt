-- The packet is the first of those that stand there.
use Rattle.std.proofs.Common.{◌≤◌, ℕ, List, length, take, refl, ap, subst, ◌∙◌, arith}
use Rattle.rtcp_wire.specs.Readings.{size_of}
use Rattle.rtcp_parts.proofs.OctetParts.{body_placed}
use Rattle.rtcp_parts.proofs.Packets.{comes_first}
use Rattle.rtcp_parts.proofs.packet.packet_at.Goals as goal

pub returns-clause-placed : goal.returns-clause-placed
returns-clause-placed c =
    let rest = c.in_ok-rest.ensures.cases in
    let size = c.in_ok-size_at.ensures in
    let octets = c.in_ok-octets.ensures.cases in
    let own = octets.1 ∙ ap (λ (n : ℕ). take n c.in_ok-rest.rest.now) size.1 in
    let whole = subst (λ (n : ℕ). n ≤ length c.in_ok-rest.rest.now) size.1 octets.0 in
    let placed =
    body_placed c.args.datagram.now c.args.at c.in_ok-rest.rest.now c.in_ok-octets.octets.now c.in_ok-body.body.now
    rest.0 rest.2 own c.in_ok-body.ensures size.0 whole in
    record {
      begins = omega arith;
      ends = omega (arith, placed.0, octets.3, size.1);
      within = omega (arith, octets.3, octets.0, rest.4);
      body = placed.1;
    }

pub returns-clause-first : goal.returns-clause-first
returns-clause-first c value others h =
    let rest = c.in_ok-rest.ensures.cases in
    let size = c.in_ok-size_at.ensures in
    let octets = c.in_ok-octets.ensures.cases in
    let own = octets.1 ∙ ap (λ (n : ℕ). take n c.in_ok-rest.rest.now) size.1 in
    comes_first value others c.args.datagram.now c.in_ok-octets.octets.now c.in_ok-body.body.now c.args.at _ rest.0 h
    (own ∙ ap (λ (t : List ℕ). take (size_of t) t) rest.2) (c.in_ok-body.ensures) refl refl refl refl refl
