use Rattle.std.proofs.Common.{◌≡◌, ◌≢◌, ◌<◌, ◌==◌, Bool, false, ℕ, List, [], ◌∷◌, length, take, drop, sym, ap, ◌∙◌, arith}
use Rattle.rtcp_wire.specs.Values.{RtcpPacket}
use Rattle.rtcp_wire.specs.Readings.{size_of}
use Rattle.rtcp_wire.specs.Headers.{type_of, count_of, body_of}
use Rattle.rtcp_wire.specs.Walks.{body_says, packet_in, packets_in}
use Rattle.rtcp_wire.specs.Views.{packet_value}
use Rattle.rtcp_wire.proofs.PacketSteps.{PacketStep, packet_step, own_body}
use Rattle.rtcp_wire.proofs.Prefixes.{cons_not_nil}
use Rattle.rtcp_wire.proofs.compound.packets.PacketsIterator.next.Goals as goal

some : (octets : List ℕ) (is_empty : Bool) → is_empty ≡ (length octets == 0) → is_empty ≡ false → octets ≢ []
some [] is_empty is not = absurd cc
some (octet ∷ octets) is_empty is not = cons_not_nil octet octets

-- the packet that stands first, where the code has found its parts
first_is : (octets packet body : List ℕ) (kind count size : ℕ) (value : RtcpPacket) → PacketStep octets →
    kind ≡ type_of octets → count ≡ count_of octets → size ≡ size_of octets
    → packet ≡ take size octets → body ≡ body_of packet → value ≡ body_says kind count body → value ≡ packet_in octets
first_is octets packet body kind count size value step kind_is count_is size_is own body_is is =
    is ∙ (λ i. body_says (kind_is i) (count_is i) (own_body octets packet body size step size_is own body_is i))

-- it, and those after it
packets_are : (octets others : List ℕ) (size : ℕ) (value : RtcpPacket) → PacketStep octets → size ≡ size_of octets →
    others ≡ drop size octets → value ≡ packet_in octets
    → packets_in octets ≡ value ∷ packets_in others
packets_are octets others size value step size_is others_is is =
    let left : others ≡ drop (size_of octets) octets = others_is ∙ ap (λ (n : ℕ). drop n octets) size_is in
    step.first ∙ (λ i. sym is i ∷ packets_in (sym left i))

pub header_at-header-requires : goal.header_at-header-requires
header_at-header-requires c =
    (packet_step c.self.inside.octets.now
    (some c.self.inside.octets.now c.is_empty.result c.is_empty.ensures c.if-is_empty.false)
    c.self.invariant).begun

pub packet_from-requires : goal.packet_from-requires
packet_from-requires c =
    let octets = c.self.inside.octets.now in
    let step = packet_step octets (some octets c.is_empty.result c.is_empty.ensures c.if-is_empty.false)
    c.self.invariant in
    let header = c.header_at-header.ensures in
    rw (
      header.kind,
      header.count,
      own_body octets c.split_at.result.0.now c.accepted_body-body.result.now
          c.header_at-header.result.size step header.size c.split_at.ensures.front c.accepted_body-body.ensures,
    )
    step.body

pub invariant_of-self : goal.invariant_of-self
invariant_of-self c =
    let octets = c.self.inside.octets.now in
    let step = packet_step octets (some octets c.is_empty.result c.is_empty.ensures c.if-is_empty.false)
    c.self.invariant in
    rw (c.split_at.ensures.back, c.header_at-header.ensures.size) step.more

pub returns-clause-steps : goal.returns-clause-steps
returns-clause-steps c =
    let octets = c.self.inside.octets.now in
    let step = packet_step octets (some octets c.is_empty.result c.is_empty.ensures c.if-is_empty.false)
    c.self.invariant in
    let header = c.header_at-header.ensures in
    let value = first_is octets c.split_at.result.0.now c.accepted_body-body.result.now c.header_at-header.result.kind
    c.header_at-header.result.count c.header_at-header.result.size (packet_value c.packet_from.result)
    step header.kind header.count header.size c.split_at.ensures.front c.accepted_body-body.ensures
    c.packet_from.ensures in
    sym c.self.view_is ∙ packets_are octets c.split_at.result.1.now c.header_at-header.result.size
    (packet_value c.packet_from.result) step header.size c.split_at.ensures.back value

pub returns-clause-goes : goal.returns-clause-goes
returns-clause-goes c =
    let octets = c.self.inside.octets.now in
    let step = packet_step octets (some octets c.is_empty.result c.is_empty.ensures c.if-is_empty.false)
    c.self.invariant in
    let header = c.header_at-header.ensures in
    let left = c.split_at.ensures.back ∙ ap (λ (n : ℕ). drop n octets) header.size in
    let falls : length (packets_in c.split_at.result.1.now) < length c.args.self.now =
    omega (arith, ap length c.self.view_is, ap length step.first, ap (λ t. length (packets_in t)) left) in
    record { on = λ f. (tt, tt, falls); keeps = tt; rests = λ f. tt }
