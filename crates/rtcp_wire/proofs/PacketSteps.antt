-- Packets that are read one after the other, of octets that are accepted, and the bodies of such packets.
use Rattle.std.proofs.Common.{◌≡◌, ◌≢◌, ℕ, ◌*◌, ◌≤◌, List, [], ◌∷◌, ◌++◌, length, take, drop, refl, sym, ap, subst, ◌∙◌, arith}
use Rattle.std.proofs.lemmas.List.{length-append}
use Rattle.rtcp_wire.specs.Values.{RtcpPacket, bye}
use Rattle.rtcp_wire.specs.Grammar.{Joins, IsReasonPart, IsBody, IsSpelling}
use Rattle.rtcp_wire.specs.Readings.{size_of}
use Rattle.rtcp_wire.specs.Headers.{type_of, count_of, body_of}
use Rattle.rtcp_wire.specs.Walks.{packet_in, packets_in}
use Rattle.rtcp_wire.specs.Faults.{least_size}
use Rattle.rtcp_wire.specs.Validity.{IsSomeReason, IsSomeBody}
use Rattle.rtcp_wire.proofs.Bodies.{body_room}
use Rattle.rtcp_wire.proofs.BodyFaults.{after_ids}
use Rattle.rtcp_wire.proofs.ReadingWalks.{first_part, other_part, packet_read, walk_reads}
use Rattle.rtcp_wire.proofs.Spellings.{is_own, spelling_parts, spelling_length}
use Rattle.rtcp_wire.proofs.Stops.{spelling_body}

-- ---- Bodies

-- An accepted body has the octets that its type asks for.
pub some_room : (own kind count : ℕ) (body : List ℕ) → kind ≡ own → IsSomeBody kind count body →
    least_size own count ≤ length body
some_room own kind count body is h = subst (λ (k : ℕ). least_size k count ≤ length body) is
    (body_room h.0 kind count body h.1)

-- An accepted BYE has a reason or nothing after its identifiers.
pub some_reason : (kind count : ℕ) (body : List ℕ) → kind ≡ 203 → IsSomeBody kind count body →
    IsSomeReason (drop (4 * count) body)
some_reason kind count body is h = ends h.0 h.1
  where
    ends : (packet : RtcpPacket) → IsBody packet kind count body → IsSomeReason (drop (4 * count) body)
    ends (bye ids reason) h = (reason, subst (IsReasonPart reason) (sym (after_ids ids reason count body h.1)) h.1.ends)
    ends packet h = absurd (omega (arith, is, h.0))

-- ---- Packets

-- A packet stands first, and packets after it.
pub record PacketStep (octets : List ℕ) : Type 0 where
  pub begun : 4 ≤ length octets
  pub room : size_of octets ≤ length octets
  pub spelled : IsSpelling (packet_in octets) (take (size_of octets) octets)
  pub body : IsSomeBody (type_of octets) (count_of octets) (body_of octets)
  pub more : Joins IsSpelling (packets_in (drop (size_of octets) octets)) (drop (size_of octets) octets)
  pub first : packets_in octets ≡ packet_in octets ∷ packets_in (drop (size_of octets) octets)

-- at a packet and what follows it
here : (packet : RtcpPacket) (packets : List RtcpPacket) (a r : List ℕ) → IsSpelling packet a →
    Joins IsSpelling packets r → PacketStep (a ++ r)
here packet packets a r h k =
    let size : length a ≡ size_of (a ++ r) = h.size ∙ sym (spelling_parts packet a r h).header.size in
    let own : take (size_of (a ++ r)) (a ++ r) ≡ a = first_part (size_of (a ++ r)) a r size in
    let after : drop (size_of (a ++ r)) (a ++ r) ≡ r = other_part (size_of (a ++ r)) a r size in
    let others : packets_in r ≡ packets = walk_reads packets r k in
    record {
      begun = omega (arith, spelling_length packet a h, length-append a r);
      room = omega (arith, size, length-append a r);
      spelled = rw (packet_read packet a r h, own) h;
      body = (packet, spelling_body packet a r h);
      more = rw (after, others) k;
      first = walk_reads (packet ∷ packets) (a ++ r) (a, r, refl, h, k)
          ∙ (λ i. sym (packet_read packet a r h) i ∷ sym (ap packets_in after ∙ others) i);
    }

-- The body of the packet's own octets is the one that stands first.
pub own_body : (octets packet body : List ℕ) (size : ℕ) → PacketStep octets → size ≡ size_of octets →
    packet ≡ take size octets → body ≡ body_of packet → body ≡ body_of octets
own_body octets packet body size step size_is own_is body_is =
    body_is ∙ ap body_of (own_is ∙ ap (λ (n : ℕ). take n octets) size_is) ∙ sym (is_own octets step.room).parts.body

-- Octets that are packets begin with one.
pub packet_step : (octets : List ℕ) → octets ≢ [] → Joins IsSpelling (packets_in octets) octets → PacketStep octets
packet_step octets some h = step (packets_in octets) h
  where
    step : (packets : List RtcpPacket) → Joins IsSpelling packets octets → PacketStep octets
    step [] h = absurd (some h)
    step (packet ∷ packets) h = subst PacketStep (sym h.2) (here packet packets h.0 h.1 h.3 h.4)
