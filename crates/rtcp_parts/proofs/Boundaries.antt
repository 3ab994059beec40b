-- Where no packet of a datagram is cut.
use Rattle.std.proofs.Common.{◌≡◌, ℕ, ◌+◌, ◌==◌, Bool, true, false, List, [], ◌∷◌, ◌++◌, if◌then◌else◌, length, take, drop, refl, sym, ap, subst, ◌∙◌, append-nil, append_assoc, arith}
use Rattle.std.proofs.Math.Seq.{drop-length, take-length}
use Rattle.std.proofs.lemmas.Bool.{eqb-true}
use Rattle.std.proofs.lemmas.List.{length-append, take-append-drop, take_at}
use Rattle.rtcp_wire.specs.Grammar.{Joins, IsAccepted, IsSpelling}
use Rattle.rtcp_wire.specs.Values.{RtcpPacket}
use Rattle.rtcp_parts.specs.declared.cursor.Cursor.{Cursor}
use Rattle.rtcp_parts.specs.declared.packet.Packet.{Packet}
use Rattle.rtcp_parts.specs.Cursors.{IsBoundary, begun_at, ended_at, is_within}
use Rattle.rtcp_parts.specs.Walks.{ComesFirst}

-- Packets, and packets after them.
joins_both : (packets others : List RtcpPacket) (front rest : List ℕ) → Joins IsSpelling packets front →
    Joins IsSpelling others rest → Joins IsSpelling (packets ++ others) (front ++ rest)
joins_both [] others front rest h more =
    subst (λ (front : List ℕ). Joins IsSpelling others (front ++ rest)) (sym h) more
joins_both (packet ∷ packets) others front rest h more = (
  h.0,
  h.1 ++ rest,
  ap (λ (t : List ℕ). t ++ rest) h.2 ∙ append_assoc h.0 h.1 rest,
  h.3,
  joins_both packets others h.1 rest h.4 more,
)

-- None is cut after one more packet.
after_packet : (datagram : List ℕ) (at : ℕ) (packet : Packet) (value : RtcpPacket) (others : List RtcpPacket) →
    ComesFirst datagram value others packet → packet.place ≡ at + 4 → IsBoundary datagram at →
    IsBoundary datagram packet.next
after_packet datagram at packet value others read place here =
    let front : List ℕ = read.stands.before in
    let own : List ℕ = read.octets in
    let rest : List ℕ = read.stands.after in
    let same : read.before ≡ at = omega (arith, read.place, place) in
    let begun : take at datagram ≡ front =
    ap (take at) read.stands.parts ∙ take_at front (own ++ rest) at (read.stands.counted ∙ same) in
    let whole : datagram ≡ (front ++ own) ++ rest = read.stands.parts ∙ sym (append_assoc front own rest) in
    let size : length (front ++ own) ≡ packet.next =
    omega (arith, length-append front own, read.stands.counted, read.next) in
    let taken : take packet.next datagram ≡ front ++ own =
    ap (take packet.next) whole ∙ take_at (front ++ own) rest packet.next size in
    record {
      before = (
        here.before.0 ++ value ∷ [],
        subst (Joins IsSpelling (here.before.0 ++ value ∷ [])) (sym taken) (joins_both here.before.0 (value ∷ []) front
            own (subst (Joins IsSpelling here.before.0) begun here.before.1)
            (own, [], sym (append-nil own), read.spelled, refl)),
      );
      after = (others, read.after);
    }

pub boundary_on : (datagram : List ℕ) (at : ℕ) (packet : Packet) → IsBoundary datagram at →
    (drop at datagram ≡ [] → ⊥)
    → ((value : RtcpPacket) (others : List RtcpPacket) → Joins IsSpelling (value ∷ others) (drop at datagram) →
    ComesFirst datagram value others packet) → packet.place ≡ at + 4 → IsBoundary datagram packet.next
boundary_on datagram at packet here some first place = by here.after.0 here.after.1
  where
    by : (packets : List RtcpPacket) → Joins IsSpelling packets (drop at datagram) → IsBoundary datagram packet.next
    by [] none = absurd (some none)
    by (value ∷ others) joined =
        after_packet datagram at packet value others (first value others joined) place here

-- None is cut at the end,
pub boundary_at_end : (datagram : List ℕ) (octets : ℕ) → IsBoundary datagram octets →
    IsBoundary datagram (length datagram)
boundary_at_end datagram octets here =
    let all = here.before.0 ++ here.after.0 in
    let whole : take octets datagram ++ drop octets datagram ≡ take (length datagram) datagram =
    take-append-drop octets datagram ∙ sym (take-length datagram) in
    record {
      before = (
        all,
        subst (Joins IsSpelling all) whole
            (joins_both here.before.0 here.after.0 (take octets datagram) (drop octets datagram) here.before.1
            here.after.1),
      );
      after = ([], drop-length datagram);
    }

-- nor where a walk begins,
pub boundary_at_start : (datagram : List ℕ) (packets : List RtcpPacket) → IsAccepted datagram packets →
    IsBoundary datagram 0
boundary_at_start datagram packets accepted = record { before = ([], refl); after = (packets, accepted.joined) }

-- nor where it goes on.
pub boundary_begun : (datagram : List ℕ) (was at : Cursor) → at ≡ begun_at (length datagram) was →
    IsBoundary datagram was.next → IsBoundary datagram at.next
boundary_begun datagram was at begun here =
    subst (λ (c : Cursor). IsBoundary datagram c.next) (sym begun)
    (by (was.next == 0) refl (is_within (length datagram) was))
  where
    by : (first : Bool) → (was.next == 0) ≡ first → (within : Bool) → IsBoundary datagram
        (if first then ended_at 0 else (if within then was else ended_at (length datagram))).next
    by true is within = subst (IsBoundary datagram) (eqb-true was.next 0 is) here
    by false is true = here
    by false is false = boundary_at_end datagram was.next here
