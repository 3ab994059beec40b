-- The packet that octets begin with.
use Rattle.std.proofs.Common.{◌≡◌, ℕ, ◌+◌, ◌*◌, ◌≤◌, List, [], ◌∷◌, ◌++◌, length, get_or, take, drop, refl, sym, ap, subst, ◌∙◌, append-nil, append_assoc, arith}
use Rattle.std.proofs.lemmas.List.{drop-drop, drop_at, get_or_append_left, get_or-drop, take_at}
use Rattle.rtcp_wire.specs.Grammar.{Joins, IsSpelling}
use Rattle.rtcp_wire.specs.Readings.{size_of}
use Rattle.rtcp_wire.specs.Headers.{body_of, count_of, type_of}
use Rattle.rtcp_wire.specs.Values.{RtcpPacket}
use Rattle.rtcp_parts.specs.declared.packet.Packet.{Packet}
use Rattle.rtcp_parts.specs.declared.packet.Wanted.{Wanted}
use Rattle.rtcp_parts.specs.Walks.{AreUnwanted, ComesFirst, ComesNext, IsUnwanted, IsWanted}
use Rattle.rtcp_parts.proofs.OctetParts.{first_stands}

-- ---- Sizes

-- the size of a packet, by the two octets that say it
pub size_said : (octets : List ℕ) → size_of octets ≡ 4 * (get_or octets 2 0 * 256 + get_or octets 3 0 + 1)
size_said octets = omega (arith, get_or-drop 2 octets 0 0, get_or-drop 2 octets 1 0)

-- A packet says its size, whatever follows it.
pub size_of-append : (x y : List ℕ) → 4 ≤ length x → size_of (x ++ y) ≡ size_of x
size_of-append x y h =
    omega (
      arith,
      size_said (x ++ y),
      size_said x,
      get_or_append_left x y 0 2 (omega arith),
      get_or_append_left x y 0 3 (omega arith),
    )

-- ---- The first packet

-- Where octets after some are packets, the first of them is the one that its own size tells of.
pub comes_first : (value : RtcpPacket) (others : List RtcpPacket) (datagram octets body : List ℕ) (at : ℕ)
    (packet : Packet) → at ≤ length datagram → Joins IsSpelling (value ∷ others) (drop at datagram)
    → octets ≡ take (size_of (drop at datagram)) (drop at datagram) → body ≡ body_of octets
    → packet.kind ≡ type_of octets → packet.count ≡ count_of octets → packet.body.now ≡ body
    → packet.place ≡ at + 4 → packet.next ≡ at + length octets → ComesFirst datagram value others packet
comes_first value others datagram octets body at packet room h own own_body kind count body_is place next =
    let begun : 4 ≤ length h.0 = omega (arith, h.3.size) in
    let size : length h.0 ≡ size_of (drop at datagram) =
    h.3.size ∙ sym (size_of-append h.0 h.1 begun) ∙ ap size_of (sym h.2) in
    let first : octets ≡ h.0 = own ∙ ap (take (size_of (drop at datagram))) h.2 ∙ take_at h.0 h.1 _ size in
    let after : drop packet.next datagram ≡ h.1 =
    ap (λ (n : ℕ). drop n datagram) (next ∙ ap (λ (t : List ℕ). at + length t) first)
    ∙ sym (drop-drop (length h.0) at datagram) ∙ ap (drop (length h.0)) h.2 ∙ drop_at h.0 h.1 (length h.0) refl in
    record {
      body = rw (kind ∙ ap type_of first, count ∙ ap count_of first, body_is ∙ own_body ∙ ap body_of first) h.3.body;
      after = subst (Joins IsSpelling others) (sym after) h.4;
      before = at;
      octets = h.0;
      spelled = h.3;
      stands = first_stands datagram h.0 h.1 at room h.2;
      place = place;
      next = next ∙ ap (λ (t : List ℕ). at + length t) first;
    }

-- ---- Packets that are passed

-- unwanted packets, and one more
pub unwanted_more : (wanted : Wanted) (skipped : List RtcpPacket) (value : RtcpPacket) → AreUnwanted wanted skipped
    → IsUnwanted wanted value → AreUnwanted wanted (skipped ++ value ∷ [])
unwanted_more wanted [] value h one = (one, h)
unwanted_more wanted (first ∷ skipped) value h one = (h.0, unwanted_more wanted skipped value h.1 one)

-- The packets from an offset on, after some that are not wanted.
pub record Passed (wanted : Wanted) (datagram : List ℕ) (at : ℕ) (packets : List RtcpPacket) : Type 0 where
  pub skipped : List RtcpPacket
  pub others : List RtcpPacket
  pub parts : packets ≡ skipped ++ others
  pub unwanted : AreUnwanted wanted skipped
  pub after : Joins IsSpelling others (drop at datagram)

-- None is left where none can be read.
pub passed_all : (wanted : Wanted) (datagram : List ℕ) (at : ℕ) (packets : List RtcpPacket)
    → Passed wanted datagram at packets
    → ((value : RtcpPacket) (others : List RtcpPacket) → Joins IsSpelling (value ∷ others) (drop at datagram) → ⊥)
    → AreUnwanted wanted packets
passed_all wanted datagram at packets h none = all h.others h.parts h.after
  where
    all : (others : List RtcpPacket) → packets ≡ h.skipped ++ others → Joins IsSpelling others (drop at datagram)
        → AreUnwanted wanted packets
    all [] parts after = subst (AreUnwanted wanted) (sym (parts ∙ append-nil h.skipped)) h.unwanted
    all (value ∷ others) parts after = absurd (none value others after)

-- One is left where one is read: it is the next one that is wanted, or is passed.
module _ (wanted : Wanted) (datagram : List ℕ) (at : ℕ) (packets : List RtcpPacket) (packet : Packet)
    (h : Passed wanted datagram at packets) (some : drop at datagram ≡ [] → ⊥)
    (first : (value : RtcpPacket) (others : List RtcpPacket) → Joins IsSpelling (value ∷ others) (drop at datagram)
    → ComesFirst datagram value others packet) where
  pub passed_to : IsWanted wanted packet.kind packet.count → ComesNext wanted datagram packets packet
  passed_to is_wanted = next h.others h.parts h.after
    where
      next : (others : List RtcpPacket) → packets ≡ h.skipped ++ others → Joins IsSpelling others (drop at datagram)
          → ComesNext wanted datagram packets packet
      next [] parts after = absurd (some after)
      next (value ∷ others) parts after = record {
        skipped = h.skipped;
        value = value;
        others = others;
        parts = parts;
        unwanted = h.unwanted;
        first = first value others after;
      }

  pub passed_by : (IsWanted wanted packet.kind packet.count → ⊥) → Passed wanted datagram packet.next packets
  passed_by unwanted = next h.others h.parts h.after
    where
      next : (others : List RtcpPacket) → packets ≡ h.skipped ++ others → Joins IsSpelling others (drop at datagram)
          → Passed wanted datagram packet.next packets
      next [] parts after = absurd (some after)
      next (value ∷ others) parts after =
          let read = first value others after in
          record {
            skipped = h.skipped ++ value ∷ [];
            others = others;
            parts = parts ∙ sym (append_assoc h.skipped (value ∷ []) others);
            unwanted = unwanted_more wanted h.skipped value h.unwanted
                (packet.kind, packet.count, packet.body.now, read.body, unwanted);
            after = read.after;
          }
