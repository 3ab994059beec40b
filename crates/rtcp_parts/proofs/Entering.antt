-- A walk that looks for the next packet with parts.
use Rattle.std.proofs.Common.{◌≡◌, ◌≢◌, ℕ, ◌+◌, ◌<◌, ◌≤◌, inl, inr, List, [], ◌∷◌, ◌++◌, length, drop, flat_map, refl, sym, ap, subst, ◌∙◌, arith}
use Rattle.std.proofs.Math.Seq.{drop-length}
use Rattle.rtcp_wire.specs.Grammar.{IsBody, Joins, IsSpelling}
use Rattle.rtcp_wire.specs.Values.{RtcpPacket}
use Rattle.rtcp_parts.specs.declared.cursor.Cursor.{Cursor}
use Rattle.rtcp_parts.specs.declared.packet.Packet.{Packet}
use Rattle.rtcp_parts.specs.declared.packet.Wanted.{Wanted}
use Rattle.rtcp_parts.specs.Cursors.{Leaves, LeavesHere, ended_at}
use Rattle.rtcp_parts.specs.Walks.{AreUnwanted, ComesNext, IsPlaced, IsUnwanted, Readies}
use Rattle.rtcp_parts.proofs.Calls.{ended_within, is_within_by}

-- What is left to a walk in no packet is in the packets from its next on.
pub record NextOn
    {Part : Type 0} (parts_of : RtcpPacket → List Part) (datagram : List ℕ) (cursor : Cursor) (parts : List Part)
    : Type 0 where
  pub packets : List RtcpPacket
  pub after : Joins IsSpelling packets (drop cursor.next datagram)
  pub all : parts ≡ flat_map parts_of packets

module _ {Part : Type 0} {parts_of : RtcpPacket → List Part} {IsLeft : List ℕ → Cursor → List Part → Type 0}
  where
    pub next_on : (datagram : List ℕ) (cursor : Cursor) (parts : List Part)
        → Leaves parts_of IsLeft datagram cursor parts → cursor.left ≡ 0 → NextOn parts_of datagram cursor parts
    next_on datagram cursor parts h none = from h.here h.inside h.all
      where
        from : (here : List Part) → LeavesHere IsLeft datagram cursor here → parts ≡ here ++ flat_map parts_of h.packets
            → NextOn parts_of datagram cursor parts
        from here (inl nothing) all = record {
          packets = h.packets;
          after = h.after;
          all = all ∙ ap (λ (t : List Part). t ++ flat_map parts_of h.packets) nothing.1;
        }
        from here (inr some) all = absurd (omega (arith, some.0, none))

    -- What is left of the packet that a walk is in.
    pub left_inside : (datagram : List ℕ) (cursor : Cursor) (parts : List Part)
        (h : Leaves parts_of IsLeft datagram cursor parts) → cursor.left ≢ 0 → IsLeft datagram cursor h.here
    left_inside datagram cursor parts h some = elim h.inside [
      | inl none ↦ absurd (some none.0)
      | inr here ↦ here.1
    ]

    -- Nothing is left after the last packet.
    pub nothing_left : (datagram : List ℕ) (now : Cursor) → now ≡ ended_at (length datagram)
        → Leaves parts_of IsLeft datagram now []
    nothing_left datagram now is = record {
      here = [];
      packets = [];
      inside = inl (ap (λ (c : Cursor). c.left) is, refl);
      after = ap (λ (c : Cursor). drop c.next datagram) is ∙ drop-length datagram;
      all = refl;
    }

module _ {Part : Type 0} {parts_of : RtcpPacket → List Part} (wanted : Wanted)
    (none_in : (packet : RtcpPacket) → IsUnwanted wanted packet → parts_of packet ≡ [])
  where
    -- Packets that are not wanted have no parts.
    pub none_among : (packets : List RtcpPacket) → AreUnwanted wanted packets → flat_map parts_of packets ≡ []
    none_among [] h = refl
    none_among (packet ∷ packets) h =
        ap (λ (t : List Part). t ++ flat_map parts_of packets) (none_in packet h.0) ∙ none_among packets h.1

    -- The parts of packets of which the first are not wanted.
    pub after_unwanted : (skipped others : List RtcpPacket) → AreUnwanted wanted skipped
        → flat_map parts_of (skipped ++ others) ≡ flat_map parts_of others
    after_unwanted [] others h = refl
    after_unwanted (packet ∷ skipped) others h =
        ap (λ (t : List Part). t ++ flat_map parts_of (skipped ++ others)) (none_in packet h.0)
        ∙ after_unwanted skipped others h.1

module _ {Part : Type 0} {parts_of : RtcpPacket → List Part} {IsLeft : List ℕ → Cursor → List Part → Type 0}
  where
    -- Where no part is left, the walk is over.
    pub ready_at_end : (datagram : List ℕ) (was now : Cursor) → was.left ≡ 0 → now ≡ ended_at (length datagram)
        → ((packets : List RtcpPacket) → Joins IsSpelling packets (drop was.next datagram)
        → flat_map parts_of packets ≡ [])
        → Readies parts_of IsLeft datagram was now
    ready_at_end datagram was now none is nothing = record {
      leaves = λ parts leaves.
          let on = next_on datagram was parts leaves none in
          let empty : parts ≡ [] = on.all ∙ nothing on.packets on.after in
          (subst (Leaves parts_of IsLeft datagram now) (sym empty) (nothing_left datagram now is), λ none. empty);
      within = ended_within (length datagram) now is;
      kept = λ some. absurd (some none);
      further = λ first some. absurd (some (ap (λ (c : Cursor). c.left) is));
      ended = λ first last. ap (λ (c : Cursor). c.next) is;
    }

module _ {Part : Type 0} {parts_of : RtcpPacket → List Part} {IsLeft : List ℕ → Cursor → List Part → Type 0}
    (wanted : Wanted) (none_in : (packet : RtcpPacket) → IsUnwanted wanted packet → parts_of packet ≡ []) where
  -- Where a packet is wanted, the walk is in it.
  pub leaves_packet : (datagram : List ℕ) (now : Cursor) (packets : List RtcpPacket) (packet : Packet)
      (next : ComesNext wanted datagram packets packet) → now.next ≡ packet.next → 0 < now.left
      → IsLeft datagram now (parts_of next.value) → Leaves parts_of IsLeft datagram now (flat_map parts_of packets)
  leaves_packet datagram now packets packet next next_is some left = record {
    here = parts_of next.value;
    packets = next.others;
    inside = inr (some, left);
    after = subst (λ (n : ℕ). Joins IsSpelling next.others (drop n datagram)) (sym next_is) next.first.after;
    all =
        ap (flat_map parts_of) next.parts
        ∙ after_unwanted wanted none_in next.skipped (next.value ∷ next.others) next.unwanted;
  }

  pub ready_in_packet : (datagram : List ℕ) (was now : Cursor) (packet : Packet) → was.left ≡ 0
      → IsPlaced datagram was.next packet → now.next ≡ packet.next → packet.place ≤ now.place
      → now.place ≤ now.end → now.end ≡ packet.place + length packet.body.now → 0 < now.left
      → ((packets : List RtcpPacket) → Joins IsSpelling packets (drop was.next datagram)
      → ComesNext wanted datagram packets packet)
      → ((value : RtcpPacket) → IsBody value packet.kind packet.count packet.body.now
      → IsLeft datagram now (parts_of value))
      → Readies parts_of IsLeft datagram was now
  ready_in_packet datagram was now packet none placed next place room end some comes left = record {
    leaves = λ parts leaves.
        let on = next_on datagram was parts leaves none in
        let one = comes on.packets on.after in (
          subst (Leaves parts_of IsLeft datagram now) (sym on.all)
              (leaves_packet datagram now on.packets packet one next some (left one.value one.first.body)),
          λ last. absurd (omega (arith, some, last)),
        );
    within = is_within_by (length datagram) now room (omega (arith, end, placed.ends, next))
        (omega (arith, placed.within, next));
    kept = λ kept. absurd (kept none);
    further = λ first some. omega (arith, placed.begins, place);
    ended = λ first last. absurd (omega (arith, some, last));
  }
