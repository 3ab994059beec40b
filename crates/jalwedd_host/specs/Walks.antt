-- How a walk over the parts of one kind in a datagram is told to a host in C, part after part.
use Rattle.std.specs.Prelude.{◌≡◌, ◌≢◌, ℕ, ◌+◌, ◌<◌, ◌≤◌, List, [], ◌∷◌, Some, None, flat_map, length, slice_get}
use Rattle.rtcp_wire.specs.declared.fault.WireFault.{WireFault}
use Rattle.rtcp_wire.specs.Faults.{IsFirstFault}
use Rattle.rtcp_wire.specs.Grammar.{IsAccepted}
use Rattle.rtcp_wire.specs.Values.{RtcpPacket}
use Rattle.rtcp_parts.specs.declared.cursor.Cursor.{Cursor}
use Rattle.rtcp_parts.specs.Cursors.{HasPassed, position}

-- A walk has passed so many parts of an accepted datagram. A call tells of the part at that index of all, which it has
-- passed then, or that there is none; or, where a walk begins, that the datagram is not a compound. Whatever the cursor
-- and the octets are, a walk that has begun is not refused, the host's structure is left as it was where none is told,
-- and each that is told takes the walk on, within the datagram.
pub record Continues
    {Part Place : Type 0} (parts_of : RtcpPacket → List Part) (IsLeft : List ℕ → Cursor → List Part → Type 0)
    (Shows : Place → Part → Type 0) (datagram : List ℕ) (was now : Cursor) (result : ℕ) (before place : Place)
    : Type 0 where
  pub found : (packets : List RtcpPacket) (index : ℕ) (part : Part) → IsAccepted datagram packets
      → HasPassed parts_of IsLeft packets datagram index was → slice_get (flat_map parts_of packets) index ≡ Some part
      → (result ≡ 0) × Shows place part × HasPassed parts_of IsLeft packets datagram (index + 1) now
  pub none : (packets : List RtcpPacket) (index : ℕ) → IsAccepted datagram packets
      → HasPassed parts_of IsLeft packets datagram index was → slice_get (flat_map parts_of packets) index ≡ None
      → (result ≡ 8) × HasPassed parts_of IsLeft packets datagram index now
  pub refused : (first : WireFault) → IsFirstFault datagram first → was.next ≡ 0 → (result ≡ 5) × (now ≡ was)
  pub later : was.next ≢ 0 → result ≢ 5
  pub untold : result ≢ 0 → place ≡ before
  pub further : result ≡ 0 → (position was < position now) × (position now ≤ length datagram)

-- ---- What is told of what was given

-- The host's structure shows each part, of any datagram, that was given so.
abbrev pub Carries :
    {Part Given Place : Type 0} → (List ℕ → Part → Given → Type 0) → (List ℕ → Place → Part → Type 0) → Place → Given
    → Type 0
Carries {Part = Part} Gave Shows place given =
    (datagram : List ℕ) (part : Part) → Gave datagram part given → Shows datagram place part

-- The host's structure tells what was given of a part.
abbrev pub ShowsGiven :
    {Part Given Place : Type 0} → (Part → Given → Type 0) → (Place → Given → Type 0) → Place → Part → Type 0
ShowsGiven {Given = Given} Gave Tells place part = (given : Given) × Gave part given × Tells place given

-- ---- Whole walks

-- the cursor with which a host begins
abbrev pub begins : Cursor
begins = record { next = 0; place = 0; end = 0; left = 0; ssrc = 0 }

-- Calls that each told of a part, the first of them with this cursor, and what they told.
abbrev pub AreShown :
    {Part Place : Type 0} → (RtcpPacket → List Part) → (List ℕ → Cursor → List Part → Type 0)
    → (Place → Part → Type 0) → List ℕ → (was : Cursor) → List Place → (now : Cursor) → Type 0
AreShown parts_of IsLeft Shows datagram was [] now = now ≡ was
AreShown {Place = Place} parts_of IsLeft Shows datagram was (place ∷ places) now =
    (next : Cursor) × (before : Place) × Continues parts_of IsLeft Shows datagram was next 0 before place
    × AreShown parts_of IsLeft Shows datagram next places now

-- what was told shows these parts, one for one and in their order
abbrev pub ShowEach : {Part Place : Type 0} → (Place → Part → Type 0) → List Place → List Part → Type 0
ShowEach Shows [] [] = Unit {0}
ShowEach Shows (place ∷ places) (part ∷ parts) = Shows place part × ShowEach Shows places parts
ShowEach Shows places parts = ⊥

-- A walk that begins over an accepted datagram and that no call told of another part has told of all parts.
abbrev pub ShowsAll :
    {Part Place : Type 0} → (RtcpPacket → List Part) → (List ℕ → Cursor → List Part → Type 0)
    → (List ℕ → Place → Part → Type 0) → Type 0
ShowsAll {Place = Place} parts_of IsLeft Shows =
    (datagram : List ℕ) (packets : List RtcpPacket) (places : List Place) (last end : Cursor) (before after : Place)
    → IsAccepted datagram packets → AreShown parts_of IsLeft (Shows datagram) datagram begins places last
    → Continues parts_of IsLeft (Shows datagram) datagram last end 8 before after
    → ShowEach (Shows datagram) places (flat_map parts_of packets)
