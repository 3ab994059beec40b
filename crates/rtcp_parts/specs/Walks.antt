-- What each call of a walk gives, and what its steps do.
use Rattle.std.specs.Prelude.{ℕ, ◌≡◌, ◌≢◌, ◌+◌, ◌≤◌, ◌<◌, ◌==◌, List, [], ◌∷◌, ◌++◌, Option, Some, None, IfSome, MatchOption, Result, Ok, Err, IfOk, IsOk, flat_map, length, slice_get, slice_index, take, drop, Bool, true, false, ◌⊎◌, if◌then◌else◌}
use Rattle.std.specs.List.{AllByRecursion}
use Rattle.byteorder.specs.Endian.{big_number}
use Rattle.rtcp_wire.specs.declared.fault.WireFault.{WireFault}
use Rattle.rtcp_wire.specs.Faults.{IsFirstFault}
use Rattle.rtcp_wire.specs.Contents.{chunk_items}
use Rattle.rtcp_wire.specs.Grammar.{Joins, IsAccepted, IsBody, IsChunk, IsSpelling}
use Rattle.rtcp_wire.specs.Placed.{StandsIn}
use Rattle.rtcp_wire.specs.Values.{ChunkValue, RtcpPacket}
use Rattle.rtcp_parts.specs.declared.placed.PlacedApp.{PlacedApp}
use Rattle.rtcp_parts.specs.declared.cursor.Cursor.{Cursor}
use Rattle.rtcp_parts.specs.declared.packet.Packet.{Packet}
use Rattle.rtcp_parts.specs.declared.packet.Wanted.{Wanted}
use Rattle.rtcp_parts.specs.Cursors.{HasPassed, IsBoundary, Leaves, LeavesItems, blocks_place, is_within, position, rest_of}

-- ---- A call

-- A walk has passed so many parts of an accepted datagram. A call gives the part at that index of all, and has passed
-- it then, or there is none. Where a walk begins over octets that are not accepted, it gives their first fault.
-- Whatever the cursor and the octets are, a walk that has begun is not refused, and a part that is given takes the
-- cursor on, within the octets.
pub record Gives
    {Part Given : Type 0} (parts_of : RtcpPacket → List Part) (IsLeft : List ℕ → Cursor → List Part → Type 0)
    (Shows : Part → Given → Type 0) (datagram : List ℕ) (was now : Cursor) (result : Result (Option Given) WireFault)
    : Type 0 where
  pub found : (packets : List RtcpPacket) (index : ℕ) (part : Part) → IsAccepted datagram packets
      → HasPassed parts_of IsLeft packets datagram index was → slice_get (flat_map parts_of packets) index ≡ Some part
      → (given : Given) × (result ≡ Ok (Some given)) × Shows part given
      × HasPassed parts_of IsLeft packets datagram (index + 1) now
  pub none : (packets : List RtcpPacket) (index : ℕ) → IsAccepted datagram packets
      → HasPassed parts_of IsLeft packets datagram index was → slice_get (flat_map parts_of packets) index ≡ None
      → (result ≡ Ok None) × HasPassed parts_of IsLeft packets datagram index now
  pub refused : (fault : WireFault) → IsFirstFault datagram fault → was.next ≡ 0 → (result ≡ Err fault) × (now ≡ was)
  pub later : was.next ≢ 0 → IsOk result
  pub further : IfOk result (λ given. IfSome given (λ part.
      (position was < position now) × (position now ≤ length datagram)))

-- The one of the parts of a datagram at an index is given, or that there is none, or the first fault of octets that are
-- not accepted.
pub record GivesAt
    {Part Given : Type 0} (parts_of : RtcpPacket → List Part) (Shows : Part → Given → Type 0) (datagram : List ℕ)
    (index : ℕ) (result : Result (Option Given) WireFault) : Type 0 where
  pub found : (packets : List RtcpPacket) (part : Part) → IsAccepted datagram packets
      → slice_get (flat_map parts_of packets) index ≡ Some part
      → (given : Given) × (result ≡ Ok (Some given)) × Shows part given
  pub none : (packets : List RtcpPacket) → IsAccepted datagram packets
      → slice_get (flat_map parts_of packets) index ≡ None → result ≡ Ok None
  pub refused : (fault : WireFault) → IsFirstFault datagram fault → result ≡ Err fault

-- What is given holds no place in a datagram.
abbrev pub HasNoPlace : {Given : Type 0} → List ℕ → Given → Type 0
HasNoPlace datagram given = Unit {0}

-- ---- Packets

abbrev pub IsWanted : Wanted → (kind count : ℕ) → Type 0
IsWanted wanted kind count = (wanted.first ≤ kind) × (kind ≤ wanted.last) × (wanted.least ≤ count)

-- A packet of another type or with too low a count.
abbrev pub IsUnwanted : Wanted → RtcpPacket → Type 0
IsUnwanted wanted packet =
    (kind : ℕ) × (count : ℕ) × (body : List ℕ) × IsBody packet kind count body × (IsWanted wanted kind count → ⊥)

abbrev pub AreUnwanted : Wanted → List RtcpPacket → Type 0
AreUnwanted wanted packets = AllByRecursion (IsUnwanted wanted) packets

-- A packet is one of the datagram, after so many octets at least.
pub record IsPlaced (datagram : List ℕ) (from : ℕ) (packet : Packet) : Type 0 where
  pub begins : from + 4 ≤ packet.place
  pub ends : packet.place + length packet.body.now ≤ packet.next
  pub within : packet.next ≤ length datagram
  pub body : packet.body.now ≡ drop packet.place (take (packet.place + length packet.body.now) datagram)

-- A packet is the one of that value, and the others stand after it.
pub record ComesFirst
    (datagram : List ℕ) (value : RtcpPacket) (others : List RtcpPacket) (packet : Packet) : Type 0 where
  pub body : IsBody value packet.kind packet.count packet.body.now
  pub after : Joins IsSpelling others (drop packet.next datagram)
  pub before : ℕ
  pub octets : List ℕ
  pub spelled : IsSpelling value octets
  pub stands : StandsIn before octets datagram
  pub place : packet.place ≡ before + 4
  pub next : packet.next ≡ before + length octets

-- A packet begins and ends where none of the datagram's own is cut: so it is one of these, and none inside another.
pub record IsOwnPacket (datagram : List ℕ) (packet : Packet) : Type 0 where
  pub before : ℕ
  pub place : packet.place ≡ before + 4
  pub begins : IsBoundary datagram before
  pub ends : IsBoundary datagram packet.next

-- The packet of an application, whose data stand 12 octets after its start, is one of the datagram's own.
pub record IsOwnApp (datagram : List ℕ) (app : PlacedApp) : Type 0 where
  pub before : ℕ
  pub place : app.content.place ≡ before + 12
  pub begins : IsBoundary datagram before

-- It is the first of these packets that is wanted.
pub record ComesNext (wanted : Wanted) (datagram : List ℕ) (packets : List RtcpPacket) (packet : Packet) : Type 0 where
  pub skipped : List RtcpPacket
  pub value : RtcpPacket
  pub others : List RtcpPacket
  pub parts : packets ≡ skipped ++ value ∷ others
  pub unwanted : AreUnwanted wanted skipped
  pub first : ComesFirst datagram value others packet

-- ---- Steps

-- where a walk goes on from: in its packet, or at the next one
abbrev pub place_from : Cursor → ℕ
place_from cursor = if cursor.left == 0 then cursor.next else cursor.place

-- The walk takes the next part that is left to it, if there is one.
pub record TakesNext
    {Part Given : Type 0} (parts_of : RtcpPacket → List Part) (IsLeft : List ℕ → Cursor → List Part → Type 0)
    (Shows : Part → Given → Type 0) (datagram : List ℕ) (was now : Cursor) (result : Option Given) : Type 0 where
  pub takes : (parts : List Part) → Leaves parts_of IsLeft datagram was parts
      → MatchOption result
      ((parts ≡ []) × Leaves parts_of IsLeft datagram now [])
      (λ given. (part : Part) × (others : List Part) × (parts ≡ part ∷ others) × Shows part given
      × Leaves parts_of IsLeft datagram now others)
  pub within : is_within (length datagram) now ≡ true
  pub further : IfSome result (λ given. place_from was < place_from now)
  pub begun : 0 < length datagram → now.next ≢ 0

-- A walk looks for the next packet with parts, from an offset on: what is left to it then are the parts of the packets
-- from there on.
pub record Enters
    {Part : Type 0} (parts_of : RtcpPacket → List Part) (IsLeft : List ℕ → Cursor → List Part → Type 0)
    (datagram : List ℕ) (from : ℕ) (now : Cursor) : Type 0 where
  pub leaves : (packets : List RtcpPacket) → Joins IsSpelling packets (drop from datagram)
      → Leaves parts_of IsLeft datagram now (flat_map parts_of packets)
  pub within : is_within (length datagram) now ≡ true
  pub further : now.left ≢ 0 → (from < now.place) × (from < now.next)
  pub ended : now.left ≡ 0 → now.next ≡ length datagram

-- A walk that is in no packet looks for the next one with parts: then it is in one, or no part is left.
pub record Readies
    {Part : Type 0} (parts_of : RtcpPacket → List Part) (IsLeft : List ℕ → Cursor → List Part → Type 0)
    (datagram : List ℕ) (was now : Cursor) : Type 0 where
  pub leaves : (parts : List Part) → Leaves parts_of IsLeft datagram was parts
      → Leaves parts_of IsLeft datagram now parts × (now.left ≡ 0 → parts ≡ [])
  pub within : is_within (length datagram) now ≡ true
  pub kept : was.left ≢ 0 → now ≡ was
  pub further : was.left ≡ 0 → now.left ≢ 0 → was.next < now.place
  pub ended : was.left ≡ 0 → now.left ≡ 0 → now.next ≡ length datagram

-- The walk is at the first block of this report.
pub record IsAtBlocks (report : Packet) (cursor : Cursor) : Type 0 where
  pub next : cursor.next ≡ report.next
  pub place : cursor.place ≡ report.place + blocks_place report.kind
  pub end : cursor.end ≡ report.place + length report.body.now
  pub left : cursor.left ≡ report.count
  pub ssrc : cursor.ssrc ≡ big_number 4 report.body.now

-- What the body of an application's packet says, and where its data stand in it.
pub record ReadsApp (packet : Packet) (app : PlacedApp) : Type 0 where
  pub ssrc : app.ssrc ≡ big_number 4 packet.body.now
  pub subtype : app.subtype ≡ packet.count
  pub name : app.name ≡ take 4 (drop 4 packet.body.now)
  pub place : app.content.place ≡ packet.place + 8
  pub size : app.content.size + 8 ≡ length packet.body.now

-- A walk takes the next part of the packet that it is in, unless that has none left.
pub record TakesHere
    {Part Given : Type 0} (parts_of : RtcpPacket → List Part) (IsLeft : List ℕ → Cursor → List Part → Type 0)
    (Shows : Part → Given → Type 0) (IsSpent : List ℕ → Cursor → Type 0) (datagram : List ℕ) (was now : Cursor)
    (result : Option Given) : Type 0 where
  pub takes : (parts : List Part) → Leaves parts_of IsLeft datagram was parts
      → MatchOption result
      (IsSpent datagram was)
      (λ given. (part : Part) × (others : List Part) × (parts ≡ part ∷ others) × Shows part given
      × Leaves parts_of IsLeft datagram now others)
  pub none : result ≡ None → now ≡ was
  pub within : is_within (length datagram) now ≡ true
  pub next : now.next ≡ was.next
  pub further : IfSome result (λ given. (was.left ≢ 0) × (was.place < now.place))

-- no more blocks or sources are left of the packet
abbrev pub HasNoneLeft : List ℕ → Cursor → Type 0
HasNoneLeft datagram cursor = cursor.left ≡ 0

-- ---- Chunks of items

-- The walk is in no chunk, or before the zero octet that ends the items of one.
abbrev pub HasNoItem : List ℕ → Cursor → Type 0
HasNoItem datagram cursor = (cursor.left ≡ 0) ⊎ (slice_index (rest_of datagram cursor) 0 ≡ 0)

-- The walk was at so many chunks, and is at the items of the first of them.
pub record Opens (datagram : List ℕ) (was now : Cursor) : Type 0 where
  pub items : (chunks : List ChunkValue) → Joins IsChunk chunks (rest_of datagram was) → 0 < was.left
      → length chunks ≡ was.left
      → LeavesItems datagram now (flat_map chunk_items chunks) × (now.left ≡ was.left) × (now.next ≡ was.next)
  pub within : is_within (length datagram) now ≡ true
  pub further : now.left ≢ 0 → was.place < now.place
  pub ended : now.left ≡ 0 → (was.left ≡ 0) ⊎ (now.next ≡ length datagram)

-- A walk that had no more items in its chunk goes on to the next one.
pub record GoesOn
    {Part : Type 0} (parts_of : RtcpPacket → List Part) (IsLeft : List ℕ → Cursor → List Part → Type 0)
    (IsSpent : List ℕ → Cursor → Type 0) (datagram : List ℕ) (was now : Cursor) : Type 0 where
  pub leaves : (parts : List Part) → Leaves parts_of IsLeft datagram was parts → IsSpent datagram was
      → Leaves parts_of IsLeft datagram now parts × (now.left ≢ 0)
  pub within : is_within (length datagram) now ≡ true
  pub further : now.left ≢ 0 → was.place < now.place
  pub ended : now.left ≡ 0 → now.next ≡ length datagram

-- The same, to the next chunk of this packet or of a later one, if there is one.
pub record PassesOn
    {Part : Type 0} (parts_of : RtcpPacket → List Part) (IsLeft : List ℕ → Cursor → List Part → Type 0)
    (IsSpent : List ℕ → Cursor → Type 0) (datagram : List ℕ) (was now : Cursor) (result : Bool) : Type 0 where
  pub leaves : (parts : List Part) → Leaves parts_of IsLeft datagram was parts → IsSpent datagram was
      → Leaves parts_of IsLeft datagram now parts × (result ≡ false → parts ≡ [])
  pub within : is_within (length datagram) now ≡ true
  pub further : result ≡ true → (place_from was < now.place) × (now.left ≢ 0)
  pub begun : result ≡ false → now.next ≡ length datagram
