-- Where a walk over the parts of one kind in a datagram stands: what is left to its cursor.
use Rattle.std.specs.Prelude.{ℕ, ◌≡◌, ◌≢◌, ◌+◌, ◌<◌, ◌==◌, ◌⊎◌, ◌&&◌, nat_le, if◌then◌else◌, Bool, true, List, [], ◌∷◌, ◌++◌, Option, flat_map, length, take, drop}
use Rattle.rtcp_wire.specs.Contents.{blocks_by, chunk_items, goodbyes_by, items_by}
use Rattle.rtcp_wire.specs.Grammar.{Joins, IsBlock, IsChunk, IsId, IsItem, IsReasonPart, IsSpelling}
use Rattle.rtcp_wire.specs.Values.{ChunkValue, ItemValue, ReportBlock, RtcpPacket}
use Rattle.rtcp_wire.specs.Views.{reported_value}
use Rattle.rtcp_wire.specs.declared.block.Block.{Block}
use Rattle.rtcp_parts.specs.declared.cursor.Cursor.{Cursor}

-- ---- Cursors of any numbers

-- after the last packet of so many octets
abbrev pub ended_at : ℕ → Cursor
ended_at octets = record { next = octets; place = 0; end = 0; left = 0; ssrc = 0 }

-- The cursor is in a packet of a datagram of so many octets.
abbrev pub is_within : ℕ → Cursor → Bool
is_within octets cursor = nat_le cursor.place cursor.end && nat_le cursor.end cursor.next && nat_le cursor.next octets

-- The cursor with which a walk goes on: of zeros where it begins, and after the last packet where the cursor is none of
-- this datagram.
abbrev pub begun_at : ℕ → Cursor → Cursor
begun_at octets cursor =
    if cursor.next == 0 then ended_at 0
    else (if is_within octets cursor then cursor
    else ended_at octets)

-- how many octets a walk has passed
abbrev pub position : Cursor → ℕ
position cursor = if cursor.next == 0 then 0 else (if cursor.left == 0 then cursor.next else cursor.place)

-- ---- Boundaries

-- These octets are packets, one after the other.
abbrev pub ArePackets : List ℕ → Type 0
ArePackets octets = (packets : List RtcpPacket) × Joins IsSpelling packets octets

-- After so many octets of a datagram none of its packets is cut: those octets are packets, and so are the others.
pub record IsBoundary (datagram : List ℕ) (octets : ℕ) : Type 0 where
  pub before : ArePackets (take octets datagram)
  pub after : ArePackets (drop octets datagram)

-- ---- What is left to a walk

-- what is left of the packet that the walk is in, up to its padding
abbrev pub rest_of : List ℕ → Cursor → List ℕ
rest_of datagram cursor = drop cursor.place (take cursor.end datagram)

-- These parts are left of the packet that the walk is in, if it is in one: as the kind of the walk says.
abbrev pub LeavesHere : {Part : Type 0} → (List ℕ → Cursor → List Part → Type 0) → List ℕ → Cursor → List Part → Type 0
LeavesHere IsLeft datagram cursor here =
    ((cursor.left ≡ 0) × (here ≡ [])) ⊎ ((0 < cursor.left) × IsLeft datagram cursor here)

-- These parts of a datagram are left to the cursor: those of the packet that it is in, and those of the packets after
-- that, which stand from its next on.
pub record Leaves
    {Part : Type 0} (parts_of : RtcpPacket → List Part) (IsLeft : List ℕ → Cursor → List Part → Type 0)
    (datagram : List ℕ) (cursor : Cursor) (parts : List Part) : Type 0 where
  pub here : List Part
  pub packets : List RtcpPacket
  pub inside : LeavesHere IsLeft datagram cursor here
  pub after : Joins IsSpelling packets (drop cursor.next datagram)
  pub all : parts ≡ here ++ flat_map parts_of packets

-- A walk over the parts of these packets has passed so many of them: none at first, with a cursor whose next is 0.
abbrev pub HasPassed :
    {Part : Type 0} → (RtcpPacket → List Part) → (List ℕ → Cursor → List Part → Type 0) → List RtcpPacket → List ℕ
    → ℕ → Cursor → Type 0
HasPassed parts_of IsLeft packets datagram passed cursor =
    ((passed ≡ 0) × (cursor.next ≡ 0))
    ⊎ ((cursor.next ≢ 0) × (is_within (length datagram) cursor ≡ true)
    × Leaves parts_of IsLeft datagram cursor (drop passed (flat_map parts_of packets)))

-- ---- What is left of a packet

-- the octets of a report's body before its blocks: of a sender report all that it says of its sender, of the other its
-- SSRC (6.4.1, 6.4.2)
abbrev pub blocks_place : (kind : ℕ) → ℕ
blocks_place kind = if kind == 200 then 24 else 4

-- So many blocks of a report stand next (6.4.1).
pub record LeavesBlocks (datagram : List ℕ) (cursor : Cursor) (parts : List (ℕ × ReportBlock)) : Type 0 where
  pub blocks : List ReportBlock
  pub octets : List ℕ
  pub more : List ℕ
  pub stand : rest_of datagram cursor ≡ octets ++ more
  pub each : Joins IsBlock blocks octets
  pub counted : length blocks ≡ cursor.left
  pub here : parts ≡ blocks_by cursor.ssrc blocks

-- So many identifiers stand next, and the rest of the packet is their reason, or nothing (6.6).
pub record LeavesGoodbyes (datagram : List ℕ) (cursor : Cursor) (parts : List (ℕ × Option (List ℕ))) : Type 0 where
  pub ids : List ℕ
  pub reason : Option (List ℕ)
  pub octets : List ℕ
  pub ends : List ℕ
  pub stand : rest_of datagram cursor ≡ octets ++ ends
  pub each : Joins IsId ids octets
  pub counted : length ids ≡ cursor.left
  pub because : IsReasonPart reason ends
  pub here : parts ≡ goodbyes_by reason ids

-- The items of a chunk stand next, then a zero octet and the fill of its last word, and then the other chunks (6.5).
pub record LeavesItems (datagram : List ℕ) (cursor : Cursor) (parts : List (ℕ × ItemValue)) : Type 0 where
  pub items : List ItemValue
  pub chunks : List ChunkValue
  pub octets : List ℕ
  pub fill : List ℕ
  pub more : List ℕ
  pub stand : rest_of datagram cursor ≡ octets ++ 0 ∷ (fill ++ more)
  pub each : Joins IsItem items octets
  pub few : length fill < 4
  pub others : Joins IsChunk chunks more
  pub counted : length chunks + 1 ≡ cursor.left
  pub here : parts ≡ items_by cursor.ssrc items ++ flat_map chunk_items chunks

-- A walk of this kind stays in no packet: each has one part at most.
abbrev pub LeavesNone : {Part : Type 0} → List ℕ → Cursor → List Part → Type 0
LeavesNone datagram cursor here = ⊥

-- ---- What a part shows

abbrev pub ShowsReported : ℕ × ReportBlock → ℕ × Block → Type 0
ShowsReported part given = reported_value given ≡ part
