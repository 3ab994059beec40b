-- What a test of octets finds where it finds no fault: that they are encodings, of whatever values. The tests
-- make no values, and the walks that follow rely on this.
use Rattle.std.specs.Prelude.{◌≡◌, ℕ, List, ◌∷◌, ◌++◌, length, Option}
use Rattle.rtcp_wire.specs.Values.{ItemValue, ChunkValue, RtcpPacket}
use Rattle.rtcp_wire.specs.Grammar.{Joins, IsItem, IsChunk, IsReasonPart, IsBody, IsSpelling, IsAccepted}

-- Items were passed, and the zero octet after them.
pub record PassesItems (old new : List ℕ) : Type 0 where
  pub items : List ItemValue
  pub middle : List ℕ
  pub parts : old ≡ middle ++ 0 ∷ new
  pub each : Joins IsItem items middle

-- Items stand first, and a zero octet after them.
abbrev pub HasItems : List ℕ → Type 0
HasItems octets = (after : List ℕ) × PassesItems octets after

abbrev pub IsSomeChunk : List ℕ → Type 0
IsSomeChunk octets = (chunk : ChunkValue) × IsChunk chunk octets

-- So many chunks stand first.
pub record HasChunks (count : ℕ) (octets : List ℕ) : Type 0 where
  pub chunks : List ChunkValue
  pub middle : List ℕ
  pub after : List ℕ
  pub counted : length chunks ≡ count
  pub parts : octets ≡ middle ++ after
  pub each : Joins IsChunk chunks middle

-- a reason, or nothing
abbrev pub IsSomeReason : List ℕ → Type 0
IsSomeReason octets = (reason : Option (List ℕ)) × IsReasonPart reason octets

abbrev pub IsSomeBody : ℕ → ℕ → List ℕ → Type 0
IsSomeBody kind count body = (packet : RtcpPacket) × IsBody packet kind count body

abbrev pub IsSomePacket : List ℕ → Type 0
IsSomePacket octets = (packet : RtcpPacket) × IsSpelling packet octets

abbrev pub IsSomeDatagram : List ℕ → Type 0
IsSomeDatagram octets = (packets : List RtcpPacket) × IsAccepted octets packets
