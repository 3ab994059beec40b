-- Why a datagram is refused, and where: its first fault. The size of the datagram is tested before all else.
-- Then come, at each packet in turn, the tests of RFC 3550, appendix A.2, and those of its padding and its
-- body.
use Rattle.std.specs.Prelude.{◌≡◌, ◌≢◌, ℕ, ◌+◌, ◌*◌, ◌<◌, ◌≤◌, ◌⊎◌, ◌==◌, if◌then◌else◌, Bool, true, List, [], ◌∷◌, ◌++◌, length, drop}
use Rattle.rtcp_wire.specs.declared.fault.FaultReason.{FaultReason}
use Rattle.rtcp_wire.specs.declared.fault.FaultReason.TheVariants.{Short, Version, FirstType, FirstPadding, Length, Padding, Body, Item, Reason, TooLong}
use Rattle.rtcp_wire.specs.declared.fault.WireFault.{WireFault}
use Rattle.rtcp_wire.specs.Values.{ItemValue, ChunkValue, RtcpPacket}
use Rattle.rtcp_wire.specs.Grammar.{Joins, IsPadding, IsItem, IsChunk, IsSpelling, MayBegin, IsAccepted}
use Rattle.rtcp_wire.specs.Readings.{size_of}
use Rattle.rtcp_wire.specs.Headers.{version_of, is_padded, count_of, type_of, padding_of, body_of}

-- A chunk that is counted is missing: fewer than four octets are left for its identifier. Or octets are left
-- after the last chunk.
pub record EndsBesideChunks (count : ℕ) (body : List ℕ) : Type 0 where
  pub chunks : List ChunkValue
  pub prefix : List ℕ
  pub rest : List ℕ
  pub parts : body ≡ prefix ++ rest
  pub each : Joins IsChunk chunks prefix
  pub stop : ((length chunks < count) × (length rest < 4)) ⊎ ((length chunks ≡ count) × (rest ≢ []))

-- an item without its length octet or its whole text, or nothing where an item or the zero octet is expected
abbrev pub IsCut : List ℕ → Type 0
IsCut [] = Unit {0}
IsCut (kind ∷ []) = kind ≢ 0
IsCut (kind ∷ size ∷ text) = (kind ≢ 0) × (length text < size)

-- Inside a chunk, after whole items, the body ends too early.
pub record EndsInsideChunk (count : ℕ) (body : List ℕ) : Type 0 where
  pub chunks : List ChunkValue
  pub items : List ItemValue
  pub prefix : List ℕ
  pub id : List ℕ
  pub middle : List ℕ
  pub cut : List ℕ
  pub parts : body ≡ prefix ++ (id ++ (middle ++ cut))
  pub each : Joins IsChunk chunks prefix
  pub expected : length chunks < count
  pub id_size : length id ≡ 4
  pub each_item : Joins IsItem items middle
  pub ends : IsCut cut

-- Octets that are no reason: the text runs past their end, or a word or more is left after it.
abbrev pub IsNoReason : List ℕ → Type 0
IsNoReason [] = ⊥
IsNoReason (size ∷ text) = (length text < size) ⊎ (size + 4 ≤ length text)

-- The fewest octets that a body of this type and count can have (6.4.1, 6.4.2, 6.6, 6.7). A source
-- description has no such bound: its chunks are of any length.
abbrev pub least_size : ℕ → ℕ → ℕ
least_size kind count =
    if kind == 200 then 24 + 24 * count
    else if kind == 201 then 4 + 24 * count
    else if kind == 203 then 4 * count
    else if kind == 204 then 8
    else 0

-- The test of a reason at a packet's body, under its type and count.
abbrev pub FindsInBody : FaultReason → ℕ → ℕ → List ℕ → Type 0
FindsInBody Body kind count body =
    (length body < least_size kind count) ⊎ ((kind ≡ 202) × EndsBesideChunks count body)
FindsInBody Item kind count body = (kind ≡ 202) × EndsInsideChunk count body
FindsInBody Reason kind count body = (kind ≡ 203) × IsNoReason (drop (4 * count) body)
FindsInBody _ kind count body = ⊥

-- The test of a reason at the octets where a packet should begin, with whether it is the datagram's first.
abbrev pub Finds : FaultReason → Bool → List ℕ → Type 0
Finds Short is_first octets = length octets < 4
Finds Version is_first octets = version_of octets ≢ 2
Finds FirstType is_first octets = (is_first ≡ true) × (type_of octets ≢ 200) × (type_of octets ≢ 201)
Finds FirstPadding is_first octets = (is_first ≡ true) × (is_padded octets ≡ true)
Finds Length is_first octets = length octets < size_of octets
Finds Padding is_first octets =
    (is_padded octets ≡ true) × (IsPadding (size_of octets) (padding_of octets) → ⊥)
Finds Body is_first octets = FindsInBody Body (type_of octets) (count_of octets) (body_of octets)
Finds Item is_first octets = FindsInBody Item (type_of octets) (count_of octets) (body_of octets)
Finds Reason is_first octets = FindsInBody Reason (type_of octets) (count_of octets) (body_of octets)
-- This one is a test of the whole datagram.
Finds TooLong is_first octets = ⊥

-- The number of its test, in whose order they are made.
abbrev pub number_of : FaultReason → ℕ
number_of Short = 1
number_of Version = 2
number_of FirstType = 3
number_of FirstPadding = 4
number_of Length = 5
number_of Padding = 6
number_of Body = 7
number_of Item = 8
number_of Reason = 9
number_of TooLong = 10

-- The test of this reason finds a fault, and no earlier one does.
pub record IsFirstFound (reason : FaultReason) (is_first : Bool) (octets : List ℕ) : Type 0 where
  pub found : Finds reason is_first octets
  pub no_earlier : (earlier : FaultReason) → number_of earlier < number_of reason →
      Finds earlier is_first octets → ⊥

-- These octets of a packet may stand here: the first packet of a datagram has its own rules.
abbrev pub MayStand : Bool → List ℕ → Type 0
MayStand is_first octets = is_first ≡ true → MayBegin octets

-- After a prefix that is empty or accepted no packet follows, and this is the first test that says why.
pub record StopsAt (octets : List ℕ) (fault : WireFault) : Type 0 where
  pub short : length octets ≤ 65535
  pub prefix : List ℕ
  pub rest : List ℕ
  pub parts : octets ≡ prefix ++ rest
  pub place : fault.place ≡ length prefix
  pub before : (prefix ≡ []) ⊎ ((packets : List RtcpPacket) × IsAccepted prefix packets)
  pub more : (rest ≢ []) ⊎ (octets ≡ [])
  pub unreadable : (packet : RtcpPacket) (spelling after : List ℕ) → rest ≡ spelling ++ after →
      IsSpelling packet spelling → MayStand (length prefix == 0) spelling → ⊥
  pub first : IsFirstFound fault.reason (length prefix == 0) rest

-- the datagram's first fault
abbrev pub IsFirstFault : List ℕ → WireFault → Type 0
IsFirstFault octets fault =
    ((65535 < length octets) × (fault.reason ≡ TooLong) × (fault.place ≡ 0)) ⊎ StopsAt octets fault
