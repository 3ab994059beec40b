-- The encodings of a packet, and the datagrams that are accepted: RFC 3550, 6.1, 6.4 to 6.7 and appendix A.2.
-- Octets are a list of numbers, the first octet first. An encoding is called a spelling here: a packet has
-- several, since some octets are free. Fields of fixed size are computed; what has parts is said by how they
-- are joined.
use Rattle.std.specs.Prelude.{◌≡◌, ◌≢◌, ℕ, ◌-◌, ◌%◌, ◌<◌, ◌≤◌, ◌⊎◌, true, false, List, [], ◌∷◌, ◌++◌, Option, Some, None, All, length}
use Rattle.byteorder.specs.Endian.{big_number}
use Rattle.rtcp_wire.specs.Values.{SenderValue, ReportBlock, ItemValue, ChunkValue, RtcpPacket, sr, rr, sdes, bye, app, other}
use Rattle.rtcp_wire.specs.Readings.{size_of, block_in, sender_in}
use Rattle.rtcp_wire.specs.Headers.{version_of, is_padded, count_of, type_of, padding_of, body_of}

-- The numbers are octets, as those of a datagram in memory always are.
abbrev pub AreOctets : List ℕ → Type 0
AreOctets octets = All (λ octet. octet < 256) octets

-- The octets are encodings of these values, one after the other.
abbrev pub Joins : {A : Type 0} → (A → List ℕ → Type 0) → List A → List ℕ → Type 0
Joins Spells [] octets = octets ≡ []
Joins Spells (x ∷ xs) octets = (prefix : List ℕ) × (rest : List ℕ) × (octets ≡ prefix ++ rest)
    × Spells x prefix × Joins Spells xs rest

-- The number of padding octets is a multiple of four, at least 4, and leaves the header. The octets before it are free.
abbrev pub IsPadding : ℕ → ℕ → Type 0
IsPadding size padding = (padding ≢ 0) × (padding % 4 ≡ 0) × (padding ≤ size - 4)

-- ---- Bodies

abbrev pub IsBlock : ReportBlock → List ℕ → Type 0
IsBlock block octets = (length octets ≡ 24) × (block ≡ block_in octets)

-- What both reports end with (6.4.1, 6.4.2): as many blocks as the count says, and an extension.
pub record IsReportEnd
    (blocks : List ReportBlock) (extension : List ℕ) (count : ℕ) (octets : List ℕ) : Type 0 where
  pub reports : List ℕ
  pub parts : octets ≡ reports ++ extension
  pub counted : length blocks ≡ count
  pub each : Joins IsBlock blocks reports

-- A sender report (6.4.1): its sender, and then blocks and an extension.
pub record IsSenderReport
    (sender : SenderValue) (blocks : List ReportBlock) (extension : List ℕ) (count : ℕ) (body : List ℕ)
    : Type 0 where
  pub prefix : List ℕ
  pub rest : List ℕ
  pub parts : body ≡ prefix ++ rest
  pub prefix_size : length prefix ≡ 24
  pub says : sender ≡ sender_in prefix
  pub ends : IsReportEnd blocks extension count rest

-- the identifier that four octets say
abbrev pub IsId : ℕ → List ℕ → Type 0
IsId id octets = (length octets ≡ 4) × (id ≡ big_number 4 octets)

-- A receiver report (6.4.2): an identifier, and then blocks and an extension.
pub record IsReport
    (ssrc : ℕ) (blocks : List ReportBlock) (extension : List ℕ) (count : ℕ) (body : List ℕ) : Type 0 where
  pub id : List ℕ
  pub rest : List ℕ
  pub parts : body ≡ id ++ rest
  pub sender : IsId ssrc id
  pub ends : IsReportEnd blocks extension count rest

-- An item (6.5): a type that is not 0, the length of the text, and the text.
abbrev pub IsItem : ItemValue → List ℕ → Type 0
IsItem item octets = (item.kind ≢ 0) × (octets ≡ item.kind ∷ length item.text ∷ item.text)

-- A chunk (6.5): an identifier, items, a zero octet, and up to three free octets that fill the word.
pub record IsChunk (chunk : ChunkValue) (octets : List ℕ) : Type 0 where
  pub id : List ℕ
  pub items : List ℕ
  pub free : List ℕ
  pub parts : octets ≡ id ++ (items ++ 0 ∷ free)
  pub id_size : length id ≡ 4
  pub source : chunk.id ≡ big_number 4 id
  pub each : Joins IsItem chunk.items items
  pub fill : length free < 4
  pub aligned : length octets % 4 ≡ 0

-- A reason (6.6): the length of its text, the text, and up to three free octets that fill the word.
pub record IsReason (text octets : List ℕ) : Type 0 where
  pub free : List ℕ
  pub parts : octets ≡ length text ∷ (text ++ free)
  pub fill : length free < 4
  pub aligned : length octets % 4 ≡ 0

-- what follows the identifiers of a BYE (6.6): a reason, or nothing
abbrev pub IsReasonPart : Option (List ℕ) → List ℕ → Type 0
IsReasonPart None octets = octets ≡ []
IsReasonPart (Some text) octets = IsReason text octets

-- A BYE (6.6): as many identifiers as the count says, and perhaps a reason.
pub record IsGoodbye (ids : List ℕ) (reason : Option (List ℕ)) (count : ℕ) (body : List ℕ) : Type 0 where
  pub prefix : List ℕ
  pub rest : List ℕ
  pub parts : body ≡ prefix ++ rest
  pub counted : length ids ≡ count
  pub each : Joins IsId ids prefix
  pub ends : IsReasonPart reason rest

-- An application's own packet (6.7): an identifier, a name of four octets, and what the application says.
pub record IsApplication (ssrc : ℕ) (name content body : List ℕ) : Type 0 where
  pub id : List ℕ
  pub parts : body ≡ id ++ (name ++ content)
  pub source : IsId ssrc id
  pub name_size : length name ≡ 4

-- a type whose body is kept as it is
abbrev pub IsOtherType : ℕ → Type 0
IsOtherType kind = (kind < 200) ⊎ (204 < kind)

-- a packet's body, under its type and count
abbrev pub IsBody : RtcpPacket → ℕ → ℕ → List ℕ → Type 0
IsBody (sr sender blocks extension) kind count body =
    (kind ≡ 200) × IsSenderReport sender blocks extension count body
IsBody (rr ssrc blocks extension) kind count body = (kind ≡ 201) × IsReport ssrc blocks extension count body
IsBody (sdes chunks) kind count body = (kind ≡ 202) × (length chunks ≡ count) × Joins IsChunk chunks body
IsBody (bye ids reason) kind count body = (kind ≡ 203) × IsGoodbye ids reason count body
IsBody (app subtype ssrc name content) kind count body =
    (kind ≡ 204) × (subtype ≡ count) × IsApplication ssrc name content body
IsBody (other its_kind its_count its_body) kind count body =
    IsOtherType kind × (its_kind ≡ kind) × (its_count ≡ count) × (its_body ≡ body)

-- ---- Packets and compounds

-- The octets are an encoding of the packet. All octets of padding but the last are free, and so are those
-- that fill a word after a chunk's zero octet or a reason's text.
pub record IsSpelling (packet : RtcpPacket) (octets : List ℕ) : Type 0 where
  pub version : version_of octets ≡ 2
  pub size : length octets ≡ size_of octets
  pub padding : is_padded octets ≡ true → IsPadding (size_of octets) (padding_of octets)
  pub body : IsBody packet (type_of octets) (count_of octets) (body_of octets)

-- A compound begins with a sender's or a receiver's report without padding (6.1, A.2).
abbrev pub MayBegin : List ℕ → Type 0
MayBegin octets = ((type_of octets ≡ 200) ⊎ (type_of octets ≡ 201)) × (is_padded octets ≡ false)

-- The datagram is these packets. There is at least one, since an empty datagram begins with no report.
pub record IsAccepted (octets : List ℕ) (packets : List RtcpPacket) : Type 0 where
  pub short : length octets ≤ 65535
  pub begins : MayBegin octets
  pub joined : Joins IsSpelling packets octets
