-- The one encoding that the writer gives a packet (RFC 3550, 6.4 to 6.7), and the packets that it writes.
-- It has no padding, and each free octet is zero.
use Rattle.std.specs.Prelude.{◌≡◌, ℕ, pos, negsuc, ◌+◌, ◌-◌, ◌/◌, ◌%◌, ◌^◌, ◌<◌, ◌≤◌, ◌≤ℤ◌, List, [], ◌∷◌, ◌++◌, Option, Some, None, All, length, replicate}
use Rattle.std.specs.Int.{w64}
use Rattle.std.specs.List.{flat_map}
use Rattle.byteorder.specs.Endian.{big_bytes, low_bytes}
use Rattle.rtcp_wire.specs.Values.{SenderValue, ReportBlock, ItemValue, ChunkValue, RtcpPacket, sr, rr, sdes, bye, app, other}
use Rattle.rtcp_wire.specs.Grammar.{IsOtherType, IsAccepted}

-- ---- Parts

-- the zeros that fill the last word after so many octets
abbrev pub fill_after : ℕ → List ℕ
fill_after size = replicate ((4 - size % 4) % 4) 0

-- A block (6.4.1). The packets lost are a two's complement of 24 bits.
abbrev pub written_block : ReportBlock → List ℕ
written_block block =
    big_bytes 4 block.ssrc ++ (block.fraction ∷ big_bytes 3 (low_bytes w64 3 block.lost)
    ++ flat_map (big_bytes 4) (block.highest ∷ block.jitter ∷ block.lsr ∷ block.dlsr ∷ []))

-- what a sender report says of its sender (6.4.1)
abbrev pub written_sender : SenderValue → List ℕ
written_sender sender =
    big_bytes 4 sender.ssrc
    ++ (big_bytes 8 sender.ntp ++ flat_map (big_bytes 4) (sender.rtp ∷ sender.packets ∷ sender.octets ∷ []))

-- An item (6.5): its type, the length of its text, and the text.
abbrev pub written_item : ItemValue → List ℕ
written_item item = item.kind ∷ length item.text ∷ item.text

-- A chunk (6.5): an identifier, the items, and zeros: one that ends the items, and those that fill the word.
abbrev pub written_chunk : ChunkValue → List ℕ
written_chunk chunk =
    let items = flat_map written_item chunk.items in
    big_bytes 4 chunk.id ++ (items ++ 0 ∷ fill_after (length items + 1))

-- A reason (6.6): the length of its text, the text, and zeros that fill the word.
abbrev pub written_reason : Option (List ℕ) → List ℕ
written_reason None = []
written_reason (Some text) = length text ∷ (text ++ fill_after (length text + 1))

-- ---- Packets

-- What the header says of a packet, a count or a subtype (6.4 to 6.7) and the type, and what follows the header's word.
abbrev pub written_parts : RtcpPacket → ℕ × ℕ × List ℕ
written_parts (sr sender blocks extension) =
    (length blocks, 200, written_sender sender ++ (flat_map written_block blocks ++ extension))
written_parts (rr ssrc blocks extension) =
    (length blocks, 201, big_bytes 4 ssrc ++ (flat_map written_block blocks ++ extension))
written_parts (sdes chunks) = (length chunks, 202, flat_map written_chunk chunks)
written_parts (bye ids reason) = (length ids, 203, flat_map (big_bytes 4) ids ++ written_reason reason)
written_parts (app subtype ssrc name content) = (subtype, 204, big_bytes 4 ssrc ++ (name ++ content))
written_parts (other kind count body) = (count, kind, body)

-- The packet's octets. The header's word (6.4.1) is version 2, no padding, and the count; the type; and the length in
-- words less one, which is that of the body.
abbrev pub written : RtcpPacket → List ℕ
written packet =
    let parts : ℕ × ℕ × List ℕ = written_parts packet in
    (128 + parts.0) ∷ parts.1 ∷ (big_bytes 2 (length parts.2 / 4) ++ parts.2)

-- the octets of one packet after the other
abbrev pub written_all : List RtcpPacket → List ℕ
written_all packets = flat_map written packets

-- ---- Parts of what is written, for the contracts between the writers

-- an identifier, or another number of a word
abbrev pub written_word : ℕ → List ℕ
written_word number = big_bytes 4 number

-- the header's word, over a body of this size
abbrev pub written_header : (count kind size : ℕ) → List ℕ
written_header count kind size = (128 + count) ∷ kind ∷ big_bytes 2 (size / 4)

-- what the five bits of the header say: a count, or a subtype
abbrev pub written_count : RtcpPacket → ℕ
written_count packet = (written_parts packet).0

abbrev pub written_type : RtcpPacket → ℕ
written_type packet = (written_parts packet).1

-- what follows the header's word
abbrev pub written_body : RtcpPacket → List ℕ
written_body packet = (written_parts packet).2

-- ---- What can be written

-- The octets are whole words.
abbrev pub IsWords : List ℕ → Type 0
IsWords octets = length octets % 4 ≡ 0

-- The packets lost have 24 bits, with their sign.
abbrev pub IsWritableBlock : ReportBlock → Type 0
IsWritableBlock block = (negsuc 8388607 ≤ℤ block.lost) × (block.lost ≤ℤ pos 8388607)

abbrev pub IsWritableItem : ItemValue → Type 0
IsWritableItem item = (1 ≤ item.kind) × (item.kind ≤ 255) × (length item.text ≤ 255)

abbrev pub IsWritableChunk : ChunkValue → Type 0
IsWritableChunk chunk = All IsWritableItem chunk.items

abbrev pub IsWritableReason : Option (List ℕ) → Type 0
IsWritableReason None = Unit {0}
IsWritableReason (Some text) = length text ≤ 255

-- The blocks and the extension of a report can be written.
abbrev pub IsWritableEnd : List ReportBlock → List ℕ → Type 0
IsWritableEnd blocks extension = (length blocks ≤ 31) × All IsWritableBlock blocks × IsWords extension

-- each part alone
abbrev pub HasWritableParts : RtcpPacket → Type 0
HasWritableParts (sr sender blocks extension) = IsWritableEnd blocks extension
HasWritableParts (rr ssrc blocks extension) = IsWritableEnd blocks extension
HasWritableParts (sdes chunks) = (length chunks ≤ 31) × All IsWritableChunk chunks
HasWritableParts (bye ids reason) = (length ids ≤ 31) × IsWritableReason reason
HasWritableParts (app subtype ssrc name content) = (subtype ≤ 31) × IsWords content
HasWritableParts (other kind count body) = IsOtherType kind × (count ≤ 31) × IsWords body

-- Each part can be written, and the header can say the length: 65,536 words at most.
pub record IsWritable (packet : RtcpPacket) : Type 0 where
  pub parts : HasWritableParts packet
  pub size : length (written packet) ≤ 262144

-- ---- Numbers in the ranges of their fields, as Rust's types have them

pub record IsBlockInRange (block : ReportBlock) : Type 0 where
  pub ssrc : block.ssrc < 2 ^ 32
  pub highest : block.highest < 2 ^ 32
  pub jitter : block.jitter < 2 ^ 32
  pub lsr : block.lsr < 2 ^ 32
  pub dlsr : block.dlsr < 2 ^ 32

pub record IsSenderInRange (sender : SenderValue) : Type 0 where
  pub ssrc : sender.ssrc < 2 ^ 32
  pub ntp : sender.ntp < 2 ^ 64
  pub rtp : sender.rtp < 2 ^ 32
  pub packets : sender.packets < 2 ^ 32
  pub octets : sender.octets < 2 ^ 32

abbrev pub IsChunkInRange : ChunkValue → Type 0
IsChunkInRange chunk = chunk.id < 2 ^ 32

abbrev pub IsInRange : RtcpPacket → Type 0
IsInRange (sr sender blocks extension) = IsSenderInRange sender × All IsBlockInRange blocks
IsInRange (rr ssrc blocks extension) = (ssrc < 2 ^ 32) × All IsBlockInRange blocks
IsInRange (sdes chunks) = All IsChunkInRange chunks
IsInRange (bye ids reason) = All (λ id. id < 2 ^ 32) ids
IsInRange (app subtype ssrc name content) = (ssrc < 2 ^ 32) × (length name ≡ 4)
IsInRange (other kind count body) = Unit {0}

-- ---- Compounds

-- There is a first packet, and it is a sender's or a receiver's report (6.1).
abbrev pub BeginsWithReport : List RtcpPacket → Type 0
BeginsWithReport [] = ⊥
BeginsWithReport (sr sender blocks extension ∷ packets) = Unit {0}
BeginsWithReport (rr ssrc blocks extension ∷ packets) = Unit {0}
BeginsWithReport (_ ∷ packets) = ⊥

-- Where they begin with a report, the octets are a datagram of these packets.
abbrev pub ReadsBack : List ℕ → List RtcpPacket → Type 0
ReadsBack octets packets = BeginsWithReport packets → IsAccepted octets packets
