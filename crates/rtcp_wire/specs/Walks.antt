-- What a walk over octets reads, packet by packet and part by part (RFC 3550, 6.4 to 6.7), for the contracts of walks.
-- Of octets with a fault nothing is claimed of what it reads.
use Rattle.std.specs.Prelude.{ℕ, zero, suc, ◌+◌, ◌-◌, ◌*◌, ◌/◌, ◌==◌, if◌then◌else◌, List, [], ◌∷◌, Option, Some, None, length, take, drop, slice_index, sum_by}
use Rattle.byteorder.specs.Endian.{big_number}
use Rattle.rtcp_wire.specs.Values.{ReportBlock, ItemValue, ChunkValue, RtcpPacket, sr, rr, sdes, bye, app, other}
use Rattle.rtcp_wire.specs.Readings.{size_of, block_in, sender_in, values_in}
use Rattle.rtcp_wire.specs.Headers.{count_of, type_of, body_of}

-- ---- Parts

abbrev pub blocks_in : (count : ℕ) → List ℕ → List ReportBlock
blocks_in count octets = values_in 24 block_in count octets

abbrev pub ids_in : (count : ℕ) → List ℕ → List ℕ
ids_in count octets = values_in 4 (big_number 4) count octets

-- an item: its type, and as many octets of text as the octet after it says
abbrev pub item_in : (kind : ℕ) → List ℕ → ItemValue
item_in kind rest = record { kind = kind; text = take (slice_index rest 0) (drop 1 rest) }

-- the items up to the first zero octet that stands for a type, after so many octets that belong to an item
abbrev pub items_after : (skip : ℕ) → List ℕ → List ItemValue
items_after skip [] = []
items_after zero (kind ∷ rest) =
    if kind == 0 then [] else item_in kind rest ∷ items_after (suc (slice_index rest 0)) rest
items_after (suc skip) (octet ∷ rest) = items_after skip rest

abbrev pub chunk_in : List ℕ → ChunkValue
chunk_in octets = record { id = big_number 4 (take 4 octets); items = items_after 0 (drop 4 octets) }

-- the octets of items
abbrev pub items_size : List ItemValue → ℕ
items_size items = sum_by (λ item. length item.text + 2) items

-- A chunk with its zero octet, up to the end of a word.
abbrev pub chunk_size : List ItemValue → ℕ
chunk_size items = 4 * ((items_size items + 8) / 4)

abbrev pub chunks_in : (count : ℕ) → List ℕ → List ChunkValue
chunks_in zero octets = []
chunks_in (suc count) octets =
    chunk_in octets ∷ chunks_in count (drop (chunk_size (chunk_in octets).items) octets)

abbrev pub reason_in : List ℕ → Option (List ℕ)
reason_in [] = None
reason_in (size ∷ rest) = Some (take size rest)

-- ---- Packets

-- what a body says, under its type and count
abbrev pub body_says : (kind count : ℕ) → List ℕ → RtcpPacket
body_says kind count body =
    if kind == 200 then
    sr (sender_in (take 24 body)) (blocks_in count (drop 24 body)) (drop (24 * count) (drop 24 body))
    else (if kind == 201 then
    rr (big_number 4 (take 4 body)) (blocks_in count (drop 4 body)) (drop (24 * count) (drop 4 body))
    else (if kind == 202 then sdes (chunks_in count body)
    else (if kind == 203 then bye (ids_in count body) (reason_in (drop (4 * count) body))
    else (if kind == 204 then
    app count (big_number 4 (take 4 body)) (take 4 (drop 4 body)) (drop 4 (drop 4 body))
    else other kind count body))))

-- the packet that begins here
abbrev pub packet_in : List ℕ → RtcpPacket
packet_in octets = body_says (type_of octets) (count_of octets) (body_of octets)

-- the packets after so many octets that belong to one
abbrev pub packets_after : (skip : ℕ) → List ℕ → List RtcpPacket
packets_after skip [] = []
packets_after zero (octet ∷ rest) =
    packet_in (octet ∷ rest) ∷ packets_after (size_of (octet ∷ rest) - 1) rest
packets_after (suc skip) (octet ∷ rest) = packets_after skip rest

abbrev pub packets_in : List ℕ → List RtcpPacket
packets_in octets = packets_after 0 octets
