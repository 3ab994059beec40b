-- What the octets of a datagram say, or the first fault in them, in one function: `rtcp_in`. It reads packets and their
-- parts from first to last by the rules of RFC 3550, 6.4 to 6.7, and tests each rule where it reads by it, in the order
-- of appendix A.2. A law says that this is the grammar (`readings_are_computed`). Octets are a list of numbers, the
-- first octet first.
use Rattle.std.specs.Prelude.{ℕ, zero, suc, ◌+◌, ◌-◌, ◌*◌, ◌/◌, ◌%◌, ◌==◌, ◌&&◌, ◌||◌, nat_lt, nat_le, not, Bool, if◌then◌else◌, List, [], ◌∷◌, Option, Some, None, option_map, Result, Ok, Err, length, take, drop, slice_index, sum_by}
use Rattle.byteorder.specs.Endian.{big_number, twos_complement}
use Rattle.rtcp_wire.specs.declared.fault.FaultReason.{FaultReason}
use Rattle.rtcp_wire.specs.declared.fault.FaultReason.TheVariants.{Short, Version, FirstType, FirstPadding, Length, Padding, Body, Item, Reason, TooLong}
use Rattle.rtcp_wire.specs.declared.fault.WireFault.{WireFault}
use Rattle.rtcp_wire.specs.Values.{SenderValue, ReportBlock, ItemValue, ChunkValue, RtcpPacket, sr, rr, sdes, bye, app, other}

-- ---- Blocks and identifiers, of so many octets each

-- the block that 24 octets say (6.4.1)
abbrev pub block_in : List ℕ → ReportBlock
block_in octets = record {
  ssrc = big_number 4 octets;
  fraction = slice_index octets 4;
  lost = twos_complement 3 (big_number 3 (drop 5 octets));
  highest = big_number 4 (drop 8 octets);
  jitter = big_number 4 (drop 12 octets);
  lsr = big_number 4 (drop 16 octets);
  dlsr = big_number 4 (drop 20 octets);
}

-- the sender that 24 octets say (6.4.1)
abbrev pub sender_in : List ℕ → SenderValue
sender_in octets = record {
  ssrc = big_number 4 octets;
  ntp = big_number 8 (drop 4 octets);
  rtp = big_number 4 (drop 12 octets);
  packets = big_number 4 (drop 16 octets);
  octets = big_number 4 (drop 20 octets);
}

abbrev pub values_in : {A : Type 0} → (size : ℕ) → (List ℕ → A) → (count : ℕ) → List ℕ → List A
values_in size value zero octets = []
values_in size value (suc count) octets =
    value (take size octets) ∷ values_in size value count (drop size octets)

-- ---- Bodies

-- The bodies of packets are whole words, as their sizes and paddings are: so what fills a word is never cut.

-- what is made of what was read, or the same fault
abbrev pub result_map : {A B E : Type 0} → (A → B) → Result A E → Result B E
result_map f (Ok value) = Ok (f value)
result_map f (Err fault) = Err fault

-- 6.5: an item is its type, the length of its text, and the text. Items end at a zero octet in the place of a type, and
-- where they do not the answer is None. Here so many octets belong to an item that was read.
abbrev pub items_or_none : (skip : ℕ) → List ℕ → Option (List ItemValue)
items_or_none skip [] = None
items_or_none (suc skip) (octet ∷ rest) = items_or_none skip rest
items_or_none zero (kind ∷ rest) =
    let size : ℕ = slice_index rest 0 in
    let item : ItemValue = record { kind = kind; text = take size (drop 1 rest) } in
    if kind == 0 then Some [] else option_map (λ items. item ∷ items) (items_or_none (suc size) rest)

-- 6.5: a source description is as many chunks as the count says, and nothing after them. A chunk is an identifier of
-- four octets, items and their zero octet, and up to three octets that fill the word.
abbrev pub chunks_or_fault : (count : ℕ) → List ℕ → Result (List ChunkValue) FaultReason
chunks_or_fault zero [] = Ok []
chunks_or_fault zero (octet ∷ rest) = Err Body
chunks_or_fault (suc count) octets =
    if nat_lt (length octets) 4 then Err Body
    else elim (items_or_none 0 (drop 4 octets)) [
      | None ↦ Err Item
      | Some items ↦
          let size : ℕ = 4 * ((sum_by (λ item. length item.text + 2) items + 8) / 4) in
          let chunk : ChunkValue = record { id = big_number 4 (take 4 octets); items = items } in
          result_map (λ chunks. chunk ∷ chunks) (chunks_or_fault count (drop size octets))
    ]

-- 6.6: a reason, where there is one, is the length of its text, the text, and up to three octets that fill the word. It
-- is wrong where the text runs past the end, or a word or more is left after it.
abbrev pub reason_or_fault : List ℕ → Result (Option (List ℕ)) FaultReason
reason_or_fault [] = Ok None
reason_or_fault (size ∷ text) =
    if nat_lt (length text) size || nat_le (size + 4) (length text) then Err Reason else Ok (Some (take size text))

-- what is read of a body, where it has this many octets
abbrev pub at_least : ℕ → (body : List ℕ) → Result RtcpPacket FaultReason → Result RtcpPacket FaultReason
at_least size body said = if nat_lt (length body) size then Err Body else said

-- What a body says under its type and count. Types 200 to 204 are a sender's report (6.4.1), a receiver's (6.4.2), a
-- source description (6.5), a BYE (6.6) and a packet of an application (6.7). An extension may follow a report's
-- blocks. A body has the octets that these ask for, of any values but in chunks and in a reason. Others are kept.
abbrev pub body_or_fault : (kind count : ℕ) → List ℕ → Result RtcpPacket FaultReason
body_or_fault kind count body =
    let before_blocks : ℕ = if kind == 200 then 24 else 4 in
    let blocks : List ReportBlock = values_in 24 block_in count (drop before_blocks body) in
    let extension : List ℕ = drop (24 * count) (drop before_blocks body) in
    let ssrc : ℕ = big_number 4 (take 4 body) in
    let ids : List ℕ = values_in 4 (big_number 4) count body in
    if kind == 200 then at_least (24 + 24 * count) body (Ok (sr (sender_in (take 24 body)) blocks extension))
    else if kind == 201 then at_least (4 + 24 * count) body (Ok (rr ssrc blocks extension))
    else if kind == 202 then result_map sdes (chunks_or_fault count body)
    else if kind == 203 then at_least (4 * count) body (result_map (bye ids) (reason_or_fault (drop (4 * count) body)))
    else if kind == 204 then at_least 8 body (Ok (app count ssrc (take 4 (drop 4 body)) (drop 4 (drop 4 body))))
    else Ok (other kind count body)

-- ---- Packets

-- 6.4.1: the size of the packet that begins here, header and padding included. The header says it in words less one.
abbrev pub size_of : List ℕ → ℕ
size_of octets = 4 * (big_number 2 (drop 2 octets) + 1)

-- A.2: the packet that begins here, or the first of these tests that it fails. It has four octets of header, and
-- version 2 (6.4.1). The first packet is a report, without padding (6.1). Each is whole. Where its bit is set, the
-- last octet counts the padding and itself, in whole words that leave the header (6.4.1).
abbrev pub packet_or_fault : (is_first : Bool) → List ℕ → Result RtcpPacket FaultReason
packet_or_fault is_first octets =
    let first : ℕ = slice_index octets 0 in
    let kind : ℕ = slice_index octets 1 in
    let size : ℕ = size_of octets in
    let is_padded : Bool = first / 32 % 2 == 1 in
    let padding : ℕ = if is_padded then slice_index octets (size - 1) else 0 in
    if nat_lt (length octets) 4 then Err Short
    else if not (first / 64 == 2) then Err Version
    else if is_first && not (kind == 200 || kind == 201) then Err FirstType
    else if is_first && is_padded then Err FirstPadding
    else if nat_lt (length octets) size then Err Length
    else if is_padded && (padding == 0 || not (padding % 4 == 0) || nat_lt (size - 4) padding) then Err Padding
    else body_or_fault kind (first % 32) (take (size - 4 - padding) (drop 4 octets))

-- ---- Datagrams

-- 6.1, A.2: packets stand one after the other, to the datagram's end. The first that has a fault is told, with its
-- place: the octets before it. Here so many octets were passed, and so many more belong to a packet.
abbrev pub packets_or_fault : (skip place : ℕ) → List ℕ → Result (List RtcpPacket) WireFault
packets_or_fault skip place [] = Ok []
packets_or_fault (suc skip) place (octet ∷ rest) = packets_or_fault skip (suc place) rest
packets_or_fault zero place (octet ∷ rest) = elim (packet_or_fault (place == 0) (octet ∷ rest)) [
  | Err reason ↦ Err (record { reason = reason; place = place })
  | Ok packet ↦
      result_map (λ packets. packet ∷ packets) (packets_or_fault (size_of (octet ∷ rest) - 1) (suc place) rest)
]

-- What a datagram says, or its first fault. It has at most 65,535 octets, UDP's own limit; an empty one lacks a header.
abbrev pub rtcp_in : List ℕ → Result (List RtcpPacket) WireFault
rtcp_in octets =
    if nat_lt 65535 (length octets) then Err (record { reason = TooLong; place = 0 })
    else if length octets == 0 then Err (record { reason = Short; place = 0 })
    else packets_or_fault 0 0 octets
