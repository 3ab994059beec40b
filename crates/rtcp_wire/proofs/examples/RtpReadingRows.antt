-- Worked examples: what octets say as an RTP packet, or their first fault, computed octet by octet.
use Rattle.std.proofs.Common.{◌≡◌, ℕ, Bool, true, false, List, [], ◌∷◌, ◌++◌, Ok, Err, refl}
use Rattle.rtcp_wire.specs.declared.rtp.fault.RtpFault.TheVariants.{Short, Version, PayloadType, Extension, Padding}
use Rattle.rtcp_wire.specs.Values.{RtpValue}
use Rattle.rtcp_wire.specs.RtpReadings.{rtp_in}

-- a fixed part of sequence number 0x0102, timestamp 0x00000400 and source 0x01020304, by its first two octets
abbrev fixed : ℕ → ℕ → List ℕ
fixed first second = first ∷ second ∷ 1 ∷ 2 ∷ 0 ∷ 0 ∷ 4 ∷ 0 ∷ 1 ∷ 2 ∷ 3 ∷ 4 ∷ []

-- what a packet with that fixed part says
abbrev value : ℕ → Bool → List ℕ → List ℕ → RtpValue
value payload_type marker csrcs payload = record {
  payload_type = payload_type;
  marker = marker;
  sequence = 258;
  timestamp = 1024;
  ssrc = 16909060;
  csrcs = csrcs;
  payload = payload;
}

-- ---- Packets

-- Nothing follows the fixed part: version 2 (80), and type 0.
bare : rtp_in (fixed 0x80 0) ≡ Ok (value 0 false [] [])
bare = refl

-- Padding, an extension and two CSRCs (b2), the marker and type 96 (e0): the CSRCs 00000005 and 00010000, an
-- extension of one word, bede0001 aabbccdd, the payload 111213, and 000003, three octets of padding.
all_parts : rtp_in (fixed 0xb2 0xe0 ++ 0 ∷ 0 ∷ 0 ∷ 5 ∷ 0 ∷ 1 ∷ 0 ∷ 0 ∷ 0xbe ∷ 0xde ∷ 0 ∷ 1 ∷ 0xaa ∷ 0xbb ∷ 0xcc ∷ 0xdd
    ∷ 0x11 ∷ 0x12 ∷ 0x13 ∷ 0 ∷ 0 ∷ 3 ∷ [])
    ≡ Ok (value 96 true (5 ∷ 65536 ∷ []) (0x11 ∷ 0x12 ∷ 0x13 ∷ []))
all_parts = refl

-- All that follows is padding (a0), two octets.
all_padding : rtp_in (fixed 0xa0 0 ++ 1 ∷ 2 ∷ []) ≡ Ok (value 0 false [] [])
all_padding = refl

-- With the padding bit clear, the last octet counts nothing.
last_of_payload : rtp_in (fixed 0x80 0 ++ 1 ∷ 2 ∷ []) ≡ Ok (value 0 false [] (1 ∷ 2 ∷ []))
last_of_payload = refl

-- An extension (90) of no words ends the packet.
empty_extension : rtp_in (fixed 0x90 0 ++ 0 ∷ 5 ∷ 0 ∷ 0 ∷ []) ≡ Ok (value 0 false [] [])
empty_extension = refl

-- Types 71 and 77 stand beside the reserved ones.
below_reserved : rtp_in (fixed 0x80 71) ≡ Ok (value 71 false [] [])
below_reserved = refl

above_reserved : rtp_in (fixed 0x80 77) ≡ Ok (value 77 false [] [])
above_reserved = refl

-- ---- Faults

nothing : rtp_in [] ≡ Err Short
nothing = refl

-- Two CSRCs are counted (82), and one stands there.
one_source_of_two : rtp_in (fixed 0x82 0 ++ 0 ∷ 0 ∷ 0 ∷ 4 ∷ []) ≡ Err Short
one_source_of_two = refl

-- version 1 (40),
version_one : rtp_in (fixed 0x40 0) ≡ Err Version
version_one = refl

-- which is found before a reserved type, and after too few octets.
version_before_type : rtp_in (fixed 0x40 72) ≡ Err Version
version_before_type = refl

version_after_size : rtp_in (fixed 0x41 0) ≡ Err Short
version_after_size = refl

-- the first reserved type, and with the marker the last: RTCP's 204
first_reserved : rtp_in (fixed 0x80 72) ≡ Err PayloadType
first_reserved = refl

last_reserved : rtp_in (fixed 0x80 204) ≡ Err PayloadType
last_reserved = refl

-- An extension (90) counts two words, and one stands there.
extension_past_end : rtp_in (fixed 0x90 0 ++ 0 ∷ 5 ∷ 0 ∷ 2 ∷ 0xaa ∷ 0xbb ∷ 0xcc ∷ 0xdd ∷ []) ≡ Err Extension
extension_past_end = refl

-- Not even the size of this one is whole; the padding bit (b0) changes nothing.
extension_without_size : rtp_in (fixed 0xb0 0 ++ 0 ∷ 5 ∷ 0 ∷ []) ≡ Err Extension
extension_without_size = refl

-- Padding (a0) counts at least its last octet,
padding_zero : rtp_in (fixed 0xa0 0 ++ 1 ∷ 0 ∷ []) ≡ Err Padding
padding_zero = refl

-- no more octets than follow the extension (b0),
padding_past_start : rtp_in (fixed 0xb0 0 ++ 0 ∷ 5 ∷ 0 ∷ 0 ∷ 1 ∷ 3 ∷ []) ≡ Err Padding
padding_past_start = refl

-- and there is some.
no_padding : rtp_in (fixed 0xa0 0) ≡ Err Padding
no_padding = refl
