-- Worked examples: what the definitions say of RTP packets that are written out, octet by octet.
use Rattle.std.proofs.Common.{◌≡◌, ℕ, ◌<◌, Bool, true, false, List, [], ◌∷◌, ◌++◌, length, refl, arith, inl, inr}
use Rattle.rtcp_wire.specs.declared.rtp.fault.RtpFault.TheVariants.{Short, Version, PayloadType, Extension, Padding}
use Rattle.rtcp_wire.specs.Grammar.{Joins}
use Rattle.rtcp_wire.specs.RtpHeads.{marker_of, payload_type_of, csrc_count_of, has_extension, has_padding, IsReserved, IsCsrc, IsFixedPart, IsExtensionPart, IsPaddingPart, IsRtpHead, IsRtpFault}
use Rattle.rtcp_wire.proofs.RtpFaults.{is_short, is_version, is_payload_type, is_extension, is_padding}
use Rattle.rtcp_wire.specs.Values.{RtpValue}

-- what a packet of sequence number 1, timestamp 2 and source 3 says
abbrev value : ℕ → Bool → List ℕ → List ℕ → RtpValue
value payload_type marker csrcs payload = record {
  payload_type = payload_type;
  marker = marker;
  sequence = 1;
  timestamp = 2;
  ssrc = 3;
  csrcs = csrcs;
  payload = payload;
}

-- the fixed part of such a packet, by its first two octets
abbrev fixed : ℕ → ℕ → List ℕ
fixed first second = first ∷ second ∷ 0 ∷ 1 ∷ 0 ∷ 0 ∷ 0 ∷ 2 ∷ 0 ∷ 0 ∷ 0 ∷ 3 ∷ []

-- A type below the reserved ones is none of them.
is_free : (n : ℕ) → n < 72 → IsReserved n → ⊥
is_free n low r = omega (arith, low, r.0)

-- Nor is one above them.
is_free_above : (n : ℕ) → 76 < n → IsReserved n → ⊥
is_free_above n high r = omega (arith, high, r.1)

-- A bit that is clear isn't set.
differs : false ≡ true → ⊥
differs e = absurd cc

-- ---- Packets

-- A packet says what its parts say.
pub in_parts : {octets : List ℕ} {head : RtpValue} (first sources extension padding : List ℕ) →
    octets ≡ first ++ (sources ++ (extension ++ (head.payload ++ padding))) → IsFixedPart head first →
    length head.csrcs ≡ csrc_count_of first → Joins IsCsrc head.csrcs sources →
    IsExtensionPart (has_extension first) extension → IsPaddingPart (has_padding first) padding → IsRtpHead octets head
in_parts first sources extension padding parts is_fixed counted each is_extension is_padding = record {
  fixed = first;
  sources = sources;
  extension = extension;
  padding = padding;
  parts = parts;
  is_fixed = is_fixed;
  counted = counted;
  each = each;
  is_extension = is_extension;
  is_padding = is_padding;
}

-- 90000001 00000002 00000003 00050001 aabbccdd 0102
pub extended_read : IsRtpHead (fixed 144 0 ++ 0 ∷ 5 ∷ 0 ∷ 1 ∷ 170 ∷ 187 ∷ 204 ∷ 221 ∷ 1 ∷ 2 ∷ [])
    (value 0 false [] (1 ∷ 2 ∷ []))
extended_read = in_parts (fixed 144 0) [] (0 ∷ 5 ∷ 0 ∷ 1 ∷ 170 ∷ 187 ∷ 204 ∷ 221 ∷ []) [] refl
    (search (is_free 0 (omega arith))) refl refl refl refl

-- a0000001 00000002 00000003 0102
pub padded_read : IsRtpHead (fixed 160 0 ++ 1 ∷ 2 ∷ []) (value 0 false [] [])
padded_read = in_parts (fixed 160 0) [] [] (1 ∷ 2 ∷ []) refl (search (is_free 0 (omega arith))) refl refl refl
    (1 ∷ [], refl)

-- 81000001 00000002 00000003 00000004
pub one_source_read : IsRtpHead (fixed 129 0 ++ 0 ∷ 0 ∷ 0 ∷ 4 ∷ []) (value 0 false (4 ∷ []) [])
one_source_read = in_parts (fixed 129 0) (0 ∷ 0 ∷ 0 ∷ 4 ∷ []) [] [] refl (search (is_free 0 (omega arith))) refl
    (0 ∷ 0 ∷ 0 ∷ 4 ∷ [], [], refl, (refl, refl), refl) refl refl

-- a packet of no payload, by its second octet
plain : (second kind : ℕ) (marker : Bool) → (IsReserved kind → ⊥) → kind ≡ payload_type_of (fixed 128 second) →
    marker ≡ marker_of (fixed 128 second) → IsRtpHead (fixed 128 second) (value kind marker [] [])
plain second kind marker free is_kind is_marker =
    in_parts (fixed 128 second) [] [] [] refl (search (free, is_kind, is_marker)) refl refl refl refl

-- 80470001 00000002 00000003: type 71 is free.
pub below_reserved_read : IsRtpHead (fixed 128 71) (value 71 false [] [])
below_reserved_read = plain 71 71 false (is_free 71 (omega arith)) refl refl

-- 804d0001 00000002 00000003: so is type 77.
pub above_reserved_read : IsRtpHead (fixed 128 77) (value 77 false [] [])
above_reserved_read = plain 77 77 false (is_free_above 77 (omega arith)) refl refl

-- 80e00001 00000002 00000003: type 96 with the marker.
pub marked_read : IsRtpHead (fixed 128 224) (value 96 true [] [])
marked_read = plain 224 96 true (is_free_above 96 (omega arith)) refl refl

-- ---- Octets that are refused

-- 82000001 00000002 00000003 00000004
pub one_source_of_two_refused : IsRtpFault (fixed 130 0 ++ 0 ∷ 0 ∷ 0 ∷ 4 ∷ []) Short
one_source_of_two_refused = is_short (fixed 130 0 ++ 0 ∷ 0 ∷ 0 ∷ 4 ∷ []) (omega arith)

-- no octets
pub nothing_refused : IsRtpFault [] Short
nothing_refused = is_short [] (omega arith)

-- 40000001 00000002 00000003
pub version_refused : IsRtpFault (fixed 64 0) Version
version_refused = is_version (fixed 64 0) (omega arith) (λ e. absurd (omega arith))

-- 80480001, 804c0001, 80c80001 and 80cc0001, each before 00000002 00000003
pub reserved_refused : IsRtpFault (fixed 128 72) PayloadType × IsRtpFault (fixed 128 76) PayloadType × IsRtpFault
    (fixed 128 200) PayloadType × IsRtpFault (fixed 128 204) PayloadType
reserved_refused = (
  is_payload_type (fixed 128 72) (omega arith) refl (omega arith, omega arith),
  is_payload_type (fixed 128 76) (omega arith) refl (omega arith, omega arith),
  is_payload_type (fixed 128 200) (omega arith) refl (omega arith, omega arith),
  is_payload_type (fixed 128 204) (omega arith) refl (omega arith, omega arith),
)

-- 90000001 00000002 00000003 00050001 aabbcc
pub extension_refused : IsRtpFault (fixed 144 0 ++ 0 ∷ 5 ∷ 0 ∷ 1 ∷ 170 ∷ 187 ∷ 204 ∷ []) Extension
extension_refused = is_extension (fixed 144 0 ++ 0 ∷ 5 ∷ 0 ∷ 1 ∷ 170 ∷ 187 ∷ 204 ∷ []) (omega arith) refl
    (is_free 0 (omega arith)) (refl, omega arith)

-- a0000001 00000002 00000003 0103
pub padding_refused : IsRtpFault (fixed 160 0 ++ 1 ∷ 3 ∷ []) Padding
padding_refused = is_padding (fixed 160 0 ++ 1 ∷ 3 ∷ []) (omega arith) refl (is_free 0 (omega arith))
    (λ set. absurd (differs set)) (refl, inr (inr (omega arith)))

-- a0000001 00000002 00000003
pub no_padding_refused : IsRtpFault (fixed 160 0) Padding
no_padding_refused = is_padding (fixed 160 0) (omega arith) refl (is_free 0 (omega arith)) (λ set. absurd (differs set))
    (refl, inl refl)

-- a0000001 00000002 00000003 0100
pub zero_padding_refused : IsRtpFault (fixed 160 0 ++ 1 ∷ 0 ∷ []) Padding
zero_padding_refused = is_padding (fixed 160 0 ++ 1 ∷ 0 ∷ []) (omega arith) refl (is_free 0 (omega arith))
    (λ set. absurd (differs set)) (refl, inr (inl refl))
