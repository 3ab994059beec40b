-- The octets that are an RTP packet, what they say, and why other octets are refused: RFC 3550, 5.1 and
-- 5.3.1, and RFC 3551, 6. Octets are a list of numbers, the first octet first.
use Rattle.std.specs.Prelude.{◌≡◌, ◌≢◌, ℕ, ◌+◌, ◌-◌, ◌*◌, ◌/◌, ◌%◌, ◌<◌, ◌≤◌, ◌⊎◌, ◌==◌, Bool, true, false, List, [], ◌∷◌, ◌++◌, length, take, drop, slice_index}
use Rattle.byteorder.specs.Endian.{big_number}
use Rattle.rtcp_wire.specs.declared.rtp.fault.RtpFault.{RtpFault}
use Rattle.rtcp_wire.specs.declared.rtp.fault.RtpFault.TheVariants.{Short, Version, PayloadType, Extension, Padding}
use Rattle.rtcp_wire.specs.Grammar.{Joins}
use Rattle.rtcp_wire.specs.Values.{RtpValue}

-- ---- The first two octets (5.1): version 2, padding bit, extension bit, CSRC count; marker, payload type.

abbrev pub rtp_version_of : List ℕ → ℕ
rtp_version_of octets = slice_index octets 0 / 64

abbrev pub has_padding : List ℕ → Bool
has_padding octets = slice_index octets 0 / 32 % 2 == 1

abbrev pub has_extension : List ℕ → Bool
has_extension octets = slice_index octets 0 / 16 % 2 == 1

abbrev pub csrc_count_of : List ℕ → ℕ
csrc_count_of octets = slice_index octets 0 % 16

abbrev pub marker_of : List ℕ → Bool
marker_of octets = slice_index octets 1 / 128 % 2 == 1

abbrev pub payload_type_of : List ℕ → ℕ
payload_type_of octets = slice_index octets 1 % 128

-- With the marker these are RTCP's packet types 200 to 204, so RFC 3551, 6 reserves them.
abbrev pub IsReserved : ℕ → Type 0
IsReserved payload_type = (72 ≤ payload_type) × (payload_type ≤ 76)

-- ---- The parts of a packet

-- The twelve octets that stand in each packet (5.1).
pub record IsFixedPart (head : RtpValue) (octets : List ℕ) : Type 0 where
  pub size : length octets ≡ 12
  pub version : rtp_version_of octets ≡ 2
  pub payload_type : head.payload_type ≡ payload_type_of octets
  pub not_reserved : IsReserved head.payload_type → ⊥
  pub marker : head.marker ≡ marker_of octets
  pub sequence : head.sequence ≡ big_number 2 (drop 2 octets)
  pub timestamp : head.timestamp ≡ big_number 4 (drop 4 octets)
  pub ssrc : head.ssrc ≡ big_number 4 (drop 8 octets)

-- the word of a contributing source (5.1)
abbrev pub IsCsrc : ℕ → List ℕ → Type 0
IsCsrc csrc octets = (length octets ≡ 4) × (csrc ≡ big_number 4 octets)

-- the size of the header extension that begins here, in octets (5.3.1): 16 free bits, 16 bits that count its
-- words, and these words
abbrev pub extension_size : List ℕ → ℕ
extension_size octets = 4 + 4 * big_number 2 (drop 2 octets)

-- The extension stands where its bit is set, and nowhere else.
abbrev pub IsExtensionPart : Bool → List ℕ → Type 0
IsExtensionPart true octets = length octets ≡ extension_size octets
IsExtensionPart false octets = octets ≡ []

-- Where its bit is set the padding is free octets, and then one that counts all of them and itself (5.1).
abbrev pub IsPaddingPart : Bool → List ℕ → Type 0
IsPaddingPart true octets = (free : List ℕ) × (octets ≡ free ++ (length free + 1) ∷ [])
IsPaddingPart false octets = octets ≡ []

-- The octets are an RTP packet that says this.
pub record IsRtpHead (octets : List ℕ) (head : RtpValue) : Type 0 where
  pub fixed : List ℕ
  pub sources : List ℕ
  pub extension : List ℕ
  pub padding : List ℕ
  pub parts : octets ≡ fixed ++ (sources ++ (extension ++ (head.payload ++ padding)))
  pub is_fixed : IsFixedPart head fixed
  pub counted : length head.csrcs ≡ csrc_count_of fixed
  pub each : Joins IsCsrc head.csrcs sources
  pub is_extension : IsExtensionPart (has_extension fixed) extension
  pub is_padding : IsPaddingPart (has_padding fixed) padding

-- ---- Faults

-- the size of the fixed part and the CSRC list, in octets
abbrev pub lists_size : List ℕ → ℕ
lists_size octets = 12 + 4 * csrc_count_of octets

-- what follows the CSRC list
abbrev pub after_csrcs : List ℕ → List ℕ
after_csrcs octets = drop (lists_size octets) octets

-- the same octets without the extension that begins them, where there is one
abbrev pub without_extension : Bool → List ℕ → List ℕ
without_extension true octets = drop (extension_size octets) octets
without_extension false octets = octets

-- what follows the extension: the payload and the padding
abbrev pub after_extension : List ℕ → List ℕ
after_extension octets = without_extension (has_extension octets) (after_csrcs octets)

-- the last octet, and 0 where there is none
abbrev pub last_of : List ℕ → ℕ
last_of octets = slice_index octets (length octets - 1)

-- The test of a fault. Fewer than 12 octets are too few whatever CSRC count they say, and so are fewer than 4
-- for an extension.
abbrev pub FindsRtp : RtpFault → List ℕ → Type 0
FindsRtp Short octets = length octets < lists_size octets
FindsRtp Version octets = rtp_version_of octets ≢ 2
FindsRtp PayloadType octets = IsReserved (payload_type_of octets)
FindsRtp Extension octets =
    (has_extension octets ≡ true) × (length (after_csrcs octets) < extension_size (after_csrcs octets))
FindsRtp Padding octets =
    (has_padding octets ≡ true)
    × ((after_extension octets ≡ []) ⊎ (last_of (after_extension octets) ≡ 0)
    ⊎ (length (after_extension octets) < last_of (after_extension octets)))

-- The number of its test, in whose order they are made.
abbrev pub rtp_number_of : RtpFault → ℕ
rtp_number_of Short = 1
rtp_number_of Version = 2
rtp_number_of PayloadType = 3
rtp_number_of Extension = 4
rtp_number_of Padding = 5

-- The test of this fault finds it, and no earlier one finds any.
pub record IsRtpFault (octets : List ℕ) (fault : RtpFault) : Type 0 where
  pub found : FindsRtp fault octets
  pub no_earlier : (earlier : RtpFault) → rtp_number_of earlier < rtp_number_of fault → FindsRtp earlier octets → ⊥

-- ---- What the readers of the parts return, for the contracts between them.

-- the CSRCs that these octets say, a word each
abbrev pub csrcs_in : List ℕ → List ℕ
csrcs_in (a ∷ b ∷ c ∷ d ∷ rest) = big_number 4 (a ∷ b ∷ c ∷ d ∷ []) ∷ csrcs_in rest
csrcs_in _ = []

-- A last octet counts the padding, which is some of these octets.
abbrev pub IsPadded : List ℕ → Type 0
IsPadded octets = (last_of octets ≢ 0) × (last_of octets ≤ length octets)

-- the same octets without the padding that ends them, where there is some
abbrev pub without_padding : Bool → List ℕ → List ℕ
without_padding true octets = take (length octets - last_of octets) octets
without_padding false octets = octets

-- Where their bits are set, an extension begins the octets and padding ends them: this is what stands between.
pub record HoldsPayload (extended padded : Bool) (octets payload : List ℕ) : Type 0 where
  pub is : payload ≡ without_padding padded (without_extension extended octets)
  pub extension : extended ≡ true → extension_size octets ≤ length octets
  pub padding : padded ≡ true → IsPadded (without_extension extended octets)

-- or this is wrong with them
abbrev pub FindsAround : RtpFault → (extended padded : Bool) → List ℕ → Type 0
FindsAround Extension extended padded octets = (extended ≡ true) × (length octets < extension_size octets)
FindsAround Padding extended padded octets =
    (extended ≡ true → extension_size octets ≤ length octets) × (padded ≡ true)
    × (IsPadded (without_extension extended octets) → ⊥)
FindsAround _ extended padded octets = ⊥
