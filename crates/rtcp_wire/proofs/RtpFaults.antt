-- Octets are at most one RTP packet and have at most one first fault, and never both.
use Rattle.std.proofs.Common.{◌≡◌, ◌≢◌, ℕ, suc, ◌<◌, ◌≤◌, ◌⊎◌, ◌==◌, if◌then◌else◌, lit<, true, List, [], length, refl, sym, ap, subst, ◌∙◌, arith, inl, inr, Result, Err}
use Rattle.std.proofs.lemmas.Bool.{cases_lt, cases_eq}
use Rattle.rtcp_wire.specs.declared.rtp.fault.RtpFault.{RtpFault}
use Rattle.rtcp_wire.specs.declared.rtp.fault.RtpFault.TheVariants.{Short, Version, PayloadType, Extension, Padding}
use Rattle.rtcp_wire.specs.RtpHeads.{rtp_version_of, has_extension, payload_type_of, IsReserved, extension_size, IsRtpHead, lists_size, after_csrcs, after_extension, last_of, FindsRtp, rtp_number_of, IsRtpFault, IsPadded}
use Rattle.rtcp_wire.proofs.FirstFound.{first_of_all, one_further, one_first}
use Rattle.rtcp_wire.proofs.RtpHeading.{IsSoundRtp, sound_head}
use Rattle.rtcp_wire.specs.Values.{RtpValue}

-- ---- Packets

-- Octets are at most one packet.
pub one_head : (octets : List ℕ) (h k : RtpValue) → IsRtpHead octets h → IsRtpHead octets k → h ≡ k
one_head octets h k is_h is_k = (sound_head octets h is_h).says ∙ sym (sound_head octets k is_k).says

-- No test finds a fault in sound octets.
sound_faultless : (octets : List ℕ) (head : RtpValue) → IsSoundRtp octets head → (fault : RtpFault) →
    FindsRtp fault octets → ⊥
sound_faultless octets head h Short found = omega (arith, h.room, found)
sound_faultless octets head h Version found = found h.version
sound_faultless octets head h PayloadType found = h.not_reserved found
sound_faultless octets head h Extension found = omega (arith, h.extension found.0, found.1)
sound_faultless octets head h Padding found =
    let good : IsPadded (after_extension octets) = h.padding found.0 in
    elim found.1 [
      | inl none ↦ omega (arith, ap length none, good.0, good.1)
      | inr (inl zero) ↦ good.0 zero
      | inr (inr more) ↦ omega (arith, good.1, more)
    ]

-- A packet has no fault.
pub never_both : (octets : List ℕ) (head : RtpValue) (fault : RtpFault) → IsRtpHead octets head →
    IsRtpFault octets fault → ⊥
never_both octets head fault h f = sound_faultless octets head (sound_head octets head h) fault f.found

-- ---- Tests

-- the fault of this number
abbrev fault_in : ℕ → RtpFault
fault_in n = if n == 1 then Short else if n == 2 then Version else if n == 3 then PayloadType else if n == 4 then
    Extension else Padding

-- Each fault is that of its number.
has_number : (f : RtpFault) → fault_in (rtp_number_of f) ≡ f
has_number Short = refl
has_number Version = refl
has_number PayloadType = refl
has_number Extension = refl
has_number Padding = refl

-- Octets have at most one first fault.
pub one_fault : (octets : List ℕ) (f g : RtpFault) → IsRtpFault octets f → IsRtpFault octets g → f ≡ g
one_fault octets f g is_f is_g = one_first rtp_number_of fault_in has_number (lit< tt) (λ fault. FindsRtp fault octets)
    f g is_f.found is_f.no_earlier is_g.found is_g.no_earlier

-- The fault that is returned is the first one.
pub same_fault : (octets : List ℕ) (f g : RtpFault) → IsRtpFault octets f →
    ◌≡◌ {A = Result RtpValue RtpFault} (Err f) (Err g) → IsRtpFault octets g
same_fault octets f g is_f e = let same : f ≡ g = cc in subst (IsRtpFault octets) same is_f

-- No earlier test finds a fault.
abbrev pub NoneBefore : ℕ → List ℕ → Type 0
NoneBefore n octets = (earlier : RtpFault) → rtp_number_of earlier < n → FindsRtp earlier octets → ⊥

-- No test comes before the first.
none_at_first : (octets : List ℕ) → NoneBefore 1 octets
none_at_first octets = first_of_all rtp_number_of fault_in has_number (lit< tt) (λ fault. FindsRtp fault octets)

-- one test further, where this one finds nothing
next_test : (f : RtpFault) (octets : List ℕ) → NoneBefore (rtp_number_of f) octets → (FindsRtp f octets → ⊥) →
    NoneBefore (suc (rtp_number_of f)) octets
next_test f octets = one_further rtp_number_of fault_in has_number (lit< tt) (λ fault. FindsRtp fault octets) f

-- ---- Each first fault

pub is_short : (octets : List ℕ) → length octets < lists_size octets → IsRtpFault octets Short
is_short octets few = record { found = few; no_earlier = none_at_first octets }

-- Before the version the size is tested,
before_version : (octets : List ℕ) → lists_size octets ≤ length octets → NoneBefore 2 octets
before_version octets room = next_test Short octets (none_at_first octets)
    (λ (few : length octets < lists_size octets). omega (arith, room, few))

pub is_version : (octets : List ℕ) → lists_size octets ≤ length octets → rtp_version_of octets ≢ 2 →
    IsRtpFault octets Version
is_version octets room wrong = record { found = wrong; no_earlier = before_version octets room }

-- before the payload type the version,
before_type : (octets : List ℕ) → lists_size octets ≤ length octets → rtp_version_of octets ≡ 2 → NoneBefore 3 octets
before_type octets room version = next_test Version octets (before_version octets room) (λ wrong. wrong version)

pub is_payload_type : (octets : List ℕ) → lists_size octets ≤ length octets → rtp_version_of octets ≡ 2 →
    IsReserved (payload_type_of octets) → IsRtpFault octets PayloadType
is_payload_type octets room version reserved = record { found = reserved; no_earlier = before_type octets room version }

-- before the extension the payload type,
before_extension : (octets : List ℕ) → lists_size octets ≤ length octets → rtp_version_of octets ≡ 2 →
    (IsReserved (payload_type_of octets) → ⊥) → NoneBefore 4 octets
before_extension octets room version free = next_test PayloadType octets (before_type octets room version) free

pub is_extension : (octets : List ℕ) → lists_size octets ≤ length octets → rtp_version_of octets ≡ 2 →
    (IsReserved (payload_type_of octets) → ⊥) → FindsRtp Extension octets → IsRtpFault octets Extension
is_extension octets room version free found =
    record { found = found; no_earlier = before_extension octets room version free }

-- and before the padding the extension.
pub is_padding : (octets : List ℕ) → lists_size octets ≤ length octets → rtp_version_of octets ≡ 2 →
    (IsReserved (payload_type_of octets) → ⊥)
    → (has_extension octets ≡ true → extension_size (after_csrcs octets) ≤ length (after_csrcs octets)) →
    FindsRtp Padding octets → IsRtpFault octets Padding
is_padding octets room version free extended found = record {
  found = found;
  no_earlier = next_test Extension octets (before_extension octets room version free)
      (λ wrong. omega (arith, extended wrong.0, wrong.1));
}

-- why octets end with no padding
pub not_padded : (octets : List ℕ) → (IsPadded octets → ⊥) →
    (octets ≡ []) ⊎ (last_of octets ≡ 0) ⊎ (length octets < last_of octets)
not_padded octets bad =
    elim (cases_eq (last_of octets) 0) [
      | inl zero ↦ inr (inl zero)
      | inr some ↦ elim (cases_lt (length octets) (last_of octets)) [
        | inl more ↦ inr (inr more)
        | inr fits ↦ absurd (bad (some, fits))
      ]
    ]
