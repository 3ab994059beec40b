-- What octets say as an RTP packet, or their first fault, is computed by `rtp_in`.
use Rattle.std.proofs.Common.{◌≡◌, ◌≢◌, ◌↔◌, ℕ, ◌-◌, ◌*◌, ◌<◌, ◌≤◌, ◌⊎◌, ◌==◌, ◌&&◌, ◌||◌, not, if◌then◌else◌, nat_lt, nat_le, Bool, true, false, List, [], length, take, drop, refl, sym, ap, subst, ◌∙◌, arith, inl, inr, Result, Ok, Err}
use Rattle.std.proofs.Math.Seq.{take-length}
use Rattle.std.proofs.lemmas.List.{length-drop}
use Rattle.std.proofs.lemmas.Bool.{ltb-true, ltb-false, leb-true, leb-false, eqb-true, eqb-false, not-true, not-false, and_parts, and_cases, or_cases, or_parts, cond_both}
use Rattle.rtcp_wire.specs.declared.rtp.fault.RtpFault.{RtpFault}
use Rattle.rtcp_wire.specs.declared.rtp.fault.RtpFault.TheVariants.{Padding}
use Rattle.rtcp_wire.specs.RtpHeads.{rtp_version_of, has_padding, has_extension, csrc_count_of, payload_type_of, IsReserved, extension_size, IsRtpHead, lists_size, after_csrcs, without_extension, after_extension, last_of, IsRtpFault, csrcs_in, IsPadded, without_padding}
use Rattle.rtcp_wire.specs.RtpReadings.{rtp_in}
use Rattle.rtcp_wire.specs.Walks.{ids_in}
use Rattle.rtcp_wire.proofs.RtpHeading.{head_in, head_made}
use Rattle.rtcp_wire.proofs.RtpFaults.{one_head, one_fault, never_both, is_short, is_version, is_payload_type, is_extension, is_padding}
use Rattle.rtcp_wire.proofs.WalkSteps.{own_ids, csrcs_are_ids}
use Rattle.rtcp_wire.specs.Values.{RtpValue}

-- ---- What each test says, where it finds a fault and where it finds none

reserved : (n : ℕ) → (nat_le 72 n && nat_le n 76) ≡ true → IsReserved n
reserved n found =
    let both = and_parts (nat_le 72 n) (nat_le n 76) found in
    (leb-true 72 n both.0, leb-true n 76 both.1)

not_reserved : (n : ℕ) → (nat_le 72 n && nat_le n 76) ≡ false → IsReserved n → ⊥
not_reserved n passed is =
    elim (and_cases (nat_le 72 n) (nat_le n 76) passed) [
      | inl low ↦ omega (arith, leb-false 72 n low, is.0)
      | inr high ↦ omega (arith, leb-false n 76 high, is.1)
    ]

cut_off : (extended : Bool) (n size : ℕ) → nat_lt n (if extended then size else 0) ≡ true →
    (extended ≡ true) × (n < size)
cut_off true n size found = (refl, ltb-true n size found)
cut_off false n size found = absurd (omega (arith, ltb-true n 0 found))

whole : (extended : Bool) (n size : ℕ) → nat_lt n (if extended then size else 0) ≡ false → extended ≡ true → size ≤ n
whole true n size passed set = ltb-false n size passed
whole false n size passed set = absurd cc

-- the padding that a last octet counts, where there is some
abbrev counted : Bool → List ℕ → ℕ
counted padded octets = if padded then last_of octets else 0

-- whether it is none, or more than there is
abbrev is_miscounted : Bool → List ℕ → Bool
is_miscounted padded octets =
    padded && (counted padded octets == 0 || nat_lt (length octets) (counted padded octets))

miscounted : (padded : Bool) (octets : List ℕ) → is_miscounted padded octets ≡ true →
    (padded ≡ true) × ((octets ≡ []) ⊎ (last_of octets ≡ 0) ⊎ (length octets < last_of octets))
miscounted false octets found = absurd cc
miscounted true octets found =
    elim (or_cases (last_of octets == 0) (nat_lt (length octets) (last_of octets)) found) [
      | inl zero ↦ (refl, inr (inl (eqb-true (last_of octets) 0 zero)))
      | inr more ↦ (refl, inr (inr (ltb-true (length octets) (last_of octets) more)))
    ]

padded_right : (padded : Bool) (octets : List ℕ) → is_miscounted padded octets ≡ false → padded ≡ true →
    IsPadded octets
padded_right false octets passed set = absurd cc
padded_right true octets passed set =
    let neither = or_parts (last_of octets == 0) (nat_lt (length octets) (last_of octets)) passed in
    (eqb-false (last_of octets) 0 neither.0, ltb-false (length octets) (last_of octets) neither.1)

other_version : (version : ℕ) → not (version == 2) ≡ true → version ≢ 2
other_version version found = eqb-false version 2 (not-true (version == 2) found)

version_two : (version : ℕ) → not (version == 2) ≡ false → version ≡ 2
version_two version passed = eqb-true version 2 (not-false (version == 2) passed)

-- ---- Readings

-- What is read is so.
abbrev IsRead : List ℕ → Result RtpValue RtpFault → Type 0
IsRead octets (Ok head) = IsRtpHead octets head
IsRead octets (Err fault) = IsRtpFault octets fault

-- what follows an extension, where there is one, and what stands before the padding
after_it : (extended : Bool) (octets : List ℕ) →
    drop (if extended then extension_size octets else 0) octets ≡ without_extension extended octets
after_it true octets = refl
after_it false octets = refl

before_it : (padded : Bool) (octets : List ℕ) →
    take (length octets - counted padded octets) octets ≡ without_padding padded octets
before_it true octets = refl
before_it false octets = ap (λ (n : ℕ). take n octets) (omega arith) ∙ take-length octets

-- what is read where each test before that of the padding passed, and these octets follow the extension
abbrev read_after : (octets rest : List ℕ) → Result RtpValue RtpFault
read_after octets rest =
    if is_miscounted (has_padding octets) rest then Err Padding else Ok (record (head_in octets) {
      csrcs = ids_in (csrc_count_of octets) (drop 12 octets);
      payload = take (length rest - counted (has_padding octets) rest) rest;
    })

padding_read : (octets : List ℕ) → lists_size octets ≤ length octets → rtp_version_of octets ≡ 2 →
    (IsReserved (payload_type_of octets) → ⊥)
    → (has_extension octets ≡ true → extension_size (after_csrcs octets) ≤ length (after_csrcs octets)) →
    IsRead octets (read_after octets (after_extension octets))
padding_read octets room version free extended =
    let rest : List ℕ = after_extension octets in
    let words : List ℕ = drop 12 octets in
    let count : ℕ = csrc_count_of octets in
    let sources : ids_in count words ≡ csrcs_in (take (4 * count) words) =
    sym (csrcs_are_ids (take (4 * count) words) ∙ own_ids count words (omega (arith, room, length-drop 12 octets))) in
    cond_both (is_miscounted (has_padding octets) rest) _ _ (IsRead octets)
    (λ found. is_padding octets room version free extended (miscounted (has_padding octets) rest found))
    (λ passed. head_made octets _ (record {
      room = room;
      version = version;
      not_reserved = free;
      extension = extended;
      padding = padded_right (has_padding octets) rest passed;
      says = λ i. record (head_in octets) { csrcs = sources i; payload = before_it (has_padding octets) rest i };
    }))

-- and from the first.
is_read : (octets : List ℕ) → IsRead octets (rtp_in octets)
is_read octets =
    cond_both (nat_lt (length octets) (lists_size octets)) _ _ (IsRead octets)
    (λ few. is_short octets (ltb-true (length octets) (lists_size octets) few))
    (λ enough.
    let room : lists_size octets ≤ length octets = ltb-false (length octets) (lists_size octets) enough in
    cond_both (not (rtp_version_of octets == 2)) _ _ (IsRead octets)
    (λ other. is_version octets room (other_version (rtp_version_of octets) other))
    (λ two.
    let version : rtp_version_of octets ≡ 2 = version_two (rtp_version_of octets) two in
    let kind : ℕ = payload_type_of octets in
    cond_both (nat_le 72 kind && nat_le kind 76) _ _ (IsRead octets)
    (λ found. is_payload_type octets room version (reserved kind found))
    (λ free.
    let type_free = not_reserved kind free in
    let bit : Bool = has_extension octets in
    let rest : List ℕ = after_csrcs octets in
    cond_both (nat_lt (length rest) (if bit then extension_size rest else 0)) _ _ (IsRead octets)
    (λ found. is_extension octets room version type_free (cut_off bit (length rest) (extension_size rest) found))
    (λ passed. subst (λ (t : List ℕ). IsRead octets (read_after octets t)) (sym (after_it bit rest))
    (padding_read octets room version type_free (whole bit (length rest) (extension_size rest) passed))))))

-- Each list of octets is a packet or has a first fault.
pub always_one : (octets : List ℕ) →
    ((head : RtpValue) × IsRtpHead octets head) ⊎ ((fault : RtpFault) × IsRtpFault octets fault)
always_one octets = by (rtp_in octets) (is_read octets)
  where
    by : (read : Result RtpValue RtpFault) → IsRead octets read →
        ((head : RtpValue) × IsRtpHead octets head) ⊎ ((fault : RtpFault) × IsRtpFault octets fault)
    by (Ok head) is = inl (head, is)
    by (Err fault) is = inr (fault, is)

-- ---- No other packet, and no other fault

-- Octets are a packet exactly where it is read,
only_head : (octets : List ℕ) (read : Result RtpValue RtpFault) → IsRead octets read → (head : RtpValue) →
    (IsRtpHead octets head) ↔ (read ≡ Ok head)
only_head octets (Ok found) is head = (
  λ h. ap Ok (one_head octets found head is h),
  λ e. let same : found ≡ head = cc in subst (IsRtpHead octets) same is,
)
only_head octets (Err fault) is head = (λ h. absurd (never_both octets head fault h is), λ e. absurd cc)

-- and have a first fault exactly where it is read.
only_fault : (octets : List ℕ) (read : Result RtpValue RtpFault) → IsRead octets read → (fault : RtpFault) →
    (IsRtpFault octets fault) ↔ (read ≡ Err fault)
only_fault octets (Ok head) is fault = (λ f. absurd (never_both octets head fault is f), λ e. absurd cc)
only_fault octets (Err found) is fault = (
  λ f. ap Err (one_fault octets found fault is f),
  λ e. let same : found ≡ fault = cc in subst (IsRtpFault octets) same is,
)

-- What is read is what octets say,
pub of_head : (octets : List ℕ) (head : RtpValue) → (IsRtpHead octets head) ↔ (rtp_in octets ≡ Ok head)
of_head octets head = only_head octets (rtp_in octets) (is_read octets) head

-- or their first fault.
pub of_fault : (octets : List ℕ) (fault : RtpFault) → (IsRtpFault octets fault) ↔ (rtp_in octets ≡ Err fault)
of_fault octets fault = only_fault octets (rtp_in octets) (is_read octets) fault
