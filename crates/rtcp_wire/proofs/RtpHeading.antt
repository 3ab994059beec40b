-- What the octets of an RTP packet say from the start: an account of `IsRtpHead` that computes.
use Rattle.std.proofs.Common.{◌≡◌, ℕ, ◌*◌, ◌/◌, ◌%◌, ◌≤◌, ◌==◌, Bool, true, List, ◌++◌, length, take, drop, slice_index, sym, ap, subst, ◌∙◌, append_assoc, arith}
use Rattle.std.proofs.lemmas.List.{take-append-drop, drop-drop, length-append, length-drop, length-take-le, get_or_append_left}
use Rattle.byteorder.specs.Endian.{big_number}
use Rattle.rtcp_wire.specs.RtpHeads.{rtp_version_of, has_padding, has_extension, csrc_count_of, marker_of, payload_type_of, IsReserved, extension_size, IsExtensionPart, IsPaddingPart, IsRtpHead, lists_size, after_csrcs, without_extension, after_extension, csrcs_in, IsPadded, without_padding}
use Rattle.rtcp_wire.proofs.RtpLists.{cut_at, big_number-prefix, joined_csrcs, words_joined, extension_off, extension_on, padding_off, padding_on}
use Rattle.rtcp_wire.specs.Values.{RtpValue}

-- the fields where they stand, and the payload between the extension and the padding
abbrev pub head_in : List ℕ → RtpValue
head_in octets = record {
  payload_type = payload_type_of octets;
  marker = marker_of octets;
  sequence = big_number 2 (drop 2 octets);
  timestamp = big_number 4 (drop 4 octets);
  ssrc = big_number 4 (drop 8 octets);
  csrcs = csrcs_in (take (4 * csrc_count_of octets) (drop 12 octets));
  payload = without_padding (has_padding octets) (after_extension octets);
}

-- The octets stand each test, and this is what they say.
pub record IsSoundRtp (octets : List ℕ) (head : RtpValue) : Type 0 where
  pub room : lists_size octets ≤ length octets
  pub version : rtp_version_of octets ≡ 2
  pub not_reserved : IsReserved (payload_type_of octets) → ⊥
  pub extension : has_extension octets ≡ true → extension_size (after_csrcs octets) ≤ length (after_csrcs octets)
  pub padding : has_padding octets ≡ true → IsPadded (after_extension octets)
  pub says : head ≡ head_in octets

-- ---- The fixed part

-- Octets and a prefix of twelve of them have the same fixed part.
record SameFixed (octets fixed : List ℕ) : Type 0 where
  first : slice_index octets 0 ≡ slice_index fixed 0
  second : slice_index octets 1 ≡ slice_index fixed 1
  sequence : big_number 2 (drop 2 octets) ≡ big_number 2 (drop 2 fixed)
  timestamp : big_number 4 (drop 4 octets) ≡ big_number 4 (drop 4 fixed)
  ssrc : big_number 4 (drop 8 octets) ≡ big_number 4 (drop 8 fixed)

same_fixed : (fixed rest : List ℕ) → length fixed ≡ 12 → SameFixed (fixed ++ rest) fixed
same_fixed fixed rest size = record {
  first = get_or_append_left fixed rest 0 0 (omega arith);
  second = get_or_append_left fixed rest 0 1 (omega arith);
  sequence = big_number-prefix 2 2 fixed rest (omega arith);
  timestamp = big_number-prefix 4 4 fixed rest (omega arith);
  ssrc = big_number-prefix 4 8 fixed rest (omega arith);
}

-- a value by its fields
abbrev value : ℕ → Bool → ℕ → ℕ → ℕ → List ℕ → List ℕ → RtpValue
value payload_type marker sequence timestamp ssrc csrcs payload =
    record {
      payload_type = payload_type;
      marker = marker;
      sequence = sequence;
      timestamp = timestamp;
      ssrc = ssrc;
      csrcs = csrcs;
      payload = payload;
    }

-- Values are the same where each of their fields is.
pub values_equal : (h k : RtpValue) → h.payload_type ≡ k.payload_type → h.marker ≡ k.marker → h.sequence ≡ k.sequence →
    h.timestamp ≡ k.timestamp → h.ssrc ≡ k.ssrc → h.csrcs ≡ k.csrcs → h.payload ≡ k.payload → h ≡ k
values_equal h k a b c d e f g =
    ap (λ (x : ℕ). value x h.marker h.sequence h.timestamp h.ssrc h.csrcs h.payload) a
    ∙ ap (λ (x : Bool). value k.payload_type x h.sequence h.timestamp h.ssrc h.csrcs h.payload) b
    ∙ ap (λ (x : ℕ). value k.payload_type k.marker x h.timestamp h.ssrc h.csrcs h.payload) c
    ∙ ap (λ (x : ℕ). value k.payload_type k.marker k.sequence x h.ssrc h.csrcs h.payload) d
    ∙ ap (λ (x : ℕ). value k.payload_type k.marker k.sequence k.timestamp x h.csrcs h.payload) e
    ∙ ap (λ (x : List ℕ). value k.payload_type k.marker k.sequence k.timestamp k.ssrc x h.payload) f
    ∙ ap (λ (x : List ℕ). value k.payload_type k.marker k.sequence k.timestamp k.ssrc k.csrcs x) g

-- ---- From the parts

pub sound_head : (octets : List ℕ) (head : RtpValue) → IsRtpHead octets head → IsSoundRtp octets head
sound_head octets head h =
    let payload_on : List ℕ = head.payload ++ h.padding in
    let extension_to : List ℕ = h.extension ++ payload_on in
    let sources_to : List ℕ = h.sources ++ extension_to in
    let same : SameFixed octets h.fixed = subst (λ (t : List ℕ). SameFixed t h.fixed) (sym h.parts)
    (same_fixed h.fixed sources_to h.is_fixed.size) in
    let count : csrc_count_of octets ≡ length head.csrcs = ap (λ (n : ℕ). n % 16) same.first ∙ sym h.counted in
    let each = joined_csrcs head.csrcs h.sources h.each in
    let sources_size : length h.sources ≡ 4 * csrc_count_of octets = omega (arith, each.0, count) in
    let after_fixed : drop 12 octets ≡ sources_to = (cut_at octets h.fixed sources_to 12 h.parts h.is_fixed.size).1 in
    let cut = cut_at (drop 12 octets) h.sources extension_to (4 * csrc_count_of octets) after_fixed sources_size in
    let lists : length (h.fixed ++ h.sources) ≡ lists_size octets =
    omega (arith, length-append h.fixed h.sources, h.is_fixed.size, sources_size) in
    let regrouped : octets ≡ (h.fixed ++ h.sources) ++ extension_to = h.parts
    ∙ sym (append_assoc h.fixed h.sources extension_to) in
    let following : after_csrcs octets ≡ extension_to =
    (cut_at octets (h.fixed ++ h.sources) extension_to (lists_size octets) regrouped lists).1 in
    let extended : has_extension octets ≡ has_extension h.fixed = ap (λ (n : ℕ). n / 16 % 2 == 1) same.first in
    let padded : has_padding octets ≡ has_padding h.fixed = ap (λ (n : ℕ). n / 32 % 2 == 1) same.first in
    let off = extension_off (has_extension octets) h.extension payload_on
    (subst (λ (x : Bool). IsExtensionPart x h.extension) (sym extended) h.is_extension) in
    let last : after_extension octets ≡ payload_on = ap (λ (t : List ℕ). without_extension (has_extension octets) t)
    following ∙ off.0 in
    let unpadded = padding_off (has_padding octets) head.payload h.padding
    (subst (λ (x : Bool). IsPaddingPart x h.padding) (sym padded) h.is_padding) in
    let kind : head.payload_type ≡ payload_type_of octets = h.is_fixed.payload_type
    ∙ ap (λ (n : ℕ). n % 128) (sym same.second) in
    record {
      room = omega (arith, ap length regrouped, length-append (h.fixed ++ h.sources) extension_to, lists);
      version = ap (λ (n : ℕ). n / 64) same.first ∙ h.is_fixed.version;
      not_reserved = λ reserved. h.is_fixed.not_reserved (subst IsReserved (sym kind) reserved);
      extension = λ set. subst (λ (t : List ℕ). extension_size t ≤ length t) (sym following) (off.1 set);
      padding = λ set. subst IsPadded (sym last) (unpadded.1 set);
      says = values_equal head (head_in octets) kind
          (h.is_fixed.marker ∙ ap (λ (n : ℕ). n / 128 % 2 == 1) (sym same.second))
          (h.is_fixed.sequence ∙ sym same.sequence)
          (h.is_fixed.timestamp ∙ sym same.timestamp) (h.is_fixed.ssrc ∙ sym same.ssrc)
          (each.1 ∙ ap csrcs_in (sym cut.0))
          (sym (ap (λ (t : List ℕ). without_padding (has_padding octets) t) last ∙ unpadded.0));
    }

-- ---- To the parts

-- Sound octets are joined of the parts,
parts_made : (octets : List ℕ) (head : RtpValue) → IsSoundRtp octets head → IsRtpHead octets (head_in octets)
parts_made octets head h =
    let fixed : List ℕ = take 12 octets in
    let n : ℕ = 4 * csrc_count_of octets in
    let after : List ℕ = drop 12 octets in
    let sources : List ℕ = take n after in
    let following : drop n after ≡ after_csrcs octets = drop-drop n 12 octets
    ∙ ap (λ (k : ℕ). drop k octets) (omega arith) in
    let on = extension_on (has_extension octets) (after_csrcs octets) h.extension in
    let ends = padding_on (has_padding octets) (after_extension octets) h.padding in
    let whole : fixed ++ after ≡ octets = take-append-drop 12 octets in
    let size : length fixed ≡ 12 = length-take-le 12 octets (omega (arith, h.room)) in
    let same : SameFixed octets fixed = subst (λ (t : List ℕ). SameFixed t fixed) whole (same_fixed fixed after size) in
    let sources_size : length sources ≡ n = length-take-le n after (omega (arith, h.room, length-drop 12 octets)) in
    let joined = words_joined (csrc_count_of octets) sources sources_size in
    let payload_type : payload_type_of octets ≡ payload_type_of fixed = ap (λ (k : ℕ). k % 128) same.second in
    record {
      fixed = fixed;
      sources = sources;
      extension = on.0;
      padding = ends.0;
      parts = sym whole ∙ ap (λ (t : List ℕ). fixed ++ t)
          (sym (take-append-drop n after)
          ∙ ap (λ (t : List ℕ). sources ++ t) (following ∙ on.1 ∙ ap (λ (t : List ℕ). on.0 ++ t) ends.1));
      is_fixed = record {
        size = size;
        version = ap (λ (k : ℕ). k / 64) (sym same.first) ∙ h.version;
        payload_type = payload_type;
        not_reserved = h.not_reserved;
        marker = ap (λ (k : ℕ). k / 128 % 2 == 1) same.second;
        sequence = same.sequence;
        timestamp = same.timestamp;
        ssrc = same.ssrc;
      };
      counted = joined.1 ∙ ap (λ (k : ℕ). k % 16) same.first;
      each = joined.0;
      is_extension = subst (λ (x : Bool). IsExtensionPart x on.0) (ap (λ (k : ℕ). k / 16 % 2 == 1) same.first) on.2;
      is_padding = subst (λ (x : Bool). IsPaddingPart x ends.0) (ap (λ (k : ℕ). k / 32 % 2 == 1) same.first) ends.2;
    }

-- and so they are a packet that says what they say.
pub head_made : (octets : List ℕ) (head : RtpValue) → IsSoundRtp octets head → IsRtpHead octets head
head_made octets head h = subst (IsRtpHead octets) (sym h.says) (parts_made octets head h)
