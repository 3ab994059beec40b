-- Where the payload of an RTP packet stands in its octets.
use Rattle.std.proofs.Common.{◌≡◌, ◌==◌, ℕ, ◌+◌, ◌/◌, ◌%◌, if◌then◌else◌, List, ◌++◌, length, ap, ◌∙◌, append_assoc, arith}
use Rattle.std.proofs.lemmas.List.{length-append, get_or_append_left}
use Rattle.rtcp_wire.specs.Placed.{StandsIn}
use Rattle.rtcp_wire.specs.RtpHeads.{IsRtpHead, has_padding, last_of}
use Rattle.rtcp_wire.proofs.Prefixes.{length_parts}
use Rattle.rtcp_wire.proofs.RtpLists.{padding_off}
use Rattle.rtcp_wire.specs.Values.{RtpValue}

module _ (octets : List ℕ) (head : RtpValue) (h : IsRtpHead octets head) where
  abbrev before : List ℕ
  before = h.fixed ++ (h.sources ++ h.extension)

  parts : octets ≡ before ++ (head.payload ++ h.padding)
  parts = h.parts ∙ simp append_assoc

  -- the octets of the padding, as the last one counts them
  padding_counted : (if has_padding octets then last_of octets else 0) ≡ length h.padding
  padding_counted =
      let whole : octets ≡ (before ++ head.payload) ++ h.padding = h.parts ∙ simp append_assoc in
      let same : has_padding octets ≡ has_padding h.fixed = ap has_padding h.parts
      ∙ ap (λ (n : ℕ). n / 32 % 2 == 1) (get_or_append_left h.fixed _ 0 0 (omega (arith, h.is_fixed.size))) in
      (λ i. if same i then last_of (whole i) else 0)
      ∙ (padding_off (has_padding h.fixed) (before ++ head.payload) h.padding h.is_padding).2

  -- the sizes of what stands before and after the payload
  pub sizes : (padding : ℕ) → padding ≡ (if has_padding octets then last_of octets else 0)
      → length octets ≡ length h.fixed + length h.sources + length h.extension + length head.payload + padding
  sizes padding is = omega (
    arith,
    is ∙ padding_counted,
    length_parts octets before (head.payload ++ h.padding) parts,
    length-append head.payload h.padding,
    length-append h.fixed (h.sources ++ h.extension),
    length-append h.sources h.extension,
  )

  pub payload_stands : (place : ℕ) → place ≡ length h.fixed + length h.sources + length h.extension
      → StandsIn place head.payload octets
  payload_stands place is = record {
    before = before;
    after = h.padding;
    parts = parts;
    counted =
        omega (arith, is, length-append h.fixed (h.sources ++ h.extension), length-append h.sources h.extension);
  }
