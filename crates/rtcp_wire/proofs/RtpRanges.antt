-- The numbers that an RTP header says.
use Rattle.std.proofs.Common.{ℕ, ◌^◌, ◌<◌, ◌≤◌, List, ◌++◌, All, length, refl, subst, sym, arith}
use Rattle.rtcp_wire.specs.Grammar.{AreOctets}
use Rattle.rtcp_wire.specs.RtpHeads.{IsReserved, IsCsrc, IsRtpHead}
use Rattle.rtcp_wire.proofs.Octets.{number_fits, number_fits_after, both_octets, each_joined}
use Rattle.rtcp_wire.specs.Values.{RtpValue}

csrc_fits : (csrc : ℕ) (octets : List ℕ) → AreOctets octets → IsCsrc csrc octets → csrc < 2 ^ 32
csrc_fits csrc octets all h = subst (λ (n : ℕ). n < 2 ^ 32) (sym h.1) (number_fits 4 octets all)

module _ (octets : List ℕ) (head : RtpValue) (h : IsRtpHead octets head) where
  pub payload_type : (head.payload_type < 128) × (IsReserved head.payload_type → ⊥)
  payload_type = (omega (arith, h.is_fixed.payload_type), h.is_fixed.not_reserved)

  pub few_csrcs : length head.csrcs ≤ 15
  few_csrcs = omega (arith, h.counted)

module _ (octets : List ℕ) (head : RtpValue) (all : AreOctets octets) (h : IsRtpHead octets head) where
  fixed_and_rest : AreOctets h.fixed × AreOctets (h.sources ++ (h.extension ++ (head.payload ++ h.padding)))
  fixed_and_rest = both_octets octets h.fixed (h.sources ++ (h.extension ++ (head.payload ++ h.padding))) h.parts all

  pub sequence : head.sequence < 65536
  sequence = subst (λ (n : ℕ). n < 65536) (sym h.is_fixed.sequence) (number_fits_after 2 2 h.fixed fixed_and_rest.0)

  sources : AreOctets h.sources
  sources = (both_octets _ h.sources (h.extension ++ (head.payload ++ h.padding)) refl fixed_and_rest.1).0

  pub words : (head.timestamp < 2 ^ 32) × (head.ssrc < 2 ^ 32) × All (λ csrc. csrc < 2 ^ 32) head.csrcs
  words = (
    subst (λ (n : ℕ). n < 2 ^ 32) (sym h.is_fixed.timestamp) (number_fits_after 4 4 h.fixed fixed_and_rest.0),
    subst (λ (n : ℕ). n < 2 ^ 32) (sym h.is_fixed.ssrc) (number_fits_after 8 4 h.fixed fixed_and_rest.0),
    each_joined IsCsrc (λ csrc. csrc < 2 ^ 32) csrc_fits head.csrcs h.sources sources h.each,
  )
