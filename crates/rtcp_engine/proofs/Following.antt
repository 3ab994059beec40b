-- What octets name is fewer than 2^16.
use Rattle.std.proofs.Common.{◌≡◌, ℕ, suc, ◌^◌, ◌<◌, List, [], ◌∷◌, length, map, refl, ap, arith}
use Rattle.rtcp_wire.specs.declared.fact.Fact.{Fact}
use Rattle.rtcp_wire.proofs.LawLemmas.{facts_are_few}
use Rattle.rtcp_wire.specs.Facts.{subject, facts_of}
use Rattle.rtcp_wire.specs.Grammar.{IsAccepted}
use Rattle.rtcp_wire.specs.Values.{RtcpPacket}

subjects_counted : (facts : List Fact) → length (map subject facts) ≡ length facts
subjects_counted [] = refl
subjects_counted (fact ∷ facts) = ap suc (subjects_counted facts)

pub few_named : (octets : List ℕ) (packets : List RtcpPacket) → IsAccepted octets packets →
    length (map subject (facts_of packets)) < 2 ^ 16
few_named octets packets is = omega (
  arith,
  facts_are_few octets packets is,
  is.short,
  subjects_counted (facts_of packets),
)
