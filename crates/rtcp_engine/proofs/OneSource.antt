-- Facts that are of one source speak of no other.
use Rattle.std.proofs.Common.{◌≡◌, ℕ, ◌==◌, ◌&&◌, ◌||◌, Bool, true, false, List, [], ◌∷◌, ◌++◌, Option, Some, None, refl, ap, ◌∙◌}
use Rattle.std.specs.List.{list_all, list_any}
use Rattle.std.proofs.lemmas.Bool.{eqb-true}
use Rattle.rtcp_wire.specs.declared.fact.Fact.{Fact}
use Rattle.rtcp_wire.specs.declared.fact.Fact.TheVariants.{Heard, Told, Named, Gone, Media}
use Rattle.rtcp_wire.specs.declared.sole.SoleSource.{SoleSource}
use Rattle.rtcp_wire.specs.Facts.{subject}
use Rattle.rtcp_wire.specs.Sole.{is_presence_of, clock_told, IsSole}

or_false : (a : Bool) → (a || false) ≡ a
or_false true = refl
or_false false = refl

or_twice : (a b : Bool) → (a || (a || b)) ≡ (a || b)
or_twice true b = refl
or_twice false b = refl

left_of : (a b : Bool) → (a && b) ≡ true → a ≡ true
left_of true b both = refl
left_of false b both = absurd cc

right_of : (a b : Bool) → (a && b) ≡ true → b ≡ true
right_of true b both = both
right_of false b both = absurd cc

module _ (ssrc own : ℕ) where
  -- whether one of these facts speaks of the source `own`
  abbrev speak : List Fact → Bool
  speak facts = list_any (λ fact. subject fact == own) facts

  -- One fact of the source more tells nothing new.
  one_more : (id : ℕ) (facts : List Fact) → (id == ssrc) ≡ true →
      ((ssrc == own) || ((id == own) || speak facts)) ≡ ((ssrc == own) || speak facts)
  one_more id facts same =
      ap (λ (n : ℕ). (ssrc == own) || ((n == own) || speak facts)) (eqb-true id ssrc same)
      ∙ or_twice (ssrc == own) (speak facts)

  no_other : (facts : List Fact) → list_all (is_presence_of ssrc) facts ≡ true →
      ((ssrc == own) || speak facts) ≡ (ssrc == own)
  no_other [] alone = or_false (ssrc == own)
  no_other (Heard id ∷ facts) alone =
      one_more id facts (left_of (id == ssrc) _ alone) ∙ no_other facts (right_of (id == ssrc) _ alone)
  no_other (Named id ∷ facts) alone =
      one_more id facts (left_of (id == ssrc) _ alone) ∙ no_other facts (right_of (id == ssrc) _ alone)
  no_other (Told id ntp rtp ∷ facts) alone = absurd cc
  no_other (Gone id ∷ facts) alone = absurd cc
  no_other (Media id seq timestamp octets rate ∷ facts) alone = absurd cc

  with_clock : (timestamps : Option (ℕ × ℕ)) (others : List Fact) →
      speak ((Heard ssrc ∷ clock_told ssrc timestamps) ++ others) ≡ ((ssrc == own) || speak others)
  with_clock None others = refl
  with_clock (Some (ntp, rtp)) others = or_twice (ssrc == own) (speak others)

pub only_of_sole : (source : SoleSource) (own : ℕ) (facts : List Fact) → IsSole source facts →
    list_any (λ fact. subject fact == own) facts ≡ (source.ssrc == own)
only_of_sole source own facts h =
    ap (list_any (λ (fact : Fact). subject fact == own)) h.parts
    ∙ with_clock source.ssrc own source.timestamps h.others ∙ no_other source.ssrc own h.others h.alone
