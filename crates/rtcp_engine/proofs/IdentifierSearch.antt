-- The search for a new identifier: numbers that follow one another are tried, until one is free.
use Rattle.std.proofs.Common.{◌≡◌, ℕ, suc, zero, ◌+◌, ◌-◌, ◌^◌, ◌<◌, ◌≤◌, Bool, true, false, if◌then◌else◌, refl, sym, ap, ◌∙◌, arith, inl, inr}
use Rattle.std.proofs.lemmas.Bool.{cases_lt}
use Rattle.rtcp_engine.specs.answers.Identities.{IsFirstFree}
use Rattle.rtcp_engine.specs.answers.Changes.{first_free}
use Rattle.rtcp_engine.specs.state.Named.{AreTaken, after}

abbrev tried_first : (most : ℕ) (is_taken : ℕ → Bool) (ssrc : ℕ) → Bool → ℕ
tried_first most is_taken ssrc taken = if taken then first_free most is_taken (after ssrc 1) else ssrc

first_is_taken : (is_taken : ℕ → Bool) (ssrc places : ℕ) → ssrc < 2 ^ 32 → AreTaken is_taken ssrc (suc places) →
    is_taken ssrc ≡ true
first_is_taken is_taken ssrc places fits taken = sym (ap is_taken (omega (arith, fits))) ∙ taken 0 (omega arith)

others_are_taken : (is_taken : ℕ → Bool) (ssrc places : ℕ) → AreTaken is_taken ssrc (suc places) →
    AreTaken is_taken (after ssrc 1) places
others_are_taken is_taken ssrc places taken place within = ap is_taken (omega arith)
    ∙ taken (place + 1) (omega (arith, within))

-- The first that is free, where what is chosen is free.
pub first_is_chosen : (most : ℕ) (is_taken : ℕ → Bool) (ssrc places : ℕ) → ssrc < 2 ^ 32 →
    is_taken (first_free most is_taken ssrc) ≡ false → AreTaken is_taken ssrc places →
    is_taken (after ssrc places) ≡ false
    → after ssrc places ≡ first_free most is_taken ssrc
first_is_chosen zero is_taken ssrc zero fits free taken found = omega (arith, fits)
first_is_chosen zero is_taken ssrc (suc places) fits free taken found =
    absurd (both (first_is_taken is_taken ssrc places fits taken) free)
  where
    both : is_taken ssrc ≡ true → is_taken ssrc ≡ false → ⊥
    both one other = absurd (cc (sym one ∙ other))
first_is_chosen (suc most) is_taken ssrc zero fits free taken found =
    let same : after ssrc 0 ≡ ssrc = omega (arith, fits) in
    same ∙ sym (ap (tried_first most is_taken ssrc) (sym (ap is_taken same) ∙ found))
first_is_chosen (suc most) is_taken ssrc (suc places) fits free taken found =
    let first = first_is_taken is_taken ssrc places fits taken in
    let next = ap (tried_first most is_taken ssrc) first in
    let place : after (after ssrc 1) places ≡ after ssrc (suc places) = omega arith in
    sym place
    ∙ first_is_chosen most is_taken (after ssrc 1) places (omega arith) (sym (ap is_taken next) ∙ free)
    (others_are_taken is_taken ssrc places taken) (ap is_taken place ∙ found)
    ∙ sym next

-- Not all of more places than are tried are taken.
pub some_is_free : (most : ℕ) (is_taken : ℕ → Bool) (ssrc places : ℕ) → ssrc < 2 ^ 32 → most < places →
    AreTaken is_taken ssrc places → is_taken (first_free most is_taken ssrc) ≡ true
some_is_free most is_taken ssrc zero fits more taken = absurd (omega (arith, more))
some_is_free zero is_taken ssrc (suc places) fits more taken = first_is_taken is_taken ssrc places fits taken
some_is_free (suc most) is_taken ssrc (suc places) fits more taken =
    let first = first_is_taken is_taken ssrc places fits taken in
    ap is_taken (ap (tried_first most is_taken ssrc) first)
    ∙ some_is_free most is_taken (after ssrc 1) places (omega arith) (omega (arith, more))
    (others_are_taken is_taken ssrc places taken)

pub one_more_taken : (is_taken : ℕ → Bool) (ssrc places : ℕ) → AreTaken is_taken ssrc places →
    is_taken (after ssrc places) ≡ true → AreTaken is_taken ssrc (places + 1)
one_more_taken is_taken ssrc places taken last place within =
    elim (cases_lt place places) [
      | inl before ↦ taken place before
      | inr here ↦ ap (λ (n : ℕ). is_taken (after ssrc n)) (antisymmetric place places within here) ∙ last
    ]
  where
    antisymmetric : (n m : ℕ) → n < m + 1 → m ≤ n → n ≡ m
    antisymmetric n m below above = omega (arith, below, above)

-- Those of one block are taken, and those of the next.
pub both_taken : (is_taken : ℕ → Bool) (ssrc places more : ℕ) → AreTaken is_taken ssrc places →
    AreTaken is_taken (after ssrc places) more → AreTaken is_taken ssrc (places + more)
both_taken is_taken ssrc places more taken others place within = elim (cases_lt place places) [
  | inl before ↦ taken place before
  | inr from ↦
      let same : after (after ssrc places) (place - places) ≡ after ssrc place = omega (arith, from) in
      ap is_taken (sym same) ∙ others (place - places) (omega (arith, within, from))
]

-- ---- The first that is free, in other words

-- What is chosen comes after so many that are taken.
record ComesAfter (is_taken : ℕ → Bool) (ssrc number : ℕ) : Type 0 where
  pub places : ℕ
  pub here : number ≡ after ssrc places
  pub taken : AreTaken is_taken ssrc places

at_once : (is_taken : ℕ → Bool) (ssrc : ℕ) → ssrc < 2 ^ 32 → ComesAfter is_taken ssrc ssrc
at_once is_taken ssrc fits = record {
  places = 0;
  here = omega (arith, fits);
  taken = λ place within. absurd (omega (arith, within));
}

one_before : (is_taken : ℕ → Bool) (ssrc places : ℕ) → ssrc < 2 ^ 32 → is_taken ssrc ≡ true →
    AreTaken is_taken (after ssrc 1) places → AreTaken is_taken ssrc (places + 1)
one_before is_taken ssrc places fits first taken zero within = ap is_taken (omega (arith, fits)) ∙ first
one_before is_taken ssrc places fits first taken (suc place) within = ap is_taken (omega arith)
    ∙ taken place (omega (arith, within))

chosen_after : (most : ℕ) (is_taken : ℕ → Bool) (ssrc : ℕ) → ssrc < 2 ^ 32 →
    ComesAfter is_taken ssrc (first_free most is_taken ssrc)
chosen_after zero is_taken ssrc fits = at_once is_taken ssrc fits
chosen_after (suc most) is_taken ssrc fits =
    elim (is_taken ssrc) as (λ b. is_taken ssrc ≡ b → ComesAfter is_taken ssrc (tried_first most is_taken ssrc b)) [
      | false ↦ λ free. at_once is_taken ssrc fits
      | true ↦ λ first.
          let later = chosen_after most is_taken (after ssrc 1) (omega arith) in
          let place : after (after ssrc 1) later.places ≡ after ssrc (later.places + 1) = omega arith in
          record {
            places = later.places + 1;
            here = later.here ∙ place;
            taken = one_before is_taken ssrc later.places fits first later.taken;
          }
    ] refl

pub chosen_is_first : (most : ℕ) (is_taken : ℕ → Bool) (ssrc : ℕ) → ssrc < 2 ^ 32 →
    is_taken (first_free most is_taken ssrc) ≡ false → IsFirstFree is_taken ssrc (first_free most is_taken ssrc)
chosen_is_first most is_taken ssrc fits free =
    let at = chosen_after most is_taken ssrc fits in
    record { tries = at.places; here = at.here; free = free; sooner = at.taken }
