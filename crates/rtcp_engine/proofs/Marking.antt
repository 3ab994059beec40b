-- Identifiers of a block, marked one after the other.
use Rattle.std.proofs.Common.{◌≡◌, ◌==◌, ◌||◌, ◌∙◌, ℕ, Bool, true, false, List, refl}
use Rattle.rtcp_engine.specs.answers.Changes.{is_among}

-- before any is marked
pub none_marked : (marked : Bool) (number : ℕ) (left names : List ℕ) → marked ≡ false → left ≡ names →
    (marked || is_among left number) ≡ is_among names number
none_marked marked number left names none same = λ i. none i || is_among (same i) number

-- once the first is marked
pub first_marked : (marked before : Bool) (first ssrc number : ℕ) (left names : List ℕ) →
    marked ≡ (first == number || before) → before ≡ false → first ≡ ssrc → left ≡ names →
    (marked || is_among left number) ≡ (ssrc == number || is_among names number)
first_marked marked before first ssrc number left names is none its same =
    (λ i. is i || is_among (same i) number) ∙ (λ i. (its i == number || none i) || is_among names number)
    ∙ alone (ssrc == number) (is_among names number)
  where
    alone : (one rest : Bool) → ((one || false) || rest) ≡ (one || rest)
    alone true rest = refl
    alone false rest = refl
