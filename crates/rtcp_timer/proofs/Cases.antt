-- A test of two numbers, by cases.
use Rattle.std.proofs.Common.{◌≡◌, ℕ, ◌<◌, ◌≤◌, true, false, nat_lt, if◌then◌else◌, refl}
use Rattle.std.proofs.lemmas.Bool.{ltb-true, ltb-false}

-- What holds in both cases of a test holds of what it chooses.
pub by_test : {X : Type 0} (P : X → Type 0) (a b : ℕ) (x y : X) → (a < b → P x) → (b ≤ a → P y) →
    P (if nat_lt a b then x else y)
by_test P a b x y below above =
    elim (nat_lt a b) as (λ t. nat_lt a b ≡ t → P (if t then x else y)) [
      | true ↦ λ is. below (ltb-true a b is)
      | false ↦ λ is. above (ltb-false a b is)
    ] refl
