-- Whether a number is among those of a list.
use Rattle.std.proofs.Common.{◌≡◌, ℕ, ◌==◌, ◌&&◌, ◌||◌, Bool, true, false, List, [], ◌∷◌, map, refl, sym, ap}
use Rattle.std.specs.List.{list_any}
use Rattle.rtcp_engine.specs.answers.Changes.{is_among}

-- a number that some element of a list gives
pub among_map : {A : Type 0} → (number_of : A → ℕ) (list : List A) (number : ℕ) →
    list_any (λ x. number_of x == number) list ≡ is_among (map number_of list) number
among_map {A} number_of [] number = refl
among_map {A} number_of (x ∷ list) number = ap (λ (b : Bool). (number_of x == number) || b)
    (among_map number_of list number)

pub and_true : (a b : Bool) → b ≡ true → a ≡ (a && b)
and_true true b is = sym is
and_true false b is = refl
