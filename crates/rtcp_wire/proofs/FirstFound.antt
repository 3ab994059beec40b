-- Tests one after the other: the first that finds a fault.
use Rattle.std.proofs.Common.{◌≡◌, ℕ, suc, ◌<◌, sym, ap, subst, ◌∙◌, arith, inl, inr}
use Rattle.std.proofs.lemmas.Bool.{cases_order}

-- Each reason has a number of its own, from 1 on.
module _ {R : Type 0} (number_of : R → ℕ) (reason_in : ℕ → R) (has_number : (r : R) → reason_in (number_of r) ≡ r)
    (some : 0 < number_of (reason_in 0)) (Finds : R → Type 0) where
  same_number : (r q : R) → number_of r ≡ number_of q → r ≡ q
  same_number r q e = sym (has_number r) ∙ ap reason_in e ∙ has_number q

  -- No earlier test finds a fault.
  abbrev IsFirst : ℕ → Type 0
  IsFirst n = (earlier : R) → number_of earlier < n → Finds earlier → ⊥

  -- No test comes before the first.
  pub first_of_all : IsFirst 1
  first_of_all earlier below found =
      let none : number_of earlier ≡ 0 = omega arith in
      let same : reason_in 0 ≡ earlier = ap reason_in (sym none) ∙ has_number earlier in
      omega (arith, some, none, ap number_of same)

  -- one test further, where this one finds nothing
  pub one_further : (r : R) → IsFirst (number_of r) → (Finds r → ⊥) → IsFirst (suc (number_of r))
  one_further r none not_here earlier below found =
      elim (cases_order (number_of earlier) (number_of r)) [
        | inl same ↦ not_here (subst Finds (same_number earlier r same) found)
        | inr (inl lower) ↦ none earlier lower found
        | inr (inr higher) ↦ absurd (omega arith)
      ]

  -- There is one first test that finds a fault.
  pub one_first : (r q : R) → Finds r → IsFirst (number_of r) → Finds q → IsFirst (number_of q) → r ≡ q
  one_first r q found none other_found other_none =
      elim (cases_order (number_of r) (number_of q)) [
        | inl same ↦ same_number r q same
        | inr (inl lower) ↦ absurd (other_none r lower found)
        | inr (inr higher) ↦ absurd (none q higher other_found)
      ]
