-- What `find` leaves of an iterator: the items that pass the test are the one that it gives and those left.
use Rattle.std.proofs.Common.{◌≡◌, Bool, true, false, List, [], ◌∷◌, Option, Some, None, refl, sym, ap, subst, ◌∙◌}
use Rattle.std.specs.Prelude.{filter}
use Rattle.std.specs.List.{FoldsTo}
use Rattle.std.specs.Fn.{CalledAt}
use Rattle.std.specs.Iterator.{Yields, YieldsFirstBy, FindsItem}
use denote.Param.Members.{Mut}
use denote.Ref.{Bor}

-- an iterator that shows what is left of it, and a closure f that answers a test and stays as it is
module _ {S A B F : Type 0} {g : Mut F (Bor A × Unit {0}) Bool} {f : F} (view : A → B) (rest : S → List B)
    (test : B → Bool)
    (answers : (x : A) (b : Bool) (q : F) → CalledAt g f x b q → (q ≡ f) × (b ≡ test (view x))) where
  left_out : (s t : S) (x : A) → rest s ≡ view x ∷ rest t → test (view x) ≡ false →
      filter test (rest s) ≡ filter test (rest t)
  left_out s t x is fails = rw (is, fails) refl

  kept : (s t : S) (x : A) → rest s ≡ view x ∷ rest t → test (view x) ≡ true →
      filter test (rest s) ≡ view x ∷ filter test (rest t)
  kept s t x is passes = rw (is, passes) refl

  -- A call of what is still f answers the test.
  answered : (p q : F) (x : A) (b : Bool) → p ≡ f → CalledAt g p x b q → (q ≡ f) × (b ≡ test (view x))
  answered p q x b same called = answers x b q (subst (λ (h : F). CalledAt g h x b q) same called)

  -- No item that passes was passed over.
  passed_over : (s t : S) (p q : F) (xs : List A) → p ≡ f → Yields (YieldsFirstBy view rest) s xs t
      → FoldsTo (λ p x q. CalledAt g p x false q) p xs q → (q ≡ f) × (filter test (rest s) ≡ filter test (rest t))
  passed_over s t p q [] same stays calls = (sym calls ∙ same, ap (λ u. filter test (rest u)) stays)
  passed_over s t p q (x ∷ xs) same (next, is, others) (next_p, called, calls) =
      let first = answered p next_p x false same called in
      let then = passed_over next t next_p q xs first.0 others calls in
      (then.0, left_out s next x is (sym first.1) ∙ then.1)

  pub passing_from_find : (s u : S) (r : Option A) → FindsItem (YieldsFirstBy view rest) g s f r u
      → YieldsFirstBy view (λ t. filter test (rest t)) s r u
  passing_from_find s u None (xs, q, (t, given, end), calls, none) =
      ((passed_over s t f q xs refl given calls).1 ∙ ap (filter test) end.0, ap (filter test) end.1)
  passing_from_find s u (Some x) (xs, q, (t, given, is), calls, (last, called)) =
      let before = passed_over s t f q xs refl given calls in
      before.1 ∙ kept t u x is (sym (answered q last x true before.0 called).1)
