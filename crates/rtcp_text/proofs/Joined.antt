-- Texts with a separator between each two of them, one more text at a time.
use Rattle.std.proofs.Common.{◌≡◌, ℕ, Bool, true, false, List, [], ◌∷◌, ◌++◌, ◌==◌, length, map, refl, sym, ap, ◌∙◌, append_assoc}
use Rattle.std.specs.Borrow.{Bor}
use Rattle.std.specs.Iterator.{Drains, YieldsFirstBy}
use Rattle.std.specs.List.{join_with_byte}
use Rattle.std.proofs.lemmas.List.{map_push, append-nil}
use Rattle.rtcp_text.specs.SettingsFields.{list_text}

-- no values
abbrev pub is_none : {X : Type 0} → List X → Bool
is_none [] = true
is_none (x ∷ xs) = false

pub is_none-push : {X : Type 0} (xs : List X) (x : X) → false ≡ is_none (xs ++ x ∷ [])
is_none-push [] x = refl
is_none-push (y ∷ xs) x = refl

-- after a first piece the separator comes before the next
join_with_byte-push : (c : ℕ) (first : List ℕ) (pieces : List (List ℕ)) (piece : List ℕ)
    → join_with_byte c ((first ∷ pieces) ++ piece ∷ []) ≡ join_with_byte c (first ∷ pieces) ++ (c ∷ piece)
join_with_byte-push c first [] piece = refl
join_with_byte-push c first (next ∷ pieces) piece =
    ap (λ (t : List ℕ). first ++ (c ∷ t)) (join_with_byte-push c next pieces piece)
    ∙ sym (append_assoc first (c ∷ join_with_byte c (next ∷ pieces)) (c ∷ piece))

module _ {X : Type 0} (c : ℕ) (text : X → List ℕ) (x : X) (new out before : List ℕ) where
  abbrev texts : List X → List ℕ
  texts xs = before ++ join_with_byte c (map text xs)

  -- the first piece, with nothing before it
  pub first_piece : (xs : List X) → true ≡ is_none xs → new ≡ out ++ text x → out ≡ texts xs →
      new ≡ texts (xs ++ x ∷ [])
  first_piece [] none pushed so_far = pushed ∙ ap (λ (t : List ℕ). t ++ text x) (so_far ∙ append-nil before)
  first_piece (y ∷ xs) none pushed so_far = absurd (cc)

  -- a later piece, after the separator
  pub next_piece : (xs : List X) (held : List ℕ) → false ≡ is_none xs → held ≡ out ++ c ∷ [] → new ≡ held ++ text x →
      out ≡ texts xs
      → new ≡ texts (xs ++ x ∷ [])
  next_piece [] held some separated pushed so_far = absurd (cc)
  next_piece (y ∷ xs) held some separated pushed so_far =
      let all : join_with_byte c (map text ((y ∷ xs) ++ x ∷ [])) ≡ join_with_byte c (map text (y ∷ xs))
      ++ (c ∷ text x) =
      ap (join_with_byte c) (map_push text (y ∷ xs) x) ∙ join_with_byte-push c (text y) (map text xs) (text x) in
      rw (all, pushed, separated, so_far) (simp append_assoc)

-- An iterator whose value is the list that it gives, where `view` reads the items, gave the texts of that list.
pub texts_given : {X V : Type 0} (view : X → V) (text : V → List ℕ) (all : List V) (given : List X) →
    Drains (YieldsFirstBy view (λ left. left)) all given
    → map (λ x. text (view x)) given ≡ map text all
texts_given view text all [] drains = ap (map text) (sym (drains.1.1 ∙ drains.1.2.0))
texts_given view text all (x ∷ given) (last, (before, (left, first, others), ends)) =
    ap (λ (texts : List (List ℕ)). text (view x) ∷ texts)
    (texts_given view text left given (last, (before, others, ends))) ∙ ap (map text) (sym first)

-- The texts of some values that a slice gives are a list of these values.
pub list_text-joined : {A B : Type 0} (text : B → List ℕ) (value : A → B) (given : List (Bor A)) (all : List A)
    → map (λ x. x.now) given ≡ all → false ≡ (length all == 0)
    → join_with_byte 44 (map (λ x. text (value x.now)) given) ≡ list_text text (map value all)
list_text-joined text value [] all same some = absurd (cc (ap length same))
list_text-joined {A = A} text value (x ∷ given) all same some =
    ap (λ (texts : List (List ℕ)). join_with_byte 44 (text (value x.now) ∷ texts)) (texts_of given)
    ∙ ap (λ (values : List A). list_text text (map value values)) same
  where
    texts_of : (xs : List (Bor A)) → map (λ y. text (value y.now)) xs ≡ map text (map value (map (λ y. y.now) xs))
    texts_of [] = refl
    texts_of (y ∷ ys) = ap (λ (texts : List (List ℕ)). text (value y.now) ∷ texts) (texts_of ys)
