-- The texts of several values, one more at a time.
use Rattle.std.proofs.Common.{◌≡◌, ℕ, Bool, true, false, List, [], ◌∷◌, ◌++◌, map, refl, sym, ap, subst, ◌∙◌, append_assoc}
use Rattle.std.specs.Iterator.{Drains, YieldsFirstBy}
use Rattle.std.specs.List.{flat_map, join_with_byte}
use Rattle.std.proofs.lemmas.List.{map_push}
use Rattle.rtcp_print.specs.declared.page.Page.{Page}
use Rattle.rtcp_print.specs.Pages.{Adds}
use Rattle.rtcp_print.proofs.PageLemmas.{both}

-- no values
abbrev pub is_none : {X : Type 0} → List X → Bool
is_none [] = true
is_none (x ∷ xs) = false

pub is_none-push : {X : Type 0} (xs : List X) (x : X) → false ≡ is_none (xs ++ x ∷ [])
is_none-push [] x = refl
is_none-push (y ∷ xs) x = refl

-- after a first piece the separator comes before the next
join_with_byte-push : (c : ℕ) (first : List ℕ) (pieces : List (List ℕ)) (piece : List ℕ)
    → join_with_byte c ((first ∷ pieces) ++ piece ∷ []) ≡ join_with_byte c (first ∷ pieces) ++ (c ∷ piece)
join_with_byte-push c first [] piece = refl
join_with_byte-push c first (next ∷ pieces) piece =
    ap (λ (t : List ℕ). first ++ (c ∷ t)) (join_with_byte-push c next pieces piece)
    ∙ sym (append_assoc first (c ∷ join_with_byte c (next ∷ pieces)) (c ∷ piece))

module _ {X : Type 0} (c : ℕ) (text : X → List ℕ) (x : X) {start now next : Page} where
  -- the first piece, with nothing before it
  pub first_piece : (xs : List X) → true ≡ is_none xs → Adds now next (text x) →
      Adds start now (join_with_byte c (map text xs)) → Adds start next (join_with_byte c (map text (xs ++ x ∷ [])))
  first_piece [] none pushed so_far = both so_far pushed
  first_piece (y ∷ xs) none pushed so_far = absurd (cc)

  -- a later piece, after the separator
  pub next_piece : {held : Page} (xs : List X) → false ≡ is_none xs → Adds now held (c ∷ []) →
      Adds held next (text x) → Adds start now (join_with_byte c (map text xs)) →
      Adds start next (join_with_byte c (map text (xs ++ x ∷ [])))
  next_piece [] some separated pushed so_far = absurd (cc)
  next_piece (y ∷ xs) some separated pushed so_far =
      let all : join_with_byte c (map text ((y ∷ xs) ++ x ∷ [])) ≡ join_with_byte c (map text (y ∷ xs))
      ++ (c ∷ text x) =
      ap (join_with_byte c) (map_push text (y ∷ xs) x) ∙ join_with_byte-push c (text y) (map text xs) (text x) in
      subst (Adds start next) (sym all) (both so_far (both separated pushed))

-- An iterator whose value is the list that it gives, where `view` reads the items, gave the texts of that list.
pub texts_given : {X V : Type 0} (view : X → V) (text : V → List ℕ) (all : List V) (given : List X) →
    Drains (YieldsFirstBy view (λ left. left)) all given
    → map (λ x. text (view x)) given ≡ map text all
texts_given view text all [] drains = ap (map text) (sym (drains.1.1 ∙ drains.1.2.0))
texts_given view text all (x ∷ given) (last, (before, (left, first, others), ends)) =
    ap (λ (texts : List (List ℕ)). text (view x) ∷ texts)
    (texts_given view text left given (last, (before, others, ends))) ∙ ap (map text) (sym first)

pub pieces_given : {X V : Type 0} (view : X → V) (text : V → List ℕ) (all : List V) (given : List X) →
    Drains (YieldsFirstBy view (λ left. left)) all given
    → flat_map (λ x. text (view x)) given ≡ flat_map text all
pieces_given view text all [] drains = ap (flat_map text) (sym (drains.1.1 ∙ drains.1.2.0))
pieces_given view text all (x ∷ given) (last, (before, (left, first, others), ends)) =
    ap (λ (texts : List ℕ). text (view x) ++ texts)
    (pieces_given view text left given (last, (before, others, ends))) ∙ ap (flat_map text) (sym first)
