-- The names of a compound, one after the other.
use Rattle.std.proofs.Common.{◌≡◌, ◌==◌, ◌||◌, ℕ, Bool, true, false, cond, List, [], ◌∷◌, map, if◌then◌else◌, Option, Some, None, refl, sym, ap, ◌∙◌}
use Rattle.std.specs.List.{dedup, dedup_from}
use Rattle.std.proofs.lemmas.Bool.{eqb-true}
use Rattle.rtcp_wire.specs.declared.fact.Fact.{Fact}
use Rattle.rtcp_wire.specs.Facts.{subject}
use Rattle.rtcp_guard.specs.Claims.{is_named}
use Rattle.rtcp_guard.specs.Naming.{but, is_same}

abbrev pub is_last : (name : ℕ) → (last : Option ℕ) → Bool
is_last name None = false
is_last name (Some last) = last == name

-- the names without those that repeat the one before
abbrev pub unrepeated : (last : Option ℕ) → List ℕ → List ℕ
unrepeated last [] = []
unrepeated last (name ∷ rest) =
    if is_last name last then unrepeated last rest else name ∷ unrepeated (Some name) rest

-- the names of these facts, after one of that name
abbrev pub names_after : (own : ℕ) → (last : Option ℕ) → List Fact → List ℕ
names_after own last facts = unrepeated last (but own (map subject facts))

after_one : (last : ℕ) (names : List ℕ) → last ∷ unrepeated (Some last) names ≡ dedup_from is_same last names
after_one last [] = refl
after_one last (name ∷ rest) =
    elim (last == name) as (λ b. last ∷ cond b (unrepeated (Some last) rest) (name ∷ unrepeated (Some name) rest)
    ≡ cond b (dedup_from is_same last rest) (last ∷ dedup_from is_same name rest)) [
      | true ↦ after_one last rest
      | false ↦ ap (λ names. last ∷ names) (after_one name rest)
    ]

pub each_once : (names : List ℕ) → unrepeated None names ≡ dedup is_same names
each_once [] = refl
each_once (name ∷ rest) = after_one name rest

-- ---- Which are named

module _ (ssrc : ℕ) where
  named_after : (last : ℕ) (names : List ℕ) →
      (last == ssrc || is_named ssrc (unrepeated (Some last) names)) ≡ (last == ssrc || is_named ssrc names)
  named_after last [] = refl
  named_after last (name ∷ rest) =
      elim (last == name) as (λ b. last == name ≡ b →
      (last == ssrc || is_named ssrc (cond b (unrepeated (Some last) rest) (name ∷ unrepeated (Some name) rest)))
      ≡ (last == ssrc || (name == ssrc || is_named ssrc rest))) [
        | true ↦ λ e. named_after last rest ∙ twice (last == ssrc) (is_named ssrc rest)
            ∙ ap (λ n. last == ssrc || (n == ssrc || is_named ssrc rest)) (eqb-true last name e)
        | false ↦ λ e. ap (λ b. last == ssrc || b) (named_after name rest)
      ] refl
    where
      twice : (a b : Bool) → (a || b) ≡ (a || (a || b))
      twice true b = refl
      twice false b = refl

  named_first : (names : List ℕ) → is_named ssrc (unrepeated None names) ≡ is_named ssrc names
  named_first [] = refl
  named_first (name ∷ rest) = named_after name rest

  -- What is left names the same.
  pub named_once : (names : List ℕ) → is_named ssrc (dedup is_same names) ≡ is_named ssrc names
  named_once names = ap (is_named ssrc) (sym (each_once names)) ∙ named_first names
