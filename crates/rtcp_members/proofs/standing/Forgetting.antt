-- What is left once the host said that a source is gone.
use Rattle.std.proofs.Common.{◌≡◌, ◌≤◌, ℕ, Bool, true, false, true≢false, if◌then◌else◌, ◌&&◌, ◌==◌, List, ◌∷◌, Option, Some, None, is_none, option_map, refl, sym, ap, ◌∙◌}
use Rattle.std.proofs.lemmas.Bool.{eq-eqb}
use Rattle.rtcp_members.specs.Traces.{TraceStep, source_forgotten, names}
use Rattle.rtcp_members.specs.Stays.{mark_of, stay_with, stay_of}
use Rattle.rtcp_members.specs.Entries.{EntryValue, is_such, entry_of, entry_at, count_at}
use Rattle.rtcp_members.specs.Tables.{is_unmarked}
use Rattle.rtcp_members.proofs.standing.Growing.{more_pass}
use Rattle.rtcp_members.proofs.stays.Staying.{entry_unmarked, entry_marked, entry_moves}

-- ---- What is said of a source

-- what is left of the entry of a source, if it has one, by whether it is the one that is gone
abbrev pub left_of : (own : Bool) → Option EntryValue → Option EntryValue
left_of own entry = if own && is_such is_unmarked entry then None else entry

none_left : (own : Bool) → None ≡ left_of own None
none_left true = refl
none_left false = refl

-- What the left one passes, the source passed before.
pub kept_such : (test : EntryValue → Bool) (own : Bool) (entry : Option EntryValue) →
    is_such test (left_of own entry) ≡ true → is_such test entry ≡ true
kept_such test own entry =
    elim (own && is_such is_unmarked entry) as (λ b. is_such test (if b then None else entry) ≡ true →
    is_such test entry ≡ true) [ true ↦ λ h. absurd (true≢false (sym h)) | false ↦ λ h. h ]

module _ (capacity ssrc forgotten : ℕ) (trace : List TraceStep) where
  -- to be told that a source is gone says nothing of one that stays
  step_says_nothing : (stay : List TraceStep) → entry_of ssrc (source_forgotten forgotten ∷ stay) ≡ entry_of ssrc stay
  step_says_nothing stay =
      elim (mark_of ssrc stay) as (λ m. mark_of ssrc stay ≡ m →
      entry_of ssrc (source_forgotten forgotten ∷ stay) ≡ entry_of ssrc stay) [
        | None ↦ λ unmarked. entry_moves ssrc (source_forgotten forgotten) stay unmarked
            ∙ sym (entry_unmarked ssrc stay unmarked)
        | Some mark ↦ λ marked. entry_marked ssrc (source_forgotten forgotten) stay mark marked
      ] refl

  left_by_stay : (stay : Option (List TraceStep)) → option_map (entry_of ssrc)
      (stay_with capacity (source_forgotten forgotten) (names trace) (stay_of capacity trace) ssrc stay)
      ≡ left_of (forgotten == ssrc) (option_map (entry_of ssrc) stay)
  left_by_stay None = none_left (forgotten == ssrc)
  left_by_stay (Some stay) =
      elim (forgotten == ssrc && is_none (mark_of ssrc stay)) as (λ ends. option_map (entry_of ssrc)
      (if ends then None else Some (source_forgotten forgotten ∷ stay))
      ≡ (if ends then None else Some (entry_of ssrc stay))) [
        | true ↦ refl
        | false ↦ ap Some (step_says_nothing stay)
      ]

  -- What a trace says of a source, once the host said that one is gone.
  pub forgotten_entry_at : entry_at capacity (source_forgotten forgotten ∷ trace) ssrc
      ≡ left_of (forgotten == ssrc) (entry_at capacity trace ssrc)
  forgotten_entry_at = left_by_stay (stay_of capacity trace ssrc)

-- ---- Who is there

-- It is not there any more, if it had no mark.
pub forgotten_is_gone : (capacity : ℕ) (trace : List TraceStep) (ssrc : ℕ) (stay : List TraceStep) →
    stay_of capacity trace ssrc ≡ Some stay → mark_of ssrc stay ≡ None →
    stay_of capacity (source_forgotten ssrc ∷ trace) ssrc ≡ None
forgotten_is_gone capacity trace ssrc stay found unmarked =
    ap (stay_with capacity (source_forgotten ssrc) (names trace) (stay_of capacity trace) ssrc) found
    ∙ (λ i. if eq-eqb ssrc ssrc refl i && is_none (unmarked i) then None else Some (source_forgotten ssrc ∷ stay))

-- No more sources pass a test than before.
pub fewer_left : (test : EntryValue → Bool) (capacity : ℕ) (trace : List TraceStep) (forgotten : ℕ) →
    count_at test capacity (source_forgotten forgotten ∷ trace) ≤ count_at test capacity trace
fewer_left test capacity trace forgotten =
    more_pass (λ ssrc. is_such test (entry_at capacity (source_forgotten forgotten ∷ trace) ssrc))
    (λ ssrc. is_such test (entry_at capacity trace ssrc))
    (λ ssrc passes. kept_such test (forgotten == ssrc) (entry_at capacity trace ssrc)
    (ap (is_such test) (sym (forgotten_entry_at capacity ssrc forgotten trace)) ∙ passes)) (names trace)
