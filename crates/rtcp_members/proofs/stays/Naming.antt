-- The sources that a trace names: each stands once among its names, and each that is present is one of them.
use Rattle.std.proofs.Common.{◌≡◌, ℕ, Bool, true, false, true≢false, cond, if◌then◌else◌, not, ◌||◌, ◌==◌, nat_lt, List, [], ◌∷◌, Option, Some, None, is_some, refl, sym, ap, ◌∙◌}
use Rattle.std.proofs.lemmas.Bool.{eqb-true, or_parts, and_parts, or_left, or_right, not-true}
use Rattle.rtcp_wire.specs.declared.fact.Fact.{Fact}
use Rattle.rtcp_wire.specs.Facts.{subject, is_gone}
use Rattle.rtcp_members.specs.Traces.{TraceStep, fact_came, check_made, block_made_of, source_forgotten, is_naming, with_name, names}
use Rattle.rtcp_members.specs.Stays.{present_among, stay_with, stay_of}
use Rattle.rtcp_members.proofs.maps.Counting.{has, IsOnce}

-- ---- Names

once_with : (fact : Fact) (named : List ℕ) → IsOnce named → IsOnce (with_name fact named)
once_with fact named once =
    elim (is_gone fact || has (subject fact) named) as (λ b. (is_gone fact || has (subject fact) named) ≡ b →
    IsOnce (cond b named (subject fact ∷ named))) [
      | true ↦ λ _. once
      | false ↦ λ new. ((or_parts (is_gone fact) _ new).1, once)
    ] refl

pub names_are_once : (trace : List TraceStep) → IsOnce (names trace)
names_are_once [] = tt
names_are_once (fact_came fact moment ∷ trace) = once_with fact (names trace) (names_are_once trace)
names_are_once (check_made horizons ∷ trace) = names_are_once trace
names_are_once (block_made_of ssrc ∷ trace) = names_are_once trace
names_are_once (source_forgotten ssrc ∷ trace) = names_are_once trace

named_with : (fact : Fact) (ssrc : ℕ) (named : List ℕ) → is_gone fact ≡ false → (subject fact == ssrc) ≡ true →
    has ssrc (with_name fact named) ≡ true
named_with fact ssrc named stays is_it =
    let same : subject fact ≡ ssrc = eqb-true (subject fact) ssrc is_it in
    ap (λ b. has ssrc (cond (b || has (subject fact) named) named (subject fact ∷ named))) stays
    ∙ elim (has (subject fact) named) as (λ b. has (subject fact) named ≡ b →
    has ssrc (cond b named (subject fact ∷ named)) ≡ true) [
      | true ↦ λ known. ap (λ s. has s named) (sym same) ∙ known
      | false ↦ λ _. or_left (subject fact == ssrc) _ is_it
    ] refl

still_with : (fact : Fact) (ssrc : ℕ) (named : List ℕ) → has ssrc named ≡ true → has ssrc (with_name fact named) ≡ true
still_with fact ssrc named known =
    elim (is_gone fact || has (subject fact) named) as (λ b. has ssrc (cond b named (subject fact ∷ named)) ≡ true) [
      | true ↦ known
      | false ↦ or_right (subject fact == ssrc) _ known
    ]

naming_is_named : (step : TraceStep) (trace : List TraceStep) (ssrc : ℕ) → is_naming ssrc step ≡ true →
    has ssrc (names (step ∷ trace)) ≡ true
naming_is_named (fact_came fact moment) trace ssrc naming =
    let parts = and_parts (not (is_gone fact)) (subject fact == ssrc) naming in
    named_with fact ssrc (names trace) (not-true (is_gone fact) parts.0) parts.1
naming_is_named step trace ssrc naming = absurd (true≢false (sym naming))

pub still_named : (step : TraceStep) (trace : List TraceStep) (ssrc : ℕ) → has ssrc (names trace) ≡ true →
    has ssrc (names (step ∷ trace)) ≡ true
still_named (fact_came fact moment) trace ssrc known = still_with fact ssrc (names trace) known
still_named step trace ssrc known = known

-- ---- Stays

-- what becomes of a source that is not present, by whether the step names it and whether there is room for one more
abbrev pub admitted : (naming room : Bool) → TraceStep → Option (List TraceStep)
admitted naming room step = elim naming [ false ↦ None | true ↦ if room then Some (step ∷ []) else None ]

-- whether fewer than `capacity` sources are present
abbrev pub room_at : (capacity : ℕ) → List TraceStep → Bool
room_at capacity trace = nat_lt (present_among (names trace) (stay_of capacity trace)) capacity

module _ (capacity : ℕ) (step : TraceStep) (trace : List TraceStep) (ssrc : ℕ) where
  named_where_admitted : is_some (admitted (is_naming ssrc step) (room_at capacity trace) step) ≡ true →
      has ssrc (names (step ∷ trace)) ≡ true
  named_where_admitted =
      elim (is_naming ssrc step) as (λ b. is_naming ssrc step ≡ b → is_some (admitted b (room_at capacity trace) step)
      ≡ true → has ssrc (names (step ∷ trace)) ≡ true) [
        | true ↦ λ naming _. naming_is_named step trace ssrc naming
        | false ↦ λ _ found. absurd (true≢false (sym found))
      ] refl

  named_after : (stay : Option (List TraceStep)) → (is_some stay ≡ true → has ssrc (names trace) ≡ true)
      → is_some (stay_with capacity step (names trace) (stay_of capacity trace) ssrc stay) ≡ true →
      has ssrc (names (step ∷ trace)) ≡ true
  named_after None known found = named_where_admitted found
  named_after (Some stay) known found = still_named step trace ssrc (known refl)

-- Who is present was named.
pub present_is_named : (capacity : ℕ) (trace : List TraceStep) (ssrc : ℕ) →
    is_some (stay_of capacity trace ssrc) ≡ true → has ssrc (names trace) ≡ true
present_is_named capacity [] ssrc found = absurd (true≢false (sym found))
present_is_named capacity (step ∷ trace) ssrc found =
    named_after capacity step trace ssrc (stay_of capacity trace ssrc) (present_is_named capacity trace ssrc) found
