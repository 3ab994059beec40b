-- Stays in other words, and words on parts of stays that stand beside those of Present (RFC 3550, 6.3.3 to 6.3.5,
-- 6.3.7).
use Rattle.rtcp_wire.specs.Facts.{subject, is_gone}
use Rattle.std.specs.Prelude.{ℕ, ◌≡◌, ◌<◌, ◌||◌, ◌==◌, ◌&&◌, Bool, true, false, nat_lt, List, [], ◌∷◌, ◌++◌, if◌then◌else◌, Option, Some, None, is_none}
use Rattle.rtcp_members.specs.Present.{Horizons, TraceStep, fact_came, check_made, source_forgotten, is_naming, names}
pub use Rattle.rtcp_members.specs.Present.{mark_of, before_mark, step_moment, last_naming, is_before, ends_stay, present_among, stay_of}

-- ---- One step

-- the mark of a source after a step
abbrev pub mark_at : (ssrc : ℕ) → TraceStep → Option ℕ → Option ℕ
mark_at ssrc step (Some mark) = Some mark
mark_at ssrc (fact_came fact moment) None = if is_gone fact && subject fact == ssrc then Some moment else None
mark_at ssrc _ None = None

-- The moment of the last sighting, a naming before the mark. (A stay has one, its admission.)
abbrev pub last_sighting : (ssrc : ℕ) → List TraceStep → ℕ
last_sighting ssrc stay = last_naming ssrc (before_mark ssrc stay)

-- Whether a check removes a source whose last sighting and mark these are.
abbrev pub is_removed : Horizons → (sighting : ℕ) (mark : Option ℕ) → Bool
is_removed horizons sighting mark = nat_lt sighting horizons.silent || is_before mark horizons.gone

-- The stay of a source after a step, by what stays there were.
abbrev pub stay_with : (capacity : ℕ) → TraceStep → List ℕ → (ℕ → Option (List TraceStep)) → (ssrc : ℕ) →
    Option (List TraceStep) → Option (List TraceStep)
stay_with capacity step named others ssrc None =
    elim (is_naming ssrc step) [
      | false ↦ None
      | true ↦ if nat_lt (present_among named others) capacity then Some (step ∷ []) else None
    ]
stay_with capacity step named others ssrc (Some stay) =
    if ends_stay ssrc step stay then None else Some (step ∷ stay)

-- ---- Stays in other words

-- No check among these steps of a stay, of which the newest stand first, removes the source.
abbrev pub OutlastsChecks : (ssrc : ℕ) → List TraceStep → Type 0
OutlastsChecks ssrc stay =
    (newer : List TraceStep) (horizons : Horizons) (older : List TraceStep) →
    stay ≡ newer ++ check_made horizons ∷ older →
    is_removed horizons (last_sighting ssrc older) (mark_of ssrc older) ≡ false

-- Nowhere among these steps of a stay does the host say that the source is gone, unless the source has a mark there.
abbrev pub NeverForgotten : (ssrc : ℕ) → List TraceStep → Type 0
NeverForgotten ssrc stay =
    (newer : List TraceStep) (other : ℕ) (older : List TraceStep) →
    stay ≡ newer ++ source_forgotten other ∷ older →
    (other == ssrc && is_none (mark_of ssrc older)) ≡ false

-- A stay is a prefix of the trace, newest first. Its oldest step names the source at a moment when it was
-- absent and there was room, no check in it removes the source, and the host does not say in it that the source is
-- gone before the source has a mark.
pub record IsStay (capacity : ℕ) (trace : List TraceStep) (ssrc : ℕ) (stay : List TraceStep) : Type 0 where
  pub since : List TraceStep
  pub admission : TraceStep
  pub before : List TraceStep
  pub parts : trace ≡ since ++ admission ∷ before
  pub whole : stay ≡ since ++ admission ∷ []
  pub named : is_naming ssrc admission ≡ true
  pub absent : stay_of capacity before ssrc ≡ None
  pub room : present_among (names before) (stay_of capacity before) < capacity
  pub outlasts : OutlastsChecks ssrc stay
  pub kept : NeverForgotten ssrc stay
