-- What watches a session is told. Lists of notices are newest first.
use Rattle.std.specs.Prelude.{◌≡◌, Bool, Option, Some, None, List, [], ◌∷◌}
use Rattle.rtcp_engine.specs.answers.Acts.{EventValue}
use Rattle.rtcp_guarded.specs.Guarded.{GuardedAnswer}

-- an event that the participant was told, with its answer
pub record Telling : Type 0 where
  pub event : EventValue
  pub answer : GuardedAnswer

abbrev pub telling : EventValue → GuardedAnswer → Telling
telling event answer = record { event = event; answer = answer }

pub data Notice : Type 0 where
  -- the participant was told an event, refused or held back or not, with the answer
  event_told : Telling → Notice
  -- the link was asked to send a compound, which failed or not
  send_tried : (failed : Bool) → Notice

-- An observer took notices, one after the other, as it takes each.
abbrev pub TakesAll : {O : Type 0} → (takes : Notice → O → O → Type 0) → List Notice → (before after : O) → Type 0
TakesAll takes [] before after = after ≡ before
TakesAll {O = O} takes (notice ∷ earlier) before after = (mid : O) × TakesAll takes earlier before mid
    × takes notice mid after

-- one that watches nothing
abbrev pub unwatched : Notice → Unit {0} → Unit {0} → Type 0
unwatched notice before after = Unit {0}

-- An observer that may be none took a notice: one takes it as it does, and none stays none.
abbrev pub TakesIfSome : {O : Type 0} → (takes : O → O → Type 0) → Option O → Option O → Type 0
TakesIfSome takes None None = Unit {0}
TakesIfSome takes None (Some after) = ⊥
TakesIfSome takes (Some before) None = ⊥
TakesIfSome takes (Some before) (Some after) = takes before after
