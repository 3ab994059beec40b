-- When a session leaves, and how its turns are over. Moments are in microseconds.
use Rattle.std.specs.Prelude.{◌≡◌, ◌≤◌, ℕ, ◌/◌, ◌⊎◌, nat_le, Bool, true, false, List, All, Option, Some, None}

-- A moment is at or past the end of a session. After the leave, as long again may pass.
abbrev pub is_past : (end : ℕ) → (has_left : Bool) → (moment : ℕ) → Bool
is_past end false moment = nat_le end moment
is_past end true moment = nat_le end (moment / 2)

-- ---- Answers

-- An answer is the one that is known of an ending. Where none is, as of a file that may be there, either may be given.
abbrev pub MayAnswer : (known : Option Bool) → (answer : Bool) → Type 0
MayAnswer None answer = Unit {0}
MayAnswer (Some known) answer = answer ≡ known

-- of one that is met from a moment on
abbrev pub known_until : (end : ℕ) → (has_left : Bool) → (moment : ℕ) → Option Bool
known_until end has_left moment = Some (is_past end has_left moment)

-- of one that is met where either of two is
abbrev pub known_of_either : (one other : Option Bool) → Option Bool
known_of_either (Some true) other = Some true
known_of_either (Some false) other = other
known_of_either None (Some true) = Some true
known_of_either None other = None

-- ---- Pauses

-- A session between two turns: whether the leave was asked for, the greatest moment so far, and whether the turns were
-- over. If they were, the leave was asked for, and otherwise a turn was made.
pub record Pause : Type 0 where
  pub has_left : Bool
  pub moment : ℕ
  pub is_over : Bool

abbrev pub pause : (has_left : Bool) → (moment : ℕ) → (is_over : Bool) → Pause
pause has_left moment is_over = record { has_left = has_left; moment = moment; is_over = is_over }

-- How many turns were made where so many may be: all, unless the ending may have answered that they are over.
pub record IsCut (known : Option Bool) (most made : ℕ) : Type 0 where
  pub within : made ≤ most
  pub whole : (made ≡ most) ⊎ MayAnswer known true

-- Turns go on only where the ending may have answered that they are not over. They are over only where it may have
-- answered that they are, or all were made.
abbrev pub IsHeeded : (known : Option Bool) → (most made : ℕ) → (is_over : Bool) → Type 0
IsHeeded known most made false = MayAnswer known false
IsHeeded known most made true = (made ≡ most) ⊎ MayAnswer known true

-- It is so in each pause. So turns end in the first pause in which it is known that they are over, and in none in which
-- it is known that they are not.
pub record AreHeeded (known : Bool → ℕ → Option Bool) (most made : ℕ) (pauses : List Pause) : Type 0 where
  pub each : All (λ one. IsHeeded (known one.has_left one.moment) most made one.is_over) pauses
