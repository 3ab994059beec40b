-- How a source comes to be a member by what is said of it, and steps of a trace in which nothing ends the stay of one
-- that has not sent a BYE (RFC 3550, 6.2.1, 6.3.3 to 6.3.5). Traces are newest first.
use Rattle.std.specs.Prelude.{ℕ, ◌≡◌, ◌+◌, ◌≤◌, ◌==◌, ◌&&◌, ◌||◌, not, nat_lt, Bool, true, false, List, ◌∷◌, ◌++◌, filter, length, All, Option, Some, None, is_some}
use Rattle.rtcp_wire.specs.declared.fact.Fact.{Fact}
use Rattle.rtcp_wire.specs.Facts.{subject, is_gone}
use Rattle.rtcp_members.specs.Traces.{Horizons, TraceStep, fact_came, check_made, block_made_of, source_forgotten, is_naming, names}
use Rattle.rtcp_members.specs.Stays.{last_naming, mark_of, present_among, stay_of, step_moment}

-- the BYE of a source
abbrev pub says_bye : (ssrc : ℕ) → TraceStep → Bool
says_bye ssrc (fact_came fact moment) = is_gone fact && subject fact == ssrc
says_bye ssrc (check_made horizons) = false
says_bye ssrc (block_made_of other) = false
says_bye ssrc (source_forgotten other) = false

-- The host says that a source is gone.
abbrev pub is_forgetting : (ssrc : ℕ) → TraceStep → Bool
is_forgetting ssrc (fact_came fact moment) = false
is_forgetting ssrc (check_made horizons) = false
is_forgetting ssrc (block_made_of other) = false
is_forgetting ssrc (source_forgotten other) = other == ssrc

-- A source sends no BYE among these steps, and the host does not say that it is gone.
pub record IsLeftAlone (ssrc : ℕ) (since : List TraceStep) : Type 0 where
  pub no_bye : All (λ step. says_bye ssrc step ≡ false) since
  pub kept : All (λ step. is_forgetting ssrc step ≡ false) since

-- At each check among these steps, which follow on a trace, the newest fact that names a source came at the check's
-- horizon for silence or later.
abbrev pub IsHeardAtChecks : (ssrc : ℕ) (since before : List TraceStep) → Type 0
IsHeardAtChecks ssrc since before =
    (newer : List TraceStep) (horizons : Horizons) (older : List TraceStep) →
    since ≡ newer ++ check_made horizons ∷ older → horizons.silent ≤ last_naming ssrc (older ++ before)

-- A check drops nobody who was sighted at this moment or later.
abbrev pub LooksBackTo : (moment : ℕ) → TraceStep → Type 0
LooksBackTo moment (fact_came fact at) = Unit {0}
LooksBackTo moment (check_made horizons) = horizons.silent ≤ moment
LooksBackTo moment (block_made_of other) = Unit {0}
LooksBackTo moment (source_forgotten other) = Unit {0}

-- A step that names a source comes at this moment or later.
abbrev pub NamesFrom : (ssrc moment : ℕ) → TraceStep → Type 0
NamesFrom ssrc moment step = is_naming ssrc step ≡ true → moment ≤ step_moment step

-- ---- Room

-- how many facts are of other sources
abbrev pub count_of_others : (ssrc : ℕ) → List Fact → ℕ
count_of_others ssrc facts = length (filter (λ fact. not (subject fact == ssrc)) facts)

-- A source is present, or there is room for it and for so many others.
abbrev pub has_room_beside : (others capacity ssrc : ℕ) → List TraceStep → Bool
has_room_beside others capacity ssrc trace =
    is_some (stay_of capacity trace ssrc)
    || nat_lt (present_among (names trace) (stay_of capacity trace) + others) capacity

abbrev pub IsUnmarked : (ssrc : ℕ) → Option (List TraceStep) → Type 0
IsUnmarked ssrc None = Unit {0}
IsUnmarked ssrc (Some stay) = mark_of ssrc stay ≡ None

-- These facts may bring a source in: none is its BYE, nor did it send a BYE in a stay that lasts still, and it is
-- present, or there is room for it and for one more source for each fact of others.
pub record MayBring (capacity ssrc : ℕ) (facts : List Fact) (trace : List TraceStep) : Type 0 where
  pub no_bye : All (λ fact. (is_gone fact && subject fact == ssrc) ≡ false) facts
  pub unmarked : IsUnmarked ssrc (stay_of capacity trace ssrc)
  pub room : has_room_beside (count_of_others ssrc facts) capacity ssrc trace ≡ true
