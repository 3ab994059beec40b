-- The reports that a participant sends in a window of time, and the loads from which their intervals follow. Lists are
-- newest first; moments, widths and intervals are in microseconds.
use Rattle.std.specs.Prelude.{ℕ, ◌+◌, ◌≤◌, Bool, List, [], ◌∷◌, ◌++◌, filter, map, Option, Some, None, Ok}
use Rattle.std.specs.List.{sum_by}
use Rattle.rtcp_timer.specs.declared.load.Load.{Load}
use Rattle.rtcp_timer.specs.Loads.{with_headers}
use Rattle.rtcp_engine.specs.answers.Setups.{Setup, is_within}
use Rattle.rtcp_engine.specs.answers.Acts.{Act, ticked, arrived, rtcp}
use Rattle.rtcp_engine.specs.answers.Outcomes.{Outcome, load_of}
use Rattle.rtcp_engine.specs.answers.Ticks.{checked}
use Rattle.rtcp_engine.specs.answers.Leaving.{Life, present}
use Rattle.rtcp_engine.specs.answers.Changes.{Session}
use Rattle.rtcp_engine.specs.answers.Histories.{History, session_of}
use Rattle.rtcp_engine.specs.bounds.Sent.{Sent, reports_in, sent_at, sent_by}
use Rattle.rtcp_engine.specs.bounds.Spacing.{is_between}

-- ---- Windows

-- the reports in a window of so many microseconds, its ends included
abbrev pub in_window : (from width : ℕ) → List Sent → List Sent
in_window from width reports = filter (is_between from (from + width)) reports

-- all but the oldest
abbrev pub later_ones : {A : Type 0} → List A → List A
later_ones {A} [] = []
later_ones {A} (newest ∷ []) = []
later_ones {A} (newest ∷ before ∷ earlier) = newest ∷ later_ones (before ∷ earlier)

-- the deterministic intervals then computed, in sum
abbrev pub intervals_of : List Sent → ℕ
intervals_of reports = sum_by (λ report. report.interval) reports

-- ---- Loads

-- A report that was sent, and what it was decided by: the setup under the identifier of that moment, and what the
-- session had come to after the check of its tick.
pub record Decided : Type 0 where
  pub report : Sent
  pub setup : Setup
  pub outcome : Outcome

-- the load from which its interval follows (RFC 3550, 6.3.1)
abbrev pub load_at : Decided → Load
load_at decided = load_of decided.setup decided.outcome

-- what a session has come to where a tick decides
abbrev pub outcome_by : Setup → Act → Life → Option Outcome
outcome_by setup (ticked moment first_word second_word) (present outcome) = Some (checked setup moment outcome)
outcome_by setup act life = None

abbrev pub decided_with : Setup → Option Outcome → List Sent → List Decided
decided_with setup None reports = []
decided_with setup (Some outcome) reports =
    map (λ report. record { report = report; setup = setup; outcome = outcome }) reports

abbrev pub decided_by : Session → Act → List Decided
decided_by session act =
    decided_with session.setup (outcome_by session.setup act session.life) (reports_in (sent_by session act))

abbrev pub decided_over : Setup → (word : ℕ) → List Act → List Decided
decided_over setup word [] = []
decided_over setup word (act ∷ earlier) =
    decided_by (session_of setup word earlier) act ++ decided_over setup word earlier

-- the reports of a history, each with what it was decided by
abbrev pub decided_at : History → List Decided
decided_at history = decided_over history.setup history.word history.acts

-- ---- Sizes

-- A compound that came has at least so many octets, with its UDP and IPv4 headers.
abbrev pub HasSize : (least : ℕ) → Act → Type 0
HasSize least (arrived moment peer word (rtcp size (Ok packets))) = least ≤ with_headers size
HasSize least act = Unit {0}

-- ---- One clock for all

-- A participant, and the moment of its start by a clock that all go by: its own moments count from there.
pub record Joined : Type 0 where
  pub history : History
  pub start : ℕ

-- whether what it sent lies in a window of that clock
abbrev pub is_inside : (from width start : ℕ) → Sent → Bool
is_inside from width start sent = is_within from (from + width) (start + sent.moment)

abbrev pub compounds_within : (from width : ℕ) → Joined → List Sent
compounds_within from width joined = filter (is_inside from width joined.start) (sent_at joined.history)

abbrev pub reports_within : (from width : ℕ) → Joined → List Sent
reports_within from width joined = filter (is_inside from width joined.start) (reports_in (sent_at joined.history))

abbrev pub decided_within : (from width : ℕ) → Joined → List Decided
decided_within from width joined =
    filter (λ decided. is_inside from width joined.start decided.report) (decided_at joined.history)

-- its reports in the window but for the oldest of these
abbrev pub later_within : (from width : ℕ) → Joined → List Decided
later_within from width joined = later_ones (decided_within from width joined)
