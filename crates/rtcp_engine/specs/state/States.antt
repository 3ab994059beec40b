-- What a participant keeps of its history: a table and a few numbers, and its phase.
use Rattle.std.specs.Prelude.{ℕ, ◌+◌, ◌-◌, ◌*◌, ◌≡◌, ◌==◌, ◌≤◌, ◌<◌, ◌^◌, Bool, List, [], length, if◌then◌else◌, Option, Some, None, IfSome}
use Rattle.std.specs.FinMap as map
use Rattle.rtcp_members.specs.Tables.{TableValue, HasFew, StandsAt as IsTableAt, after_check}
use Rattle.rtcp_timer.specs.Averages.{moved_average}
use Rattle.rtcp_timer.specs.Loads.{minimum_of}
use Rattle.rtcp_timer.specs.Schedules.{Timing}
use Rattle.rtcp_engine.specs.declared.changes.IdentifierChange.{IdentifierChange}
use Rattle.rtcp_engine.specs.declared.pace.Pace.{Pace}
use Rattle.rtcp_engine.specs.declared.refusal.Refusal.{Refusal}
use Rattle.rtcp_engine.specs.declared.refusal.Refusal.TheVariants.{Left}
use Rattle.rtcp_engine.specs.answers.Setups.{Setup, SettingsValue, IsUsable, with_settings}
use Rattle.rtcp_engine.specs.answers.OwnStreams.{Adds, OwnValue, check_passed, own_of}
use Rattle.rtcp_engine.specs.state.OwnValues.{own_anew}
use Rattle.rtcp_engine.specs.answers.Outcomes.{Outcome, average_size, newest_pace, timing_of, with_pace, IsPace}
use Rattle.rtcp_engine.specs.answers.Reporting.{bye_octets, last_reported_in}
use Rattle.rtcp_engine.specs.answers.Changes.{Session, with_ssrc}
use Rattle.rtcp_engine.specs.answers.Histories.{History, last_moment, session_at, setup_after}
use Rattle.rtcp_engine.specs.answers.Answers.{call_refusal}
use Rattle.rtcp_engine.specs.answers.Leaving.{Backoff, Life, present, backing_off, finished, leaving_count, leaving_timing, leaving_average}
use Rattle.rtcp_engine.specs.answers.Lives.{has_others, lived, moved_since, others_moved_by, out_by}
use Rattle.rtcp_engine.specs.answers.Ticks.{horizons_of}
use Rattle.rtcp_engine.specs.answers.Acts.{Act, OutValue}
use Rattle.rtcp_engine.specs.state.Taken.{IsHistory}

pub record State : Type 0 where
  -- under the present identifier
  pub setup : Setup
  pub table : TableValue
  pub timing : Timing
  pub average : ℕ
  pub own : OwnValue
  -- the source that was reported last
  pub cursor : Option ℕ
  -- the bandwidths before the newest change of these, and until when checks go by them too
  pub pace : Option Pace
  -- how many reports were sent
  pub reports : ℕ
  -- the moment of the latest call
  pub latest : ℕ
  -- how many calls were taken
  pub calls : ℕ

abbrev pub state_with : Setup → TableValue → Timing → (average : ℕ) → OwnValue → (cursor : Option ℕ) → Option Pace →
    (reports latest calls : ℕ) → State
state_with setup table timing average own cursor pace reports latest calls = record {
  setup = setup;
  table = table;
  timing = timing;
  average = average;
  own = own;
  cursor = cursor;
  pace = pace;
  reports = reports;
  latest = latest;
  calls = calls;
}

-- The table, the own stream and the reports are those of an outcome. In a backoff they stand still: they are those of
-- the outcome at the leave.
pub record StandsStill (state : State) (outcome : Outcome) : Type 0 where
  pub table : IsTableAt state.table outcome.trace
  pub capacity : state.table.capacity ≡ state.setup.capacity
  pub own : state.own ≡ own_of outcome.own
  pub cursor : state.cursor ≡ last_reported_in outcome.trace
  pub reports : state.reports ≡ outcome.reports

-- A table and numbers are those of an outcome.
pub record Agrees (state : State) (outcome : Outcome) : Type 0 where
  pub timing : state.timing ≡ timing_of outcome
  pub average : state.average ≡ average_size state.setup outcome
  pub pace : state.pace ≡ newest_pace outcome.paces
  pub still : StandsStill state outcome

-- One call more, at a moment.
abbrev pub with_call : (moment : ℕ) → State → State
with_call moment state = record state { latest = moment; calls = state.calls + 1 }

-- A call at a moment comes in order, and there is room for it.
pub record Admits (state : State) (now : ℕ) : Type 0 where
  pub order : state.latest ≤ now
  pub moment : now ≤ 2 ^ 50
  pub calls : state.calls < 2 ^ 40 - 1

-- What is no call.
pub record Stays (old new : State) : Type 0 where
  pub setup : new.setup ≡ old.setup
  pub latest : new.latest ≡ old.latest
  pub calls : new.calls ≡ old.calls

-- The table holds no more sources than it may.
abbrev pub KeepsCapacity : State → Type 0
KeepsCapacity state = map.len state.table.entries ≤ state.setup.capacity

-- One step of a participant that takes part: what it does to an outcome it does to the table and the numbers, and the
-- table stays within its capacity.
pub record Does (old new : State) (step : Setup → Outcome → Outcome) : Type 0 where
  pub stays : Stays old new
  pub within : KeepsCapacity new
  pub follows : (outcome : Outcome) → Agrees old outcome → Agrees new (step old.setup outcome)

-- A participant says whether a step changes who of the others is a member, or who of them sends.
abbrev pub MovesOthers : (old : State) → (others_changed : Bool) → (step : Setup → Outcome → Outcome) → Type 0
MovesOthers old others_changed step =
    (outcome : Outcome) → Agrees old outcome → others_changed ≡ moved_since old.setup outcome (step old.setup outcome)

-- A step of a check: it sends no report, and says whether it moved others.
pub record Checks (old new : State) (others_changed : Bool) (step : Setup → Outcome → Outcome) : Type 0 where
  pub does : Does old new step
  pub moves : MovesOthers old others_changed step
  pub reports : new.reports ≡ old.reports

-- It says whether some other source is a member.
abbrev pub HasOthers : State → (others : Bool) → Type 0
HasOthers state others = (outcome : Outcome) → Agrees state outcome → others ≡ has_others state.setup outcome

-- Whatever interval a check at the moment of the latest call goes by, if it is no less than the minimum, the check
-- changes nothing.
pub record IsQuiet (state : State) : Type 0 where
  pub table : (interval : ℕ) → minimum_of (state.reports == 0) ≤ interval →
      after_check (horizons_of state.latest interval) state.table ≡ state.table
  pub own : (interval : ℕ) → minimum_of (state.reports == 0) ≤ interval →
      Adds state.own state.own (check_passed (state.latest - 2 * interval))

-- The numbers of one that backs off.
pub record Waits (state : State) (outcome : Outcome) (backoff : Backoff) : Type 0 where
  pub timing : state.timing ≡ leaving_timing backoff
  pub average : state.average ≡ leaving_average state.setup backoff.bye_compounds
  pub still : StandsStill state outcome

-- One step of a participant that backs off, with so many members.
pub record DoesWaiting (members : ℕ) (old new : State) (step : Setup → Backoff → Backoff) : Type 0 where
  pub stays : Stays old new
  pub within : KeepsCapacity new
  pub follows : (outcome : Outcome) (backoff : Backoff) → Waits old outcome backoff →
      members ≡ leaving_count backoff → Waits new outcome (step old.setup backoff)

-- ---- Changes of identifier

-- the BYE of the identifier that is given up, if something was sent under it
abbrev pub own_bye_in : State → Option (List ℕ)
own_bye_in state = if state.own.heard then Some (bye_octets state.setup) else None

-- It moves the average.
abbrev pub with_own_bye : State → State
with_own_bye state =
    record state {
      average =
          if state.own.heard then moved_average state.average (length (bye_octets state.setup)) else state.average;
    }

-- The counts of the own stream begin anew.
abbrev pub after_change : (ssrc : ℕ) → State → State
after_change ssrc state = record (with_own_bye state) { setup = with_ssrc ssrc state.setup; own = own_anew state.own }

-- ---- Settings

-- It has other settings, and checks go by this pace too.
abbrev pub with_settings_in : SettingsValue → Option Pace → State → State
with_settings_in settings pace state = record state { setup = with_settings settings state.setup; pace = pace }

-- the pace is that of the outcome once these settings are given
abbrev pub IsPaceOf : SettingsValue → State → Option Pace → Type 0
IsPaceOf settings state pace = (outcome : Outcome) → Agrees state outcome →
    pace ≡ newest_pace (with_pace state.setup settings state.latest outcome).paces

-- ---- Soundness

-- What holds of every participant that takes part or did.
pub record IsSound (state : State) : Type 0 where
  pub usable : IsUsable state.setup
  pub capacity : state.table.capacity ≡ state.setup.capacity
  pub room : map.len state.table.entries ≤ state.setup.capacity
  pub few : HasFew state.calls state.table
  pub pace : IfSome state.pace IsPace
  pub reports : state.reports ≤ state.calls
  pub calls : state.calls < 2 ^ 40
  pub timing : state.timing.last ≤ state.latest
  pub latest : state.latest ≤ 2 ^ 50

-- ---- The whole participant

-- where it is in its session
pub data PhaseValue : Type 0 where
  taking_part : PhaseValue
  -- it backs off, and knows of so many that leave
  leaving : (members : ℕ) → PhaseValue
  over : PhaseValue

pub record ParticipantValue : Type 0 where
  pub presence : State
  pub phase : PhaseValue
  -- its changes of identifier, newest first
  pub changes : List IdentifierChange

abbrev pub called : (moment : ℕ) → ParticipantValue → ParticipantValue
called moment participant = record participant { presence = with_call moment participant.presence }

-- What holds of a phase: the number of those who leave has 16 bits.
abbrev pub IsCounted : PhaseValue → Type 0
IsCounted taking_part = Unit {0}
IsCounted (leaving members) = (1 ≤ members) × (members ≤ 65535)
IsCounted over = Unit {0}

-- A participant is where its session is: its numbers are those of the outcome, or of the backoff.
abbrev pub IsAt : ParticipantValue → Life → Type 0
IsAt participant (present outcome) = (participant.phase ≡ taking_part) × Agrees participant.presence outcome
IsAt participant (backing_off outcome backoff) =
    (participant.phase ≡ leaving (leaving_count backoff)) × Waits participant.presence outcome backoff
IsAt participant (finished outcome) = participant.phase ≡ over

-- One that is gone takes no call.
abbrev pub refusal_in_phase : PhaseValue → Option Refusal → Option Refusal
refusal_in_phase taking_part refusal = refusal
refusal_in_phase (leaving members) refusal = refusal
refusal_in_phase over refusal = Some Left

-- why a call at a moment is refused, whatever it tells
abbrev pub refusal_by : (moment : ℕ) → ParticipantValue → Option Refusal
refusal_by moment participant =
    refusal_in_phase participant.phase (call_refusal moment participant.presence.latest participant.presence.calls)

-- A participant whose call was counted does as its session does with an act, hands this out, and says whether the act
-- changed who of the others is there or sends. Its settings change where the act gives others.
pub record Acts
    (old new : ParticipantValue) (act : Act) (out : Option OutValue) (others_changed : Bool) : Type 0 where
  pub setup : new.presence.setup ≡ setup_after act old.presence.setup
  pub latest : new.presence.latest ≡ old.presence.latest
  pub calls : new.presence.calls ≡ old.presence.calls
  pub changes : new.changes ≡ old.changes
  pub lives : (life : Life) → IsAt old life → IsAt new (lived old.presence.setup act life)
  pub hands_out : (life : Life) → IsAt old life → out ≡ out_by old.presence.setup act life
  pub others : (life : Life) → IsAt old life → others_changed ≡ others_moved_by old.presence.setup act life

-- A participant is where a session is, under the same identifier.
pub record IsIn (participant : ParticipantValue) (session : Session) : Type 0 where
  pub setup : participant.presence.setup ≡ session.setup
  pub changes : participant.changes ≡ session.changes
  pub life : IsAt participant session.life

-- A participant equals the one computed from a whole history, or *stands at* it.
pub record StandsAt (participant : ParticipantValue) (history : History) : Type 0 where
  pub is_history : IsHistory history
  pub session : IsIn participant (session_at history)
  pub latest : participant.presence.latest ≡ last_moment history.acts
  pub calls : participant.presence.calls ≡ length history.acts

-- one that takes part, under its first identifier
abbrev pub newcomer : State → ParticipantValue
newcomer presence = record { presence = presence; phase = taking_part; changes = [] }
