-- The text of a session of a guarded participant: what it answers to the events that the lines of an input say.
use Rattle.std.specs.Prelude.{◌≡◌, ℕ, List, [], Option, None, Result, Ok}
use Rattle.rtcp_engine.specs.answers.Acts.{Act, EventValue, IsActOfEvent}
use Rattle.rtcp_engine.specs.answers.Refused.{error_in}
use Rattle.rtcp_engine.specs.answers.Setups.{Setup}
use Rattle.rtcp_guard.specs.declared.settings.Settings.{Settings}
use Rattle.rtcp_guarded.specs.Guarded.{GuardedHistory, guarded_answer, passed_at, with_told}
use Rattle.rtcp_guarded.specs.Views.{GuardedValue, StandsAt}
use Rattle.rtcp_text.specs.declared.fault.LineFault.{LineFault}
use Rattle.rtcp_text.specs.declared.fault.ReplayFault.{ReplayFault}
use Rattle.rtcp_text.specs.declared.fault.TextFault.{TextFault}
use Rattle.rtcp_text.specs.EventLines.{event_in}
use Rattle.rtcp_text.specs.Lines.{Answering, IsTextFrom, TextOfLines}
use Rattle.rtcp_text.specs.Opened.{IsOpenedText, OpenedLeaves, ReplaysWith}
use Rattle.rtcp_text.specs.Replay.{IsNoEvent, opening}
use Rattle.rtcp_guarded_text.specs.GuardedText.{guarded_answer_text}
use Rattle.rtcp_guarded_text.specs.declared.limits.GuardLimits.{GuardLimits}

-- ---- Beginnings

-- No origin is trusted with more sources than any other.
abbrev pub settings_for : (sources : ℕ) → GuardLimits → Settings
settings_for sources limits =
    record { sources = sources; names = limits.names; trusted_names = 0; hold = limits.hold }

-- The guard has room for the sources of the participant's table.
abbrev pub guarded_begun : Setup → (word : ℕ) → GuardLimits → GuardedHistory
guarded_begun setup word limits =
    record { settings = settings_for setup.capacity limits; setup = setup; word = word; acts = [] }

-- ---- Lines

-- The line says an act, the text is the guarded participant's answer to it, and the history goes on with it.
abbrev pub AnswersGuarded : Answering GuardedHistory
AnswersGuarded history line text next =
    (event : EventValue) × (act : Act) × (event_in line ≡ Ok event) × IsActOfEvent event act
    × (text ≡ guarded_answer_text (guarded_answer history act)) × (next ≡ with_told history act)

-- The same of something that holds a guarded participant, whichever history that stands at.
abbrev pub AnswersStandingGuarded : {S : Type 0} → (S → GuardedValue) → Answering S
AnswersStandingGuarded guarded_of before line text after =
    (event : EventValue) × (act : Act) × (event_in line ≡ Ok event) × IsActOfEvent event act
    × ((history : GuardedHistory) → StandsAt (guarded_of before) history
    → (text ≡ guarded_answer_text (guarded_answer history act)) × StandsAt (guarded_of after) (with_told history act))

-- ---- Sessions

-- The answers to lines after a history, with the end.
abbrev pub IsGuardedText : (most : ℕ) → GuardedHistory → TextOfLines
IsGuardedText most history lines text end = IsTextFrom most AnswersGuarded IsNoEvent 1 history lines text end

-- the line for the start: that of the participant
abbrev pub guarded_opening : GuardedHistory → List ℕ
guarded_opening history = opening (passed_at history)

-- the text of the whole session, with its end: the line for the start and then the answers
abbrev pub IsGuardedSessionOf : (most : ℕ) → GuardedHistory → Option (ℕ × LineFault) → List ℕ → List ℕ → Type 0
IsGuardedSessionOf most history end = IsOpenedText (guarded_opening history) (IsGuardedText most history) end

-- What a text is for the whole input, with the outcome and what the reader has left.
abbrev pub GuardedLeaves : (most : ℕ) → GuardedHistory → {A : Type 0} → Result A TextFault
    → Option (List ℕ) → List ℕ → List ℕ → Type 0
GuardedLeaves most history result left = OpenedLeaves (guarded_opening history) (IsGuardedText most history) result left

-- What a replay promises after a history whose configuration is usable, by what it wrote, its outcome, and what the
-- reader has left.
abbrev pub ReplaysGuarded : (most : ℕ) → GuardedHistory → {A : Type 0} → Result A ReplayFault → Option (List ℕ) →
    ((List ℕ → List ℕ → Type 0) → Type 0) → Type 0
ReplaysGuarded most history result left Leaves =
    ReplaysWith (guarded_opening history) (IsGuardedText most history) (error_in history.setup ≡ None) result left
    Leaves
