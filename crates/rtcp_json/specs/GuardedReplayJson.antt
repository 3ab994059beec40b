-- The text of a session of a guarded participant in JSON: what it answers to the events that the lines of an input say.
use Rattle.std.specs.Prelude.{◌≡◌, ℕ, List, Option, None, Result, Ok}
use Rattle.rtcp_engine.specs.answers.Acts.{Act, EventValue, IsActOfEvent}
use Rattle.rtcp_engine.specs.answers.Refused.{error_in}
use Rattle.rtcp_guarded.specs.Guarded.{GuardedHistory, guarded_answer, passed_at, with_told}
use Rattle.rtcp_guarded.specs.Views.{GuardedValue, StandsAt}
use Rattle.rtcp_text.specs.declared.fault.LineFault.{LineFault}
use Rattle.rtcp_text.specs.declared.fault.ReplayFault.{ReplayFault}
use Rattle.rtcp_text.specs.declared.fault.TextFault.{TextFault}
use Rattle.rtcp_text.specs.EventLines.{event_in}
use Rattle.rtcp_text.specs.Lines.{Answering, IsTextFrom, TextOfLines}
use Rattle.rtcp_text.specs.Opened.{IsOpenedText, OpenedLeaves, ReplaysWith}
use Rattle.rtcp_text.specs.Replay.{IsNoEvent}
use Rattle.rtcp_json.specs.AnswerValues.{guarded_answer_json}
use Rattle.rtcp_json.specs.JsonValues.{json_line}
use Rattle.rtcp_json.specs.ReplayJson.{opening_json}

-- The line says an act, the text is the guarded participant's answer to it, and the history goes on with it.
abbrev pub AnswersGuardedInJson : Answering GuardedHistory
AnswersGuardedInJson history line text next =
    (event : EventValue) × (act : Act) × (event_in line ≡ Ok event) × IsActOfEvent event act
    × (text ≡ json_line (guarded_answer_json (guarded_answer history act))) × (next ≡ with_told history act)

-- The same of something that holds a guarded participant, whichever history that stands at.
abbrev pub AnswersStandingGuardedInJson : {S : Type 0} → (S → GuardedValue) → Answering S
AnswersStandingGuardedInJson guarded_of before line text after =
    (event : EventValue) × (act : Act) × (event_in line ≡ Ok event) × IsActOfEvent event act
    × ((history : GuardedHistory) → StandsAt (guarded_of before) history
    → (text ≡ json_line (guarded_answer_json (guarded_answer history act)))
    × StandsAt (guarded_of after) (with_told history act))

-- The answers to lines after a history, with the end.
abbrev pub IsGuardedJson : (most : ℕ) → GuardedHistory → TextOfLines
IsGuardedJson most history lines text end = IsTextFrom most AnswersGuardedInJson IsNoEvent 1 history lines text end

-- the line for the start: that of the participant
abbrev pub guarded_opening_json : GuardedHistory → List ℕ
guarded_opening_json history = opening_json (passed_at history)

-- the text of the whole session, with its end: the line for the start and then the answers
abbrev pub IsGuardedJsonOf : (most : ℕ) → GuardedHistory → Option (ℕ × LineFault) → List ℕ → List ℕ → Type 0
IsGuardedJsonOf most history end = IsOpenedText (guarded_opening_json history) (IsGuardedJson most history) end

-- What a text is for the whole input, with the outcome and what the reader has left.
abbrev pub GuardedLeavesJson : (most : ℕ) → GuardedHistory → {A : Type 0} → Result A TextFault
    → Option (List ℕ) → List ℕ → List ℕ → Type 0
GuardedLeavesJson most history result left =
    OpenedLeaves (guarded_opening_json history) (IsGuardedJson most history) result left

-- What a replay promises after a history whose configuration is usable, by what it wrote, its outcome, and what the
-- reader has left.
abbrev pub ReplaysGuardedInJson : (most : ℕ) → GuardedHistory → {A : Type 0} → Result A ReplayFault →
    Option (List ℕ) → ((List ℕ → List ℕ → Type 0) → Type 0) → Type 0
ReplaysGuardedInJson most history result left Leaves =
    ReplaysWith (guarded_opening_json history) (IsGuardedJson most history) (error_in history.setup ≡ None) result
    left Leaves
