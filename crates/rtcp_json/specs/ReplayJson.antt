-- The text of a session in JSON: what a participant answers to the events that the lines of an input say.
use Rattle.std.specs.Prelude.{◌≡◌, ℕ, List, Option, None, Result, Ok}
use Rattle.rtcp_engine.specs.answers.Acts.{Act, EventValue, IsActOfEvent}
use Rattle.rtcp_engine.specs.answers.Histories.{History, life_at}
use Rattle.rtcp_engine.specs.answers.Lives.{next_in_life}
use Rattle.rtcp_engine.specs.answers.Answers.{answer_of, followed_by}
use Rattle.rtcp_engine.specs.state.States.{ParticipantValue, StandsAt}
use Rattle.rtcp_engine.specs.answers.Refused.{error_in}
use Rattle.rtcp_text.specs.declared.fault.LineFault.{LineFault}
use Rattle.rtcp_text.specs.declared.fault.ReplayFault.{ReplayFault}
use Rattle.rtcp_text.specs.declared.fault.TextFault.{TextFault}
use Rattle.rtcp_text.specs.EventLines.{event_in}
use Rattle.rtcp_text.specs.Lines.{Answering, IsTextFrom, TextOfLines}
use Rattle.rtcp_text.specs.Opened.{IsOpenedText, OpenedLeaves, ReplaysWith}
use Rattle.rtcp_text.specs.Replay.{IsNoEvent}
use Rattle.rtcp_json.specs.AnswerValues.{answer_json, start_json}
use Rattle.rtcp_json.specs.JsonValues.{json_line}

-- The line says an act, the text is the participant's answer to it, and the history goes on with it.
abbrev pub AnswersInJson : Answering History
AnswersInJson history line text next =
    (event : EventValue) × (act : Act) × (event_in line ≡ Ok event) × IsActOfEvent event act
    × (text ≡ json_line (answer_json (answer_of history act))) × (next ≡ followed_by history act)

-- The same of something that holds a participant, whichever history that stands at.
abbrev pub AnswersStandingInJson : {S : Type 0} → (S → ParticipantValue) → Answering S
AnswersStandingInJson participant_of before line text after =
    (event : EventValue) × (act : Act) × (event_in line ≡ Ok event) × IsActOfEvent event act
    × ((history : History) → StandsAt (participant_of before) history
    → (text ≡ json_line (answer_json (answer_of history act)))
    × StandsAt (participant_of after) (followed_by history act))

-- The answers to lines after a history, with the end.
abbrev pub IsSessionJson : (most : ℕ) → History → TextOfLines
IsSessionJson most history lines text end = IsTextFrom most AnswersInJson IsNoEvent 1 history lines text end

-- the line for the start, with the moment of the first tick, if there is one
abbrev pub opening_json : History → List ℕ
opening_json history = json_line (start_json (next_in_life (life_at history)))

-- the text of the whole session, with its end: the line for the start and then the answers
abbrev pub IsSessionJsonOf : (most : ℕ) → History → Option (ℕ × LineFault) → List ℕ → List ℕ → Type 0
IsSessionJsonOf most history end = IsOpenedText (opening_json history) (IsSessionJson most history) end

-- What a text is for the whole input, with the outcome and what the reader has left.
abbrev pub SessionLeavesJson : (most : ℕ) → History → {A : Type 0} → Result A TextFault
    → Option (List ℕ) → List ℕ → List ℕ → Type 0
SessionLeavesJson most history result left =
    OpenedLeaves (opening_json history) (IsSessionJson most history) result left

-- What a replay promises after a history whose configuration is usable, by what it wrote, its outcome, and what the
-- reader has left.
abbrev pub ReplaysInJson : (most : ℕ) → History → {A : Type 0} → Result A ReplayFault → Option (List ℕ) →
    ((List ℕ → List ℕ → Type 0) → Type 0) → Type 0
ReplaysInJson most history result left Leaves =
    ReplaysWith (opening_json history) (IsSessionJson most history) (error_in history.setup ≡ None) result left Leaves
