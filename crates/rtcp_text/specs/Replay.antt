-- The text of a session: what a participant answers to the events that the lines of an input say.
use Rattle.std.specs.Prelude.{◌≡◌, ℕ, List, Option, None, Result, Ok, Err}
use Rattle.rtcp_engine.specs.answers.Acts.{Act, EventValue, IsActOfEvent}
use Rattle.rtcp_engine.specs.answers.Histories.{History, life_at}
use Rattle.rtcp_engine.specs.answers.Lives.{next_in_life}
use Rattle.rtcp_engine.specs.answers.Answers.{answer_of, followed_by}
use Rattle.rtcp_engine.specs.state.States.{ParticipantValue, StandsAt}
use Rattle.rtcp_engine.specs.answers.Refused.{error_in}
use Rattle.rtcp_text.specs.declared.fault.LineFault.{LineFault}
use Rattle.rtcp_text.specs.declared.fault.ReplayFault.{ReplayFault}
use Rattle.rtcp_text.specs.declared.fault.TextFault.{TextFault}
use Rattle.rtcp_text.specs.EventLines.{event_in}
use Rattle.rtcp_text.specs.AnswerText.{start_text, answer_text}
use Rattle.rtcp_text.specs.Lines.{Answering, Refusing, IsTextFrom, TextOfLines}
use Rattle.rtcp_text.specs.Opened.{IsOpenedText, OpenedLeaves, ReplaysWith}

-- ---- Lines

-- The line says an act, the text is the participant's answer to it, and the history goes on with it.
abbrev pub AnswersEvent : Answering History
AnswersEvent history line text next =
    (event : EventValue) × (act : Act) × (event_in line ≡ Ok event) × IsActOfEvent event act
    × (text ≡ answer_text (answer_of history act)) × (next ≡ followed_by history act)

-- The same of something that holds a participant, whichever history that stands at.
abbrev pub AnswersStanding : {S : Type 0} → (S → ParticipantValue) → Answering S
AnswersStanding participant_of before line text after =
    (event : EventValue) × (act : Act) × (event_in line ≡ Ok event) × IsActOfEvent event act
    × ((history : History) → StandsAt (participant_of before) history
    → (text ≡ answer_text (answer_of history act)) × StandsAt (participant_of after) (followed_by history act))

-- the fault that a line has by itself
abbrev pub IsNoEvent : Refusing
IsNoEvent line fault = event_in line ≡ Err fault

-- ---- Sessions

-- The answers to lines after a history, with the end.
abbrev pub IsSessionText : (most : ℕ) → History → TextOfLines
IsSessionText most history lines text end = IsTextFrom most AnswersEvent IsNoEvent 1 history lines text end

-- the line for the start, with the moment of the first tick, if there is one
abbrev pub opening : History → List ℕ
opening history = start_text (next_in_life (life_at history))

-- the text of the whole session, with its end: the line for the start and then the answers
abbrev pub IsSessionOf : (most : ℕ) → History → Option (ℕ × LineFault) → List ℕ → List ℕ → Type 0
IsSessionOf most history end = IsOpenedText (opening history) (IsSessionText most history) end

-- What a text is for the whole input, with the outcome and what the reader has left.
abbrev pub SessionLeaves : (most : ℕ) → History → {A : Type 0} → Result A TextFault
    → Option (List ℕ) → List ℕ → List ℕ → Type 0
SessionLeaves most history result left = OpenedLeaves (opening history) (IsSessionText most history) result left

-- What a replay promises after a history whose configuration is usable, by what it wrote, its outcome, and what the
-- reader has left.
abbrev pub Replays : (most : ℕ) → History → {A : Type 0} → Result A ReplayFault → Option (List ℕ) →
    ((List ℕ → List ℕ → Type 0) → Type 0) → Type 0
Replays most history result left Leaves =
    ReplaysWith (opening history) (IsSessionText most history) (error_in history.setup ≡ None) result left Leaves
