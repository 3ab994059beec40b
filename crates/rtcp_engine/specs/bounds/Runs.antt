-- What a run hands to its sink. Answers are in their order, the first one first; compounds are newest first.
use Rattle.std.specs.Prelude.{◌≡◌, ◌++◌, ◌&&◌, not, Bool, IsTrue, true, false, List, [], ◌∷◌, length, drop, Option, Some, None, is_some, Ok, Err}
use Rattle.rtcp_engine.specs.declared.step.OutKind.TheVariants.{Report, Bye}
use Rattle.rtcp_engine.specs.answers.Acts.{Act, ticked, moment_of, AnswerValue, OutValue}
use Rattle.rtcp_engine.specs.answers.Answers.{followed_by, followed_by_all, refusal_after}
use Rattle.rtcp_engine.specs.answers.Histories.{History, session_at}
use Rattle.rtcp_engine.specs.bounds.InTime.{IsOverdue}
use Rattle.rtcp_engine.specs.bounds.Sent.{Sent, deciding_interval, handed_out, sent_at}
use Rattle.rtcp_engine.specs.bounds.Spacing.{AreBounded, first_leave}

-- the answers that a sink took between two moments
abbrev pub taken_since : (before after : List AnswerValue) → List AnswerValue
taken_since before after = drop (length before) after

-- the compounds in answers to acts, each at the moment of its act, with the interval that was then computed
abbrev pub handed_over : History → List Act → List AnswerValue → List Sent
handed_over history [] answers = []
handed_over history (act ∷ acts) [] = []
handed_over history (act ∷ acts) (answer ∷ answers) =
    handed_over (followed_by history act) acts answers
    ++ handed_out (moment_of act) (deciding_interval (session_at history) act) answer

-- ---- The end

abbrev pub is_bye_out : Option OutValue → Bool
is_bye_out None = false
is_bye_out (Some out) = elim out.kind [ Report ↦ false | Bye ↦ true ]

-- whether an answer has the BYE with which the participant leaves: the BYE of an identifier that it gives up is another
abbrev pub says_bye : AnswerValue → Bool
says_bye (Ok step) = is_bye_out step.out && not (is_some step.changed)
says_bye (Err refusal) = false

abbrev pub AreRefusals : List AnswerValue → Type 0
AreRefusals [] = Unit {0}
AreRefusals (Ok step ∷ later) = ⊥
AreRefusals (Err refusal ∷ later) = AreRefusals later

-- After the BYE of leaving come refusals alone: so there is at most one.
abbrev pub EndAtBye : List AnswerValue → Type 0
EndAtBye [] = Unit {0}
EndAtBye (answer ∷ later) = (says_bye answer ≡ true → AreRefusals later) × EndAtBye later

-- ---- In time

-- Something holds of each act that has an answer, and of this, after the history that led up to it.
abbrev pub AllAlong : (History → Act → AnswerValue → Type 0) → History → List Act → List AnswerValue → Type 0
AllAlong Holds history [] answers = Unit {0}
AllAlong Holds history (act ∷ acts) [] = Unit {0}
AllAlong Holds history (act ∷ acts) (answer ∷ answers) =
    Holds history act answer × AllAlong Holds (followed_by history act) acts answers

abbrev pub HasCompound : AnswerValue → Type 0
HasCompound (Ok step) = IsTrue (is_some step.out)
HasCompound (Err refusal) = ⊥

-- A tick that comes late, and is taken, has an answer with a compound: a report, or in a backoff the BYE.
abbrev pub IsAnsweredInTime : History → Act → AnswerValue → Type 0
IsAnsweredInTime history (ticked moment first_word second_word) answer =
    IsOverdue history (ticked moment first_word second_word) →
    refusal_after history (ticked moment first_word second_word) ≡ None → HasCompound answer
IsAnsweredInTime history act answer = Unit {0}

-- ---- Refusals

-- An act whose answer is a refusal changes nothing.
abbrev pub IsRefusalForgotten : History → Act → AnswerValue → Type 0
IsRefusalForgotten history act (Ok step) = Unit {0}
IsRefusalForgotten history act (Err refusal) = followed_by history act ≡ history

-- ---- All together

-- What holds of the answers that are handed over to acts after a history. Their compounds, with all that was sent
-- before, keep the bounds: reports lie apart, few lie in a window, the BYE of leaving comes last, and none passes the
-- limit. A tick that comes late sends, and what is refused changes nothing.
pub record HandsOver (history : History) (acts : List Act) (answers : List AnswerValue) : Type 0 where
  -- A tick that comes late sends.
  pub in_time : AllAlong IsAnsweredInTime history acts answers
  -- What is refused changes nothing.
  pub refused : AllAlong IsRefusalForgotten history acts answers
  pub bounded : let after = followed_by_all history acts in
      AreBounded (first_leave after.acts) after.setup.limit (handed_over history acts answers ++ sent_at history)
  pub ends : EndAtBye answers
