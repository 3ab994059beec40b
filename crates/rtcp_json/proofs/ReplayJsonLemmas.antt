-- The text of a session in JSON: each line says one act or has one fault, and what holds a participant answers as its
-- history does.
use Rattle.std.proofs.Common.{◌≡◌, ℕ, ◌⊎◌, inl, inr, List, [], ◌++◌, Option, None, Result, Ok, Err, refl, sym, ◌∙◌, ap, subst}
use Rattle.rtcp_engine.specs.answers.Acts.{EventValue, IsActOfEvent, AnswerValue}
use Rattle.rtcp_engine.specs.answers.Refused.{error_in}
use Rattle.rtcp_engine.specs.answers.Answers.{answer_of, followed_by}
use Rattle.rtcp_engine.specs.answers.Histories.{History}
use Rattle.rtcp_engine.specs.state.States.{ParticipantValue, StandsAt}
use Rattle.rtcp_text.specs.EventLines.{event_in}
use Rattle.rtcp_text.specs.declared.fault.LineFault.{LineFault}
use Rattle.rtcp_text.specs.declared.fault.TextFault.{TextFault}
use Rattle.rtcp_text.specs.Lines.{IsTextFrom, Writes}
use Rattle.rtcp_text.specs.Opened.{OpenedRunLeaves}
use Rattle.rtcp_text.specs.Replay.{IsNoEvent}
use Rattle.rtcp_text.proofs.ClauseLemmas.{Continues}
use Rattle.rtcp_text.proofs.OpenedLemmas.{Writes-leaves, replayed, replays as opened_replays}
use Rattle.rtcp_text.proofs.ReplayLemmas.{act_exists, never_both, one_act, one_fault}
use Rattle.rtcp_text.proofs.TextLemmas.{IsTotal, IsUnique, IsTextBy-shown, one_text, text_continues, text_exists}
use Rattle.rtcp_json.specs.AnswerValues.{answer_json, start_json}
use Rattle.rtcp_json.specs.ReplayJson.{AnswersInJson, AnswersStandingInJson, IsSessionJson, ReplaysInJson, SessionLeavesJson, opening_json}
use Rattle.rtcp_json.specs.JsonValues.{json_line}

-- ---- Each line has an answer or a fault, and only one

line_exists : (history : History) (line : List ℕ) (r : Result EventValue LineFault) → event_in line ≡ r
    → ((fault : LineFault) × IsNoEvent line fault) ⊎
    ((text : List ℕ) × (next : History) × AnswersInJson history line text next)
line_exists history line (Ok event) is =
    let found = act_exists event in
    inr (
      json_line (answer_json (answer_of history found.0)),
      followed_by history found.0,
      (event, found.0, is, found.1, refl, refl),
    )
line_exists history line (Err fault) is = inl (fault, is)

total : IsTotal AnswersInJson IsNoEvent
total history line = line_exists history line (event_in line) refl

one_answer : (history next next' : History) (line text text' : List ℕ) → AnswersInJson history line text next →
    AnswersInJson history line text' next'
    → (text ≡ text') × (next ≡ next')
one_answer history next next' line text text' (event, act, is, is_act, shown, follows)
    (event', act', is', is_act', shown', follows') =
    let same : event ≡ event' = cc (is, is') in
    let acts : act ≡ act' = one_act event act act' is_act (subst (λ e. IsActOfEvent e act') (sym same) is_act') in (
      shown ∙ ap (λ a. json_line (answer_json (answer_of history a))) acts ∙ sym shown',
      follows ∙ ap (followed_by history) acts ∙ sym follows',
    )

unique : IsUnique AnswersInJson IsNoEvent
unique = record {
  answer = λ history next next' line text text' h k. one_answer history next next' line text text' h k;
  fault = one_fault;
  never_both = λ history next line text fault h k. never_both line fault k.0 h k.2;
}

-- What is appended to nothing is all.
pub answer_shown : (before text : List ℕ) (shown answer : AnswerValue) →
    text ≡ before ++ json_line (answer_json shown) → before ≡ [] → shown ≡ answer →
    text ≡ json_line (answer_json answer)
answer_shown before text shown answer parts none same =
    parts ∙ ap (λ b. b ++ json_line (answer_json shown)) none
    ∙ ap (λ a. json_line (answer_json a)) same

-- ---- The text of a session

pub session_text_exists : (most : ℕ) (history : History) (lines : List (List ℕ)) →
    (text : List ℕ) × (end : Option (ℕ × LineFault)) × IsSessionJson most history lines text end
session_text_exists most history lines = text_exists most AnswersInJson IsNoEvent total 1 history lines

pub one_session_text : (most : ℕ) (history : History) (lines : List (List ℕ)) (text text' : List ℕ)
    (end end' : Option (ℕ × LineFault))
    → IsSessionJson most history lines text end → IsSessionJson most history lines text' end' →
    (text ≡ text') × (end ≡ end')
one_session_text most history lines text text' end end' h k = one_text most AnswersInJson IsNoEvent unique 1 history
    h.0 k.0 lines text text' end end' h.1 k.1

session_text_continues : (most : ℕ) (history : History) → Continues (IsSessionJson most history)
session_text_continues most history lines others text texts = text_continues most AnswersInJson IsNoEvent total 1
    history lines others text texts

-- ---- What holds a participant writes the text of its history

module _ {S : Type 0} (most : ℕ) (participant_of : S → ParticipantValue) where
  shown_by_history : (state next : S) (history : History) (line text : List ℕ) →
      StandsAt (participant_of state) history → AnswersStandingInJson participant_of state line text next
      → (history' : History) × StandsAt (participant_of next) history' × AnswersInJson history line text history'
  shown_by_history state next history line text stands (event, act, is, is_act, at) =
      let answered = at history stands in
      (followed_by history act, answered.1, (event, act, is, is_act, answered.0, refl))

  IsSessionJson-from : (state : S) (history : History) → StandsAt (participant_of state) history →
      (lines : List (List ℕ)) (text : List ℕ) (end : Option (ℕ × LineFault))
      → IsTextFrom most (AnswersStandingInJson participant_of) IsNoEvent 1 state lines text end →
      IsSessionJson most history lines text end
  IsSessionJson-from state history stands lines text end (last, texts) =
      let shown = IsTextBy-shown most (AnswersStandingInJson participant_of) AnswersInJson IsNoEvent
      (λ h s. StandsAt (participant_of s) h)
      (λ s next h line answer at is_answer. shown_by_history s next h line answer at is_answer) 1 state last history
      lines text end stands texts in
      (shown.0, shown.2)

  -- The line for the start of what holds a participant is written, and then its answers.
  pub Writes-session : {A : Type 0} (state : S) (history : History) → StandsAt (participant_of state) history
      → (r : Result A TextFault) (remaining held last left : Option (List ℕ)) (start : List ℕ) →
      start ≡ opening_json history
      → Writes remaining held last
      (OpenedRunLeaves start (IsTextFrom most (AnswersStandingInJson participant_of) IsNoEvent 1 state) r left)
      → Writes remaining held last (SessionLeavesJson most history r left)
  Writes-session state history stands r remaining held last left start opens writes =
      let IsAnswered = IsTextFrom most (AnswersStandingInJson participant_of) IsNoEvent 1 state in
      Writes-leaves (opening_json history) (IsSessionJson most history) (session_text_exists most history)
      (session_text_continues most history) IsAnswered (IsSessionJson-from state history stands) r remaining held last
      left (subst (λ o. Writes remaining held last (OpenedRunLeaves o IsAnswered r left)) opens writes)

-- Each promise of a replay is one case of what its session leaves.
pub replays : (most : ℕ) (history : History) (result : Result (Unit {0}) TextFault) (left : Option (List ℕ))
    {remaining held holds : Option (List ℕ)} →
    Writes remaining held holds (SessionLeavesJson most history result left) →
    ReplaysInJson most history (replayed result) left (Writes remaining held holds)
replays most history result left leaves =
    opened_replays (opening_json history) (IsSessionJson most history) (session_text_exists most history)
    (session_text_continues most history) (error_in history.setup ≡ None) result left leaves

-- What is appended to nothing for the next moment is the line for the start.
pub opening_shown : (next : Option ℕ) (before start : List ℕ) → start ≡ before ++ json_line (start_json next) →
    before ≡ [] → start ≡ json_line (start_json next)
opening_shown next before start parts none = parts ∙ ap (λ b. b ++ json_line (start_json next)) none
