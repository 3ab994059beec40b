-- The text of a session: each line says one act or has one fault, and what holds a participant answers as its history
-- does.
use Rattle.std.proofs.Common.{◌≡◌, ℕ, ◌⊎◌, inl, inr, List, [], ◌++◌, Option, Result, Ok, Err, refl, sym, ◌∙◌, ap, subst}
use Rattle.rtcp_engine.specs.answers.Acts.{Act, act_of, EventValue, IsActOfEvent, AnswerValue}
use Rattle.rtcp_engine.specs.answers.Answers.{answer_of, followed_by}
use Rattle.rtcp_engine.specs.answers.Histories.{History}
use Rattle.rtcp_engine.specs.state.States.{ParticipantValue, StandsAt}
use Rattle.rtcp_text.specs.AnswerText.{answer_text}
use Rattle.rtcp_text.specs.EventLines.{event_in}
use Rattle.rtcp_text.specs.declared.fault.LineFault.{LineFault}
use Rattle.rtcp_text.specs.Lines.{IsTextFrom}
use Rattle.rtcp_text.specs.Replay.{AnswersEvent, AnswersStanding, IsNoEvent, IsSessionText}
use Rattle.rtcp_text.proofs.TextLemmas.{IsTotal, IsUnique, text_exists, text_continues, one_text, IsTextBy-shown}
use Rattle.rtcp_text.proofs.ClauseLemmas.{Continues}

-- ---- Each event is one act

pub act_exists : (event : EventValue) → (act : Act) × IsActOfEvent event act
act_exists event = (act_of event, refl)

pub one_act : (event : EventValue) (act act' : Act) → IsActOfEvent event act → IsActOfEvent event act' → act ≡ act'
one_act event act act' h k = h ∙ sym k

-- ---- Each line has an answer or a fault, and only one

line_exists : (history : History) (line : List ℕ) (r : Result EventValue LineFault) → event_in line ≡ r
    → ((fault : LineFault) × IsNoEvent line fault) ⊎
    ((text : List ℕ) × (next : History) × AnswersEvent history line text next)
line_exists history line (Ok event) is =
    let found = act_exists event in
    inr (
      answer_text (answer_of history found.0),
      followed_by history found.0,
      (event, found.0, is, found.1, refl, refl),
    )
line_exists history line (Err fault) is = inl (fault, is)

total : IsTotal AnswersEvent IsNoEvent
total history line = line_exists history line (event_in line) refl

one_answer : (history next next' : History) (line text text' : List ℕ) → AnswersEvent history line text next →
    AnswersEvent history line text' next'
    → (text ≡ text') × (next ≡ next')
one_answer history next next' line text text' (event, act, is, is_act, shown, follows)
    (event', act', is', is_act', shown', follows') =
    let same : event ≡ event' = cc (is, is') in
    let acts : act ≡ act' = one_act event act act' is_act (subst (λ e. IsActOfEvent e act') (sym same) is_act') in (
      shown ∙ ap (λ a. answer_text (answer_of history a)) acts ∙ sym shown',
      follows ∙ ap (followed_by history) acts ∙ sym follows',
    )

pub one_fault : (line : List ℕ) (fault fault' : LineFault) → IsNoEvent line fault → IsNoEvent line fault' →
    fault ≡ fault'
one_fault line fault fault' h k = cc (h, k)

pub never_both : (line : List ℕ) (fault : LineFault) (event : EventValue) → IsNoEvent line fault →
    event_in line ≡ Ok event → ⊥
never_both line fault event h k = cc (h, k)

unique : IsUnique AnswersEvent IsNoEvent
unique = record {
  answer = λ history next next' line text text' h k. one_answer history next next' line text text' h k;
  fault = one_fault;
  never_both = λ history next line text fault h k. never_both line fault k.0 h k.2;
}

-- What is appended to nothing is all.
pub answer_shown : (before text : List ℕ) (shown answer : AnswerValue) → text ≡ before ++ answer_text shown →
    before ≡ [] → shown ≡ answer → text ≡ answer_text answer
answer_shown before text shown answer parts none same = parts ∙ ap (λ b. b ++ answer_text shown) none
    ∙ ap answer_text same

-- ---- The text of a session

pub session_text_exists : (most : ℕ) (history : History) (lines : List (List ℕ)) →
    (text : List ℕ) × (end : Option (ℕ × LineFault)) × IsSessionText most history lines text end
session_text_exists most history lines = text_exists most AnswersEvent IsNoEvent total 1 history lines

pub one_session_text : (most : ℕ) (history : History) (lines : List (List ℕ)) (text text' : List ℕ)
    (end end' : Option (ℕ × LineFault))
    → IsSessionText most history lines text end → IsSessionText most history lines text' end' →
    (text ≡ text') × (end ≡ end')
one_session_text most history lines text text' end end' h k = one_text most AnswersEvent IsNoEvent unique 1 history h.0
    k.0 lines text text' end end' h.1 k.1

pub session_text_continues : (most : ℕ) (history : History) → Continues (IsSessionText most history)
session_text_continues most history lines others text texts = text_continues most AnswersEvent IsNoEvent total 1 history
    lines others text texts

-- ---- What holds a participant writes the text of its history

module _ {S : Type 0} (most : ℕ) (participant_of : S → ParticipantValue) where
  shown_by_history : (state next : S) (history : History) (line text : List ℕ) →
      StandsAt (participant_of state) history → AnswersStanding participant_of state line text next
      → (history' : History) × StandsAt (participant_of next) history' × AnswersEvent history line text history'
  shown_by_history state next history line text stands (event, act, is, is_act, at) =
      let answered = at history stands in
      (followed_by history act, answered.1, (event, act, is, is_act, answered.0, refl))

  pub IsSessionText-from : (state : S) (history : History) → StandsAt (participant_of state) history →
      (lines : List (List ℕ)) (text : List ℕ) (end : Option (ℕ × LineFault))
      → IsTextFrom most (AnswersStanding participant_of) IsNoEvent 1 state lines text end →
      IsSessionText most history lines text end
  IsSessionText-from state history stands lines text end (last, texts) =
      let shown = IsTextBy-shown most (AnswersStanding participant_of) AnswersEvent IsNoEvent
      (λ h s. StandsAt (participant_of s) h)
      (λ s next h line answer at is_answer. shown_by_history s next h line answer at is_answer) 1 state last history
      lines text end stands texts in
      (shown.0, shown.2)
