-- The text of a session of a guarded participant in JSON: each line says one act or has one fault, and what holds a
-- guarded
-- participant answers as its history does.
use Rattle.std.proofs.Common.{◌≡◌, ℕ, ◌⊎◌, inl, inr, List, [], ◌++◌, Option, None, Result, Ok, Err, refl, sym, ◌∙◌, ap, subst}
use Rattle.rtcp_engine.specs.answers.Acts.{EventValue, IsActOfEvent}
use Rattle.rtcp_engine.specs.answers.Refused.{error_in}
use Rattle.rtcp_guarded.specs.Guarded.{GuardedAnswer, GuardedHistory, guarded_answer, with_told}
use Rattle.rtcp_guarded.specs.Views.{GuardedValue, StandsAt}
use Rattle.rtcp_text.specs.EventLines.{event_in}
use Rattle.rtcp_text.specs.declared.fault.LineFault.{LineFault}
use Rattle.rtcp_text.specs.declared.fault.TextFault.{TextFault}
use Rattle.rtcp_text.specs.Lines.{IsTextFrom, Writes}
use Rattle.rtcp_text.specs.Opened.{OpenedRunLeaves}
use Rattle.rtcp_text.specs.Replay.{IsNoEvent}
use Rattle.rtcp_text.proofs.ClauseLemmas.{Continues}
use Rattle.rtcp_text.proofs.OpenedLemmas.{Writes-leaves, replayed, replays as opened_replays}
use Rattle.rtcp_text.proofs.ReplayLemmas.{act_exists, never_both, one_act, one_fault}
use Rattle.rtcp_text.proofs.TextLemmas.{IsTotal, IsUnique, IsTextBy-shown, one_text, text_continues, text_exists}
use Rattle.rtcp_json.specs.AnswerValues.{guarded_answer_json}
use Rattle.rtcp_json.specs.GuardedReplayJson.{AnswersGuardedInJson, AnswersStandingGuardedInJson, GuardedLeavesJson, IsGuardedJson, ReplaysGuardedInJson, guarded_opening_json}
use Rattle.rtcp_json.specs.JsonValues.{json_line}

-- ---- Each line has an answer or a fault, and only one

line_exists : (history : GuardedHistory) (line : List ℕ) (r : Result EventValue LineFault) → event_in line ≡ r
    → ((fault : LineFault) × IsNoEvent line fault) ⊎
    ((text : List ℕ) × (next : GuardedHistory) × AnswersGuardedInJson history line text next)
line_exists history line (Ok event) is =
    let found = act_exists event in
    inr (
      json_line (guarded_answer_json (guarded_answer history found.0)),
      with_told history found.0,
      (event, found.0, is, found.1, refl, refl),
    )
line_exists history line (Err fault) is = inl (fault, is)

total : IsTotal AnswersGuardedInJson IsNoEvent
total history line = line_exists history line (event_in line) refl

one_answer : (history next next' : GuardedHistory) (line text text' : List ℕ) →
    AnswersGuardedInJson history line text next →
    AnswersGuardedInJson history line text' next'
    → (text ≡ text') × (next ≡ next')
one_answer history next next' line text text' (event, act, is, is_act, shown, follows)
    (event', act', is', is_act', shown', follows') =
    let same : event ≡ event' = cc (is, is') in
    let acts : act ≡ act' = one_act event act act' is_act (subst (λ e. IsActOfEvent e act') (sym same) is_act') in (
      shown ∙ ap (λ a. json_line (guarded_answer_json (guarded_answer history a))) acts ∙ sym shown',
      follows ∙ ap (with_told history) acts ∙ sym follows',
    )

unique : IsUnique AnswersGuardedInJson IsNoEvent
unique = record {
  answer = λ history next next' line text text' h k. one_answer history next next' line text text' h k;
  fault = one_fault;
  never_both = λ history next line text fault h k. never_both line fault k.0 h k.2;
}

-- What is appended to nothing is all.
pub answer_shown : (before text : List ℕ) (shown answer : GuardedAnswer) →
    text ≡ before ++ json_line (guarded_answer_json shown) → before ≡ [] → shown ≡ answer →
    text ≡ json_line (guarded_answer_json answer)
answer_shown before text shown answer parts none same =
    parts ∙ ap (λ b. b ++ json_line (guarded_answer_json shown)) none
    ∙ ap (λ a. json_line (guarded_answer_json a)) same

-- ---- The text of a session

pub guarded_text_exists : (most : ℕ) (history : GuardedHistory) (lines : List (List ℕ)) →
    (text : List ℕ) × (end : Option (ℕ × LineFault)) × IsGuardedJson most history lines text end
guarded_text_exists most history lines = text_exists most AnswersGuardedInJson IsNoEvent total 1 history lines

pub one_guarded_text : (most : ℕ) (history : GuardedHistory) (lines : List (List ℕ)) (text text' : List ℕ)
    (end end' : Option (ℕ × LineFault))
    → IsGuardedJson most history lines text end → IsGuardedJson most history lines text' end' →
    (text ≡ text') × (end ≡ end')
one_guarded_text most history lines text text' end end' h k = one_text most AnswersGuardedInJson IsNoEvent unique 1
    history
    h.0 k.0 lines text text' end end' h.1 k.1

guarded_text_continues : (most : ℕ) (history : GuardedHistory) → Continues (IsGuardedJson most history)
guarded_text_continues most history lines others text texts = text_continues most AnswersGuardedInJson IsNoEvent total 1
    history lines others text texts

-- ---- What holds a guarded participant writes the text of its history

module _ {S : Type 0} (most : ℕ) (guarded_of : S → GuardedValue) where
  shown_by_history : (state next : S) (history : GuardedHistory) (line text : List ℕ) →
      StandsAt (guarded_of state) history → AnswersStandingGuardedInJson guarded_of state line text next
      → (history' : GuardedHistory) × StandsAt (guarded_of next) history' × AnswersGuardedInJson history line text
      history'
  shown_by_history state next history line text stands (event, act, is, is_act, at) =
      let answered = at history stands in
      (with_told history act, answered.1, (event, act, is, is_act, answered.0, refl))

  IsGuardedJson-from : (state : S) (history : GuardedHistory) → StandsAt (guarded_of state) history →
      (lines : List (List ℕ)) (text : List ℕ) (end : Option (ℕ × LineFault))
      → IsTextFrom most (AnswersStandingGuardedInJson guarded_of) IsNoEvent 1 state lines text end →
      IsGuardedJson most history lines text end
  IsGuardedJson-from state history stands lines text end (last, texts) =
      let shown = IsTextBy-shown most (AnswersStandingGuardedInJson guarded_of) AnswersGuardedInJson IsNoEvent
      (λ h s. StandsAt (guarded_of s) h)
      (λ s next h line answer at is_answer. shown_by_history s next h line answer at is_answer) 1 state last history
      lines text end stands texts in
      (shown.0, shown.2)

  -- The line for the start of what holds a guarded participant is written, and then its answers.
  pub Writes-session : {A : Type 0} (state : S) (history : GuardedHistory) → StandsAt (guarded_of state) history
      → (r : Result A TextFault) (remaining held last left : Option (List ℕ)) (start : List ℕ) →
      start ≡ guarded_opening_json history
      → Writes remaining held last
      (OpenedRunLeaves start (IsTextFrom most (AnswersStandingGuardedInJson guarded_of) IsNoEvent 1 state) r left)
      → Writes remaining held last (GuardedLeavesJson most history r left)
  Writes-session state history stands r remaining held last left start opens writes =
      let IsAnswered = IsTextFrom most (AnswersStandingGuardedInJson guarded_of) IsNoEvent 1 state in
      Writes-leaves (guarded_opening_json history) (IsGuardedJson most history) (guarded_text_exists most history)
      (guarded_text_continues most history) IsAnswered (IsGuardedJson-from state history stands) r remaining held last
      left (subst (λ o. Writes remaining held last (OpenedRunLeaves o IsAnswered r left)) opens writes)

-- Each promise of a replay is one case of what its session leaves.
pub replays : (most : ℕ) (history : GuardedHistory) (result : Result (Unit {0}) TextFault) (left : Option (List ℕ))
    {remaining held holds : Option (List ℕ)} →
    Writes remaining held holds (GuardedLeavesJson most history result left) →
    ReplaysGuardedInJson most history (replayed result) left (Writes remaining held holds)
replays most history result left leaves =
    opened_replays (guarded_opening_json history) (IsGuardedJson most history) (guarded_text_exists most history)
    (guarded_text_continues most history) (error_in history.setup ≡ None) result left leaves
