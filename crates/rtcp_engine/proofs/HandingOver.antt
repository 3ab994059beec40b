-- The answers that a run hands over are those of a history that goes on.
use Rattle.std.proofs.Common.{◌≡◌, ◌++◌, ℕ, not, Bool, true, false, List, [], ◌∷◌, length, drop, is_some, Option, Some, None, option_map, Err, if◌then◌else◌, refl, sym, ap, ◌∙◌, subst}
use Rattle.std.proofs.Math.Seq.{drop-append_seam}
use Rattle.std.proofs.lemmas.Bool.{and_parts}
use Rattle.std.proofs.lemmas.List.{append_assoc}
use Rattle.std.specs.Option.{option_or}
use Rattle.rtcp_engine.specs.declared.refusal.Refusal.{Refusal}
use Rattle.rtcp_engine.specs.declared.refusal.Refusal.TheVariants.{Left}
use Rattle.rtcp_engine.specs.answers.Acts.{Act, ticked, left, moment_of, arrived, rtcp, rtp, AnswerValue, answer_unless}
use Rattle.rtcp_engine.specs.answers.Answers.{answer_of, answers_to, followed_by, followed_by_all, step_by, refusal_after, refusal_in}
use Rattle.rtcp_engine.specs.answers.Changes.{NewIdentifier, Session, bye_of_change, change_by, changed_by}
use Rattle.rtcp_engine.specs.answers.Histories.{History, after_act, brought_by, life_at, session_at, with_act}
use Rattle.rtcp_engine.specs.answers.Leaving.{Life, present, backing_off, finished}
use Rattle.rtcp_engine.specs.answers.Lives.{bye_out, lived, out_by, report_out}
use Rattle.rtcp_engine.specs.answers.Outcomes.{Outcome}
use Rattle.rtcp_engine.specs.answers.Reporting.{bye_octets}
use Rattle.rtcp_engine.specs.bounds.Runs.{AllAlong, AreRefusals, EndAtBye, HandsOver, IsAnsweredInTime, IsRefusalForgotten, handed_over, is_bye_out, says_bye, taken_since}
use Rattle.rtcp_engine.specs.bounds.Sent.{Sent, deciding_interval, handed_out, sent_at}
use Rattle.rtcp_engine.specs.answers.Setups.{Setup}
use Rattle.rtcp_engine.specs.bounds.Spacing.{AreBounded, first_leave}
use Rattle.rtcp_engine.specs.state.Taken.{IsHistory}
use Rattle.rtcp_engine.proofs.Waiting.{answered_in_time, one_less}
use Rattle.rtcp_engine.proofs.LawLemmas.{answers_hand_out_compounds, sent_compounds_keep_apart}

-- ---- What is sent

all_sent : (h : History) (acts : List Act) →
    handed_over h acts (answers_to h acts) ++ sent_at h ≡ sent_at (followed_by_all h acts)
all_sent h [] = refl
all_sent h (act ∷ acts) =
    let next = followed_by h act in
    let later = handed_over next acts (answers_to next acts) in
    let now = handed_out (moment_of act) (deciding_interval (session_at h) act) (answer_of h act) in
    append_assoc later now (sent_at h) ∙ ap (λ (sent : List Sent). later ++ sent)
    (sym (answers_hand_out_compounds h act))
    ∙ all_sent next acts

-- ---- The end

abbrev IsFinished : Life → Type 0
IsFinished (finished outcome) = Unit {0}
IsFinished life = ⊥

no_report : (octets : Option (List ℕ)) → is_bye_out (option_map report_out octets) ≡ true → ⊥
no_report None bye = absurd cc
no_report (Some octets) bye = absurd cc

leaves : (nothing_sent few : Bool) (o : Outcome) (waiting : Life) (octets : List ℕ) →
    is_bye_out (option_map bye_out (if nothing_sent then None else (if few then Some octets else None))) ≡ true →
    IsFinished (if nothing_sent then finished o else (if few then finished o else waiting))
leaves false false o waiting octets bye = absurd (cc bye)
leaves nothing_sent few o waiting octets bye = tt

waits : (due : Bool) (o : Outcome) (waiting : Life) (octets : List ℕ) →
    is_bye_out (if due then Some (bye_out octets) else None) ≡ true → IsFinished (if due then finished o else waiting)
waits true o waiting octets bye = tt
waits false o waiting octets bye = absurd (cc bye)

-- The BYE that an act brings, and no change of identifier, is that of a participant that is gone.
gone_after : (setup : Setup) (act : Act) (life : Life) → is_bye_out (out_by setup act life) ≡ true →
    IsFinished (lived setup act life)
gone_after setup (ticked moment first_word second_word) (present o) bye = absurd (no_report _ bye)
gone_after setup (left moment word) (present o) bye = leaves _ _ o _ (bye_octets setup) bye
gone_after setup (ticked moment first_word second_word) (backing_off o b) bye = waits _ o _ (bye_octets setup) bye
gone_after setup (arrived moment peer word (rtcp size reading)) (backing_off o b) bye = absurd (cc bye)
gone_after setup (arrived moment peer word (rtp reading)) (backing_off o b) bye = absurd (cc bye)
gone_after setup act (finished o) bye = tt
gone_after setup act life bye = absurd (cc bye)

abbrev number : NewIdentifier → ℕ
number new = new.ssrc

unchanged_gone : (session : Session) (act : Act) (change : Option NewIdentifier) → change_by session act ≡ change →
    is_some (option_map number change) ≡ false → is_bye_out (brought_by session act) ≡ true →
    IsFinished (after_act session act).life
unchanged_gone session act (Some new) is none bye = absurd (cc none)
unchanged_gone session act None is none bye =
    let brought : brought_by session act ≡ out_by session.setup act session.life =
    ap (λ (c : Option NewIdentifier). option_or (bye_of_change c session)
    (out_by (changed_by c session).setup act (changed_by c session).life)) is in
    subst IsFinished (sym (ap (λ (c : Option NewIdentifier). lived (changed_by c session).setup act
    (changed_by c session).life) is)) (gone_after session.setup act session.life (sym (ap is_bye_out brought) ∙ bye))

not_true : (b : Bool) → not b ≡ true → b ≡ false
not_true true h = absurd (cc h)
not_true false h = refl

said : (h : History) (act : Act) (refusal : Option Refusal) → refusal_after h act ≡ refusal →
    says_bye (answer_unless refusal (step_by h act)) ≡ true →
    IsFinished (life_at (elim refusal [ None ↦ with_act h act | Some reason ↦ h ]))
said h act (Some reason) is goodbye = absurd (cc goodbye)
said h act None is goodbye =
    let session = session_at h in
    let both = and_parts (is_bye_out (brought_by session act))
    (not (is_some (option_map number (change_by session act))))
    goodbye in
    unchanged_gone session act (change_by session act) refl (not_true _ both.1) both.0

refuses : (life : Life) (refusal : Option Refusal) → IsFinished life → refusal_in life refusal ≡ Some Left
refuses (finished o) refusal h = refl
refuses life refusal h = absurd h

refused : (h : History) (acts : List Act) → IsFinished (life_at h) → AreRefusals (answers_to h acts)
refused h [] is = tt
refused h (act ∷ acts) is =
    let left = refuses (life_at h) _ is in
    let answer : answer_of h act ≡ Err Left = ap (λ (r : Option Refusal). answer_unless r (step_by h act)) left in
    let same : followed_by h act ≡ h = ap (λ (r : Option Refusal). elim r [ None ↦ with_act h act | Some reason ↦ h ])
    left in
    subst (λ (a : AnswerValue). AreRefusals (a ∷ answers_to (followed_by h act) acts)) (sym answer)
    (subst (λ (next : History). AreRefusals (answers_to next acts)) (sym same) (refused h acts is))

ends : (h : History) (acts : List Act) → EndAtBye (answers_to h acts)
ends h [] = tt
ends h (act ∷ acts) =
    let next = followed_by h act in
    (λ goodbye. refused next acts (said h act (refusal_after h act) refl goodbye), ends next acts)

-- ---- In time

history_before : (h : History) (acts : List Act) → IsHistory (followed_by_all h acts) → IsHistory h
history_before h [] is = is
history_before h (act ∷ acts) is =
    (one_less h act (refusal_after h act) refl (history_before (followed_by h act) acts is)).0

in_time : (h : History) (acts : List Act) → IsHistory (followed_by_all h acts) →
    AllAlong IsAnsweredInTime h acts (answers_to h acts)
in_time h [] is = tt
in_time h (act ∷ acts) is =
    let next = followed_by h act in
    (answered_in_time h act (history_before next acts is), in_time next acts is)

-- ---- Refusals

forgotten_by : (h : History) (act : Act) (refusal : Option Refusal) → refusal_after h act ≡ refusal →
    IsRefusalForgotten h act (answer_unless refusal (step_by h act))
forgotten_by h act None is = tt
forgotten_by h act (Some reason) is =
    ap (λ (r : Option Refusal). elim r [ None ↦ with_act h act | Some other ↦ h ]) is

all_forgotten : (h : History) (acts : List Act) → AllAlong IsRefusalForgotten h acts (answers_to h acts)
all_forgotten h [] = tt
all_forgotten h (act ∷ acts) =
    (forgotten_by h act (refusal_after h act) refl, all_forgotten (followed_by h act) acts)

-- ---- A run

-- what a sink took, where it grew by the answers to acts
pub hands_over : (h : History) (acts : List Act) (before after : List AnswerValue) →
    after ≡ before ++ answers_to h acts → IsHistory (followed_by_all h acts) →
    HandsOver h acts (taken_since before after)
hands_over h acts before after grew is =
    let now = followed_by_all h acts in
    let given : answers_to h acts ≡ taken_since before after =
    sym (ap (drop (length before)) grew ∙ drop-append_seam before (answers_to h acts)) in
    subst (HandsOver h acts) given (record {
      in_time = in_time h acts is;
      refused = all_forgotten h acts;
      bounded = subst (AreBounded (first_leave now.acts) now.setup.limit) (sym (all_sent h acts))
          (sent_compounds_keep_apart now is);
      ends = ends h acts;
    })
