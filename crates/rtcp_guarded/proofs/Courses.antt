-- How the course of a guarded participant goes on with an act, and what is answered to that.
use Rattle.std.proofs.Common.{◌≡◌, ℕ, List, Option, Some, None, Result, Ok, Err, refl, sym, ap, ◌∙◌, subst}
use Rattle.rtcp_guard.specs.Histories.{guard_after}
use Rattle.rtcp_guard.specs.declared.settings.Settings.{Settings}
use Rattle.rtcp_guard.specs.declared.verdict.Verdict.{Verdict}
use Rattle.rtcp_guard.specs.declared.verdict.Verdict.TheVariants.{Pass, Stranger, Crowd}
use Rattle.rtcp_engine.specs.declared.refusal.Refusal.{Refusal}
use Rattle.rtcp_engine.specs.declared.step.WrittenStep.{WrittenStep}
use Rattle.rtcp_engine.specs.answers.Acts.{Act, StepValue, answer_unless}
use Rattle.rtcp_engine.specs.answers.Answers.{followed_by, step_by, refusal_after}
use Rattle.rtcp_engine.specs.answers.Histories.{History, with_act}
use Rattle.rtcp_engine.specs.state.Promises.{Takes as ParticipantTakes}
use Rattle.rtcp_engine.specs.state.States.{ParticipantValue, StandsAt as IsAtHistory}
use Rattle.rtcp_engine.specs.state.Views.{reply_value as participant_reply}
use Rattle.rtcp_guarded.specs.declared.untaken.Reason.{Reason}
use Rattle.rtcp_guarded.specs.declared.untaken.Untaken.TheVariants.{HeldBack, Refused}
use Rattle.rtcp_guarded.specs.Guarded.{Course, GuardedHistory, answer_by, answer_unless_held, course_at, course_unless, course_with, guarded_answer, guarded_unless, passed_at, passed_on, reason_for, steps_with, verdict_in, with_told}
use Rattle.rtcp_guarded.specs.Promises.{Takes}
use Rattle.rtcp_guarded.specs.Views.{GuardedValue, StandsAt, as_refused, reply_value}

-- ---- The course

pub goes_on : (h : GuardedHistory) (act : Act) → refusal_after (passed_at h) act ≡ None →
    course_with h.settings (course_at h) act ≡ course_at (with_told h act)
goes_on h act none = sym (ap (λ (r : Option Refusal). course_unless r h.settings (course_at h) act) none)

pub stays : (h : GuardedHistory) (act : Act) {reason : Refusal} → refusal_after (passed_at h) act ≡ Some reason →
    course_at h ≡ course_at (with_told h act)
stays h act is = sym (ap (λ (r : Option Refusal). course_unless r h.settings (course_at h) act) is)

pub at_course : {new : GuardedValue} (h : GuardedHistory) (act : Act) (course : Course) →
    course ≡ course_at (with_told h act) → IsAtHistory new.participant course.passed →
    new.guard ≡ guard_after h.settings course.steps → StandsAt new (with_told h act)
at_course {new} h act course is passed guard = record {
  participant = subst (λ (c : Course). IsAtHistory new.participant c.passed) is passed;
  guard = guard ∙ ap (λ (c : Course). guard_after h.settings c.steps) is;
}

-- ---- Answers

ok_taken : (r : Option Refusal) (step told : StepValue) → Ok step ≡ answer_unless r told → r ≡ None
ok_taken None step told is = refl
ok_taken (Some refusal) step told is = absurd cc

ok_step : (r : Option Refusal) (step told : StepValue) → Ok step ≡ answer_unless r told → step ≡ told
ok_step None step told is = cc
ok_step (Some refusal) step told is = absurd cc

pub err_refused : (r : Option Refusal) (reason : Refusal) (told : StepValue) → Err reason ≡ answer_unless r told →
    r ≡ Some reason
err_refused None reason told is = absurd cc
err_refused (Some refusal) reason told is = cc

pub answered : (h : GuardedHistory) (act : Act) (verdict : Verdict) → refusal_after (passed_at h) act ≡ None →
    verdict ≡ verdict_in h.settings (course_at h) act →
    answer_by verdict (step_by (passed_at h) act) ≡ guarded_answer h act
answered h act verdict none judged =
    ap (λ (v : Verdict). answer_by v (step_by (passed_at h) act)) judged
    ∙ sym (ap (λ (r : Option Refusal). guarded_unless r (verdict_in h.settings (course_at h) act)
    (step_by (passed_at h) act)) none)

-- The participant would take an act, on which this is the verdict.
abbrev pub Judges : GuardedValue → Act → Verdict → Type 0
Judges old act verdict = (h : GuardedHistory) → StandsAt old h →
    (refusal_after (passed_at h) act ≡ None) × (verdict ≡ verdict_in h.settings (course_at h) act)

-- The guard is told of an act.
abbrev pub GuardLearns : (old new : GuardedValue) → Act → Type 0
GuardLearns old new act = (h : GuardedHistory) → StandsAt old h →
    new.guard ≡ guard_after h.settings (steps_with (course_at h) act)

pub refused : {old new : GuardedValue} (act : Act) (reason : Refusal) → new ≡ old →
    ((h : GuardedHistory) → StandsAt old h → refusal_after (passed_at h) act ≡ Some reason) →
    Takes old act (Err (Refused reason)) new
refused {old} {new} act reason same is = record {
  answer = λ h stands. sym (ap (λ (r : Option Refusal). guarded_unless r (verdict_in h.settings (course_at h) act)
      (step_by (passed_at h) act)) (is h stands));
  stands = λ h stands. subst (λ (g : GuardedValue). StandsAt g (with_told h act)) (sym same)
      (at_course h act (course_at h) (stays h act (is h stands)) stands.participant stands.guard);
  not_too_late = λ h stands. tt;
}

stops : (verdict : Verdict) (reason : Reason) (history : History) (act : Act) → reason_for verdict ≡ Some reason →
    passed_on verdict history act ≡ history
stops Pass reason history act is = absurd cc
stops Stranger reason history act is = refl
stops Crowd reason history act is = refl

-- What the guard holds back leaves the participant as it was.
pub held : {old new : GuardedValue} (act : Act) (verdict : Verdict) (reason : Reason) →
    reason_for verdict ≡ Some reason → new.participant ≡ old.participant → Judges old act verdict →
    GuardLearns old new act → Takes old act (Err (HeldBack reason)) new
held {old} {new} act verdict reason is same judges learns = record {
  answer = λ h stands.
      sym (ap (λ (r : Option Reason). answer_unless_held r (step_by (passed_at h) act)) is)
      ∙ answered h act verdict (judges h stands).0 (judges h stands).1;
  stands = λ h stands.
      let passed : passed_at h ≡ (course_with h.settings (course_at h) act).passed =
      sym (stops verdict reason (passed_at h) act is)
      ∙ ap (λ (v : Verdict). passed_on v (passed_at h) act) (judges h stands).1 in
      at_course h act (course_with h.settings (course_at h) act) (goes_on h act (judges h stands).0)
      (subst (λ (p : ParticipantValue). IsAtHistory p (course_with h.settings (course_at h) act).passed) (sym same)
      (subst (IsAtHistory old.participant) passed stands.participant))
      (learns h stands);
  not_too_late = λ h stands. tt;
}

pub unheld : (verdict : Verdict) → reason_for verdict ≡ None → Pass ≡ verdict
unheld Pass is = refl
unheld Stranger is = absurd cc
unheld Crowd is = absurd cc

-- ---- What passes

-- The guard is told of what the participant takes, and of nothing that it refuses.
abbrev pub GuardGoes : (old new : GuardedValue) → Act → Result WrittenStep Refusal → Type 0
GuardGoes old new act (Ok step) = GuardLearns old new act
GuardGoes old new act (Err refusal) = new.guard ≡ old.guard

-- what is taken after a history
abbrev pub Passes : GuardedValue → Act → Type 0
Passes old act = (h : GuardedHistory) → StandsAt old h → Pass ≡ verdict_in h.settings (course_at h) act

pub passes : {old new : GuardedValue} (octets : List ℕ) (act : Act) (reply : Result WrittenStep Refusal) →
    ParticipantTakes old.participant act (participant_reply octets reply) new.participant → Passes old act →
    GuardGoes old new act reply → Takes old act (reply_value octets (as_refused reply)) new
passes {old} {new} octets act (Ok step) takes pass learns = record {
  answer = λ h stands. ap Ok (ok_step _ _ _ (takes.answer (passed_at h) stands.participant))
      ∙ answered h act Pass (none h stands) (pass h stands);
  stands = λ h stands.
      let taken : followed_by (passed_at h) act ≡ (course_with h.settings (course_at h) act).passed =
      ap (λ (r : Option Refusal). elim r [ None ↦ with_act (passed_at h) act | Some other ↦ passed_at h ])
      (none h stands) ∙ ap (λ (v : Verdict). passed_on v (passed_at h) act) (pass h stands) in
      at_course h act (course_with h.settings (course_at h) act) (goes_on h act (none h stands))
      (subst (IsAtHistory new.participant) taken (takes.stands (passed_at h) stands.participant)) (learns h stands);
  not_too_late = λ h stands. takes.not_too_late (passed_at h) stands.participant;
}
  where
    none : (h : GuardedHistory) → StandsAt old h → refusal_after (passed_at h) act ≡ None
    none h stands = ok_taken _ _ _ (takes.answer (passed_at h) stands.participant)
passes {old} {new} octets act (Err refusal) takes pass same = record {
  answer = λ h stands. sym (ap (λ (r : Option Refusal). guarded_unless r (verdict_in h.settings (course_at h) act)
      (step_by (passed_at h) act)) (is h stands));
  stands = λ h stands.
      let refused_by : followed_by (passed_at h) act ≡ passed_at h =
      ap (λ (r : Option Refusal). elim r [ None ↦ with_act (passed_at h) act | Some other ↦ passed_at h ])
      (is h stands) in
      at_course h act (course_at h) (stays h act (is h stands))
      (subst (IsAtHistory new.participant) refused_by (takes.stands (passed_at h) stands.participant))
      (same ∙ stands.guard);
  not_too_late = λ h stands. tt;
}
  where
    is : (h : GuardedHistory) → StandsAt old h → refusal_after (passed_at h) act ≡ Some refusal
    is h stands = err_refused _ _ _ (takes.answer (passed_at h) stands.participant)

-- ---- The calls

-- a call that the guard does not see
pub passes_by : {old new : GuardedValue} (octets : List ℕ) (act : Act) (reply : Result WrittenStep Refusal) →
    ((settings : Settings) (course : Course) → (Pass ≡ verdict_in settings course act)
    × (steps_with course act ≡ course.steps)) → new.guard ≡ old.guard →
    ParticipantTakes old.participant act (participant_reply octets reply) new.participant →
    Takes old act (reply_value octets (as_refused reply)) new
passes_by {old} {new} octets act (Ok step) unseen same takes = passes octets act (Ok step) takes
    (λ h stands. (unseen h.settings (course_at h)).0)
    (λ h stands. same ∙ stands.guard
    ∙ ap (guard_after h.settings) (sym (unseen h.settings (course_at h)).1))
passes_by {old} {new} octets act (Err refusal) unseen same takes = passes octets act (Err refusal) takes
    (λ h stands. (unseen h.settings (course_at h)).0) same
