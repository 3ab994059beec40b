-- What is held back changes nothing but what the guard counts.
use Rattle.std.proofs.Common.{◌≡◌, ℕ, true, false, List, [], ◌∷◌, if◌then◌else◌, Option, Some, None, refl, sym, ap, ◌∙◌, subst}
use Rattle.rtcp_guard.specs.Guarding.{GuardStep, datagram_came, check_made, source_expected, origin_trusted, GuardValue, after, after_verdict, may_have, nothing_held_back, verdict_on}
use Rattle.rtcp_guard.specs.Claims.{with_name}
use Rattle.rtcp_guard.specs.Histories.{guard_after}
use Rattle.rtcp_guard.specs.declared.settings.Settings.{Settings}
use Rattle.rtcp_guard.specs.declared.verdict.Verdict.{Verdict}
use Rattle.rtcp_guard.specs.declared.verdict.Verdict.TheVariants.{Pass, Stranger, Crowd}
use Rattle.rtcp_engine.specs.declared.refusal.Refusal.{Refusal}
use Rattle.rtcp_engine.specs.answers.Acts.{Act, arrived, rtp_sent, ticked, left, configured, forgotten}
use Rattle.rtcp_engine.specs.answers.Answers.{step_by, refusal_after}
use Rattle.rtcp_engine.specs.answers.Histories.{History}
use Rattle.rtcp_guarded.specs.Claimed.{IsHeldBack, followed}
use Rattle.rtcp_guarded.specs.Guarded.{Course, GuardedAct, GuardedHistory, told, expected, trusted, course_after, course_at, course_unless, course_with, goodbye_for, guarded_answer, guarded_unless, names_for, origin_of, passed_at, passed_on, steps_with, verdict_in, with_told}

-- ---- Guards that differ only in what they counted

abbrev bare : GuardValue → GuardValue
bare guard = record guard { held_back = nothing_held_back }

bare_after : (step : GuardStep) (guard : GuardValue) → bare (after step guard) ≡ bare (after step (bare guard))
bare_after (datagram_came origin moment names goodbye) guard = refl
bare_after (check_made moment silent) guard = refl
bare_after (source_expected ssrc origin moment) guard = elim (may_have ssrc origin moment guard) as (λ m.
    bare (if m then record guard { claims = with_name origin moment ssrc guard.claims } else guard) ≡ bare
    (if m then record (bare guard) { claims = with_name origin moment ssrc guard.claims } else bare guard)) [
      | true ↦ refl
      | false ↦ refl
    ]
bare_after (origin_trusted origin) guard = refl

module _ (settings : Settings) where
  abbrev Same : (one other : List GuardStep) → Type 0
  Same one other = bare (guard_after settings one) ≡ bare (guard_after settings other)

  same_after : (step : GuardStep) (one other : List GuardStep) → Same one other → Same (step ∷ one) (step ∷ other)
  same_after step one other same = bare_after step (guard_after settings one)
      ∙ ap (λ (guard : GuardValue). bare (after step guard)) same
      ∙ sym (bare_after step (guard_after settings other))

  same_verdict : (origin moment : ℕ) (names : List ℕ) (goodbye : Option ℕ) (one other : List GuardStep) →
      Same one other →
      verdict_on origin moment names goodbye (guard_after settings one) ≡ verdict_on origin moment names goodbye
      (guard_after settings other)
  same_verdict origin moment names goodbye one other same = ap (verdict_on origin moment names goodbye) same

  -- ---- Courses

  record Similar (one other : Course) : Type 0 where
    passed : one.passed ≡ other.passed
    steps : Same one.steps other.steps

  abbrev of_steps : List GuardStep → History → Course
  of_steps steps passed = record { steps = steps; passed = passed }

  verdicts : (act : Act) (passed : History) (one other : List GuardStep) → Same one other →
      verdict_in settings (of_steps one passed) act ≡ verdict_in settings (of_steps other passed) act
  verdicts (arrived moment peer word datagram) passed one other same = same_verdict (origin_of peer) moment
      (names_for passed (arrived moment peer word datagram) datagram)
      (goodbye_for passed (arrived moment peer word datagram) datagram) one other same
  verdicts (rtp_sent moment timestamp octets) passed one other same = refl
  verdicts (ticked moment first second) passed one other same = refl
  verdicts (left moment word) passed one other same = refl
  verdicts (configured moment given) passed one other same = refl
  verdicts (forgotten moment ssrc) passed one other same = refl

  steps_similar : (act : Act) (passed : History) (one other : List GuardStep) → Same one other →
      Same (steps_with (of_steps one passed) act) (steps_with (of_steps other passed) act)
  steps_similar (arrived moment peer word datagram) passed one other same = same_after
      (datagram_came (origin_of peer) moment (names_for passed (arrived moment peer word datagram) datagram)
      (goodbye_for passed (arrived moment peer word datagram) datagram)) one other
      same
  steps_similar (ticked moment first second) passed one other same = same_after (check_made moment _) one other same
  steps_similar (rtp_sent moment timestamp octets) passed one other same = same
  steps_similar (left moment word) passed one other same = same
  steps_similar (configured moment given) passed one other same = same
  steps_similar (forgotten moment ssrc) passed one other same = same

  unless_similar : (refusal : Option Refusal) (act : Act) (passed : History) (one other : List GuardStep) →
      Same one other → Similar (course_unless refusal settings (of_steps one passed) act)
      (course_unless refusal settings (of_steps other passed) act)
  unless_similar None act passed one other same = record {
    passed = ap (λ (v : Verdict). passed_on v passed act) (verdicts act passed one other same);
    steps = steps_similar act passed one other same;
  }
  unless_similar (Some refusal) act passed one other same = record { passed = refl; steps = same }

  after_similar : (act : GuardedAct) (passed : History) (one other : List GuardStep) → Same one other →
      Similar (course_after settings act (of_steps one passed)) (course_after settings act (of_steps other passed))
  after_similar (told act) passed one other same = unless_similar (refusal_after passed act) act passed one other same
  after_similar (expected ssrc origin moment) passed one other same =
      record { passed = refl; steps = same_after (source_expected ssrc origin moment) one other same }
  after_similar (trusted origin) passed one other same =
      record { passed = refl; steps = same_after (origin_trusted origin) one other same }

  next_similar : (act : GuardedAct) (one other : Course) → Similar one other →
      Similar (course_after settings act one) (course_after settings act other)
  next_similar act one other similar = subst (λ (passed : History).
      Similar (course_after settings act one) (course_after settings act (of_steps other.steps passed)))
      similar.passed (after_similar act one.passed one.steps other.steps similar.steps)

  answers_similar : (act : Act) (one other : Course) → Similar one other →
      guarded_unless (refusal_after one.passed act) (verdict_in settings one act) (step_by one.passed act)
      ≡ guarded_unless (refusal_after other.passed act) (verdict_in settings other act) (step_by other.passed act)
  answers_similar act one other similar = subst (λ (passed : History).
      guarded_unless (refusal_after one.passed act) (verdict_in settings one act) (step_by one.passed act)
      ≡ guarded_unless (refusal_after passed act) (verdict_in settings (of_steps other.steps passed) act)
      (step_by passed act)) similar.passed
      (ap (λ (v : Verdict). guarded_unless (refusal_after one.passed act) v (step_by one.passed act))
      (verdicts act one.passed one.steps other.steps similar.steps))

  -- ---- What is held back

  stopped : (verdict : Verdict) (origin moment : ℕ) (names : List ℕ) (goodbye : Option ℕ) (guard : GuardValue) →
      (verdict ≡ Pass → ⊥) →
      verdict_on origin moment names goodbye guard ≡ verdict →
      bare (after (datagram_came origin moment names goodbye) guard) ≡ bare guard
  stopped Pass origin moment names goodbye guard stops is = absurd (stops refl)
  stopped Stranger origin moment names goodbye guard stops is =
      ap (λ (v : Verdict). bare (after_verdict origin moment names goodbye v guard)) is
  stopped Crowd origin moment names goodbye guard stops is =
      ap (λ (v : Verdict). bare (after_verdict origin moment names goodbye v guard)) is

  history_stopped : (verdict : Verdict) (history : History) (act : Act) → (verdict ≡ Pass → ⊥) →
      passed_on verdict history act ≡ history
  history_stopped Pass history act stops = absurd (stops refl)
  history_stopped Stranger history act stops = refl
  history_stopped Crowd history act stops = refl

  with_similar : (act : Act) (course : Course) → (verdict_in settings course act ≡ Pass → ⊥) →
      Similar (course_with settings course act) course
  with_similar (arrived moment peer word datagram) course stops = record {
    passed = history_stopped (verdict_in settings course (arrived moment peer word datagram)) course.passed
        (arrived moment peer word datagram) stops;
    steps = stopped (verdict_in settings course (arrived moment peer word datagram)) (origin_of peer) moment
        (names_for course.passed (arrived moment peer word datagram) datagram)
        (goodbye_for course.passed (arrived moment peer word datagram) datagram) (guard_after settings course.steps)
        stops refl;
  }
  with_similar (rtp_sent moment timestamp octets) course stops = absurd (stops refl)
  with_similar (ticked moment first second) course stops = absurd (stops refl)
  with_similar (left moment word) course stops = absurd (stops refl)
  with_similar (configured moment given) course stops = absurd (stops refl)
  with_similar (forgotten moment ssrc) course stops = absurd (stops refl)

similar : (older : GuardedHistory) (act : Act) (newer : List GuardedAct) → IsHeldBack older act →
    Similar older.settings (course_at (followed (with_told older act) newer)) (course_at (followed older newer))
similar older act [] held = subst (λ (course : Course). Similar older.settings course (course_at older))
    (sym (ap (λ (r : Option Refusal). course_unless r older.settings (course_at older) act) held.0))
    (with_similar older.settings act (course_at older) held.1)
similar older act (next ∷ newer) held = next_similar older.settings next
    (course_at (followed (with_told older act) newer)) (course_at (followed older newer)) (similar older act newer held)

pub held_back_passed : (older : GuardedHistory) (act : Act) (newer : List GuardedAct) → IsHeldBack older act →
    passed_at (followed (with_told older act) newer) ≡ passed_at (followed older newer)
held_back_passed older act newer held = (similar older act newer held).passed

pub held_back_answers : (older : GuardedHistory) (act : Act) (newer : List GuardedAct) (next : Act) →
    IsHeldBack older act →
    guarded_answer (followed (with_told older act) newer) next ≡ guarded_answer (followed older newer) next
held_back_answers older act newer next held = answers_similar older.settings next
    (course_at (followed (with_told older act) newer)) (course_at (followed older newer)) (similar older act newer held)
