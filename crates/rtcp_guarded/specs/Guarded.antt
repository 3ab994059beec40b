-- A participant behind a guard (RFC 3550, 8.2): what it is told, what of that the guard passes on, and what is
-- answered. Lists are newest first.
use Rattle.std.specs.Prelude.{ℕ, ◌/◌, ◌^◌, List, [], ◌∷◌, Option, Some, None, Result, Ok, Err}
use Rattle.rtcp_guard.specs.Guarding.{GuardStep, datagram_came, check_made, source_expected, origin_trusted, GuardValue, verdict_on}
use Rattle.rtcp_guard.specs.Histories.{guard_after}
use Rattle.rtcp_guard.specs.Naming.{goodbye_of_compound, names_of_compound, names_of_packet}
use Rattle.rtcp_guard.specs.declared.settings.Settings.{Settings}
use Rattle.rtcp_guard.specs.declared.verdict.Verdict.{Verdict}
use Rattle.rtcp_guard.specs.declared.verdict.Verdict.TheVariants.{Pass, Stranger, Crowd}
use Rattle.rtcp_engine.specs.declared.refusal.Refusal.{Refusal}
use Rattle.rtcp_engine.specs.answers.Acts.{Act, Datagram, rtcp, rtp, arrived, ticked, StepValue}
use Rattle.rtcp_engine.specs.answers.Answers.{step_by, refusal_after}
use Rattle.rtcp_engine.specs.answers.Histories.{History, life_at, session_at, session_for, setup_at, with_act}
use Rattle.rtcp_engine.specs.answers.Lives.{silent_in_life}
use Rattle.rtcp_engine.specs.answers.Setups.{Setup}
use Rattle.rtcp_engine.specs.bounds.Runs.{IsAnsweredInTime}
use Rattle.rtcp_engine.specs.state.Taken.{begun}
use Rattle.rtcp_guarded.specs.declared.untaken.Reason.{Reason}
use Rattle.rtcp_guarded.specs.declared.untaken.Reason.TheVariants.{Stranger as OfAnother, Crowd as TooMany}
use Rattle.rtcp_guarded.specs.declared.untaken.Untaken.{Untaken}
use Rattle.rtcp_guarded.specs.declared.untaken.Untaken.TheVariants.{Refused, HeldBack}

-- ---- Histories

pub data GuardedAct : Type 0 where
  -- what a participant is told
  told : Act → GuardedAct
  -- the host says at a moment that it expects a source at an origin
  expected : (ssrc origin moment : ℕ) → GuardedAct
  -- the host trusts an origin
  trusted : (origin : ℕ) → GuardedAct

-- A session so far.
pub record GuardedHistory : Type 0 where
  -- of the guard
  pub settings : Settings
  pub setup : Setup
  -- the random word that the participant started with
  pub word : ℕ
  -- all that was told, what was refused and held back included
  pub acts : List GuardedAct

abbrev pub with_guarded : GuardedHistory → GuardedAct → GuardedHistory
with_guarded history act = record history { acts = act ∷ history.acts }

abbrev pub with_told : GuardedHistory → Act → GuardedHistory
with_told history act = with_guarded history (told act)

-- ---- What a datagram names

-- A peer is numbered by its address and its port, which has 16 bits. Its origin is its address.
abbrev pub origin_of : (peer : ℕ) → ℕ
origin_of peer = peer / 2 ^ 16

-- the sources that a datagram names, but the participant's own SSRC
abbrev pub names_in : (own : ℕ) → Datagram → List ℕ
names_in own (rtcp size (Ok packets)) = names_of_compound own packets
names_in own (rtcp size (Err fault)) = []
names_in own (rtp (Ok head)) = names_of_packet own head
names_in own (rtp (Err fault)) = []

-- the source of which a datagram says BYE first, but the participant's own SSRC
abbrev pub goodbye_in : (own : ℕ) → Datagram → Option ℕ
goodbye_in own (rtcp size (Ok packets)) = goodbye_of_compound own packets
goodbye_in own (rtcp size (Err fault)) = None
goodbye_in own (rtp reading) = None

-- both under the SSRC under which an act is taken
abbrev pub names_for : History → Act → Datagram → List ℕ
names_for history act datagram = names_in (session_for (session_at history) act).setup.ssrc datagram

abbrev pub goodbye_for : History → Act → Datagram → Option ℕ
goodbye_for history act datagram = goodbye_in (session_for (session_at history) act).setup.ssrc datagram

-- ---- What came of a history

pub record Course : Type 0 where
  -- the steps of the guard
  pub steps : List GuardStep
  -- of the participant: the acts that were passed on and taken
  pub passed : History

-- The verdict on an act that the participant would take. Datagrams alone are judged.
abbrev pub verdict_in : Settings → Course → Act → Verdict
verdict_in settings course (arrived moment peer word datagram) =
    verdict_on (origin_of peer) moment (names_for course.passed (arrived moment peer word datagram) datagram)
    (goodbye_for course.passed (arrived moment peer word datagram) datagram) (guard_after settings course.steps)
verdict_in settings course act = Pass

-- The guard is told of datagrams, and makes a check with each tick, by the horizon of that: no source is dropped from
-- the table whose claim lapses later.
abbrev pub steps_with : Course → Act → List GuardStep
steps_with course (arrived moment peer word datagram) =
    datagram_came (origin_of peer) moment (names_for course.passed (arrived moment peer word datagram) datagram)
    (goodbye_for course.passed (arrived moment peer word datagram) datagram)
    ∷ course.steps
steps_with course (ticked moment first_word second_word) =
    check_made moment (silent_in_life (setup_at course.passed) moment (life_at course.passed)) ∷ course.steps
steps_with course act = course.steps

-- Only what passes is told the participant. What is held back is no call of it: it keeps neither the moment nor a
-- count, as a session has at most 2^40 calls, and a stranger is to use up none of them.
abbrev pub passed_on : Verdict → History → Act → History
passed_on Pass history act = with_act history act
passed_on Stranger history act = history
passed_on Crowd history act = history

abbrev pub course_with : Settings → Course → Act → Course
course_with settings course act =
    record { steps = steps_with course act; passed = passed_on (verdict_in settings course act) course.passed act }

-- What the participant would refuse in any case changes nothing, and the guard learns nothing from it.
abbrev pub course_unless : Option Refusal → Settings → Course → Act → Course
course_unless None settings course act = course_with settings course act
course_unless (Some refusal) settings course act = course

abbrev pub course_after : Settings → GuardedAct → Course → Course
course_after settings (told act) course = course_unless (refusal_after course.passed act) settings course act
course_after settings (expected ssrc origin moment) course =
    record course { steps = source_expected ssrc origin moment ∷ course.steps }
course_after settings (trusted origin) course = record course { steps = origin_trusted origin ∷ course.steps }

abbrev pub course_of : Settings → Setup → (word : ℕ) → List GuardedAct → Course
course_of settings setup word [] = record { steps = []; passed = begun setup word }
course_of settings setup word (act ∷ earlier) = course_after settings act (course_of settings setup word earlier)

abbrev pub course_at : GuardedHistory → Course
course_at history = course_of history.settings history.setup history.word history.acts

-- what the guard passed on, and the participant took
abbrev pub passed_at : GuardedHistory → History
passed_at history = (course_at history).passed

abbrev pub guard_at : GuardedHistory → GuardValue
guard_at history = guard_after history.settings (course_at history).steps

-- ---- Answers

abbrev pub GuardedAnswer : Type 0
GuardedAnswer = Result StepValue Untaken

-- why a datagram is held back, if it is
abbrev pub reason_for : Verdict → Option Reason
reason_for Pass = None
reason_for Stranger = Some OfAnother
reason_for Crowd = Some TooMany

abbrev pub answer_unless_held : Option Reason → StepValue → GuardedAnswer
answer_unless_held None step = Ok step
answer_unless_held (Some reason) step = Err (HeldBack reason)

abbrev pub answer_by : Verdict → StepValue → GuardedAnswer
answer_by verdict step = answer_unless_held (reason_for verdict) step

abbrev pub guarded_unless : Option Refusal → Verdict → StepValue → GuardedAnswer
guarded_unless None verdict step = answer_by verdict step
guarded_unless (Some refusal) verdict step = Err (Refused refusal)

-- A tick that comes late, and is taken, is answered with a compound.
abbrev pub IsTakenInTime : GuardedHistory → Act → GuardedAnswer → Type 0
IsTakenInTime history act (Ok step) = IsAnsweredInTime (passed_at history) act (Ok step)
IsTakenInTime history act (Err untaken) = Unit {0}

-- What is answered to an act after a history: the refusal of the participant, why the guard holds the act back, or
-- else what the participant answers to it after all that was passed on.
abbrev pub guarded_answer : GuardedHistory → Act → GuardedAnswer
guarded_answer history act =
    let course = course_at history in
    guarded_unless (refusal_after course.passed act) (verdict_in history.settings course act)
    (step_by course.passed act)
