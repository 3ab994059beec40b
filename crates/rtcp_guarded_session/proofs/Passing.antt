-- Within a hold, the departures by datagrams of an origin are among the goodbyes that the guard passed on.
use Rattle.std.proofs.Common.{◌≡◌, ℕ, ◌+◌, ◌≤◌, ◌<◌, ◌^◌, ◌==◌, ◌&&◌, ◌++◌, nat_lt, nat_le, Bool, true, false, List, [], ◌∷◌, length, Option, Some, None, is_some, if◌then◌else◌, refl, sym, ap, ◌∙◌, subst, arith, le_refl}
use Rattle.std.proofs.lemmas.Bool.{le-ltb, ltb-false}
use Rattle.std.specs.Option.{option_or}
use Rattle.rtcp_engine.specs.declared.refusal.Refusal.{Refusal}
use Rattle.rtcp_engine.specs.declared.refusal.Refusal.TheVariants.{Backwards}
use Rattle.rtcp_engine.specs.answers.Setups.{Setup}
use Rattle.rtcp_engine.specs.answers.Acts.{Act, Datagram, arrived, rtp_sent, ticked, left, configured, forgotten, moment_of}
use Rattle.rtcp_engine.specs.answers.Leaving.{Life, present, backing_off, finished}
use Rattle.rtcp_engine.specs.answers.Histories.{History, last_moment, life_at, session_at, setup_at, with_act}
use Rattle.rtcp_engine.specs.answers.Lives.{silent_in_life}
use Rattle.rtcp_engine.specs.answers.Answers.{call_refusal, refusal_after, refusal_in, refusal_of_content}
use Rattle.rtcp_engine.specs.state.Taken.{AllTaken, IsHistory, NamesFew}
use Rattle.rtcp_guard.specs.declared.settings.Settings.{Settings}
use Rattle.rtcp_guard.specs.declared.verdict.Verdict.{Verdict}
use Rattle.rtcp_guard.specs.declared.verdict.Verdict.TheVariants.{Pass, Stranger, Crowd}
use Rattle.rtcp_guard.specs.Claims.{goodbye_among}
use Rattle.rtcp_guard.specs.Guarding.{GuardStep, datagram_came, check_made, source_expected, origin_trusted, limit_of}
use Rattle.rtcp_guard.specs.Histories.{AreWithinHold as StepsWithinHold, IsWithinHold, LosesNone as StepsLoseNone, guard_after, is_pass, is_passed, owner_of, passed_goodbyes}
use Rattle.rtcp_guarded.specs.Claimed.{AllNameFew, followed}
use Rattle.rtcp_guarded.specs.Guarded.{Course, GuardedAct, GuardedHistory, told, expected, trusted, course_after, course_at, course_unless, course_with, goodbye_for, guard_at, names_for, origin_of, passed_at, passed_on, steps_with, verdict_in}
use Rattle.rtcp_session.specs.Departures.{is_departure_after}
use Rattle.rtcp_guarded_session.specs.Goodbyes.{AreWithinHold, IsStretch, LosesNone, departures_by, departures_from, is_from}

-- ---- Counts of one act

abbrev as_count : Bool → ℕ
as_count b = if b then 1 else 0

-- What departs by a datagram says goodbye, and passes.
no_more : (departs lies same says passes : Bool) → (departs ≡ true → says ≡ true) → passes ≡ true →
    as_count (departs && lies && same) ≤ as_count (same && says && passes)
no_more true lies true says true speaks passed =
    subst (λ (b : Bool). as_count (lies && true) ≤ as_count (b && true)) (sym (speaks refl)) (at_most_one lies)
  where
    at_most_one : (b : Bool) → as_count (b && true) ≤ 1
    at_most_one true = le_refl 1
    at_most_one false = omega arith
no_more true true false says passes speaks passed = omega arith
no_more true false false says passes speaks passed = omega arith
no_more false lies same says passes speaks passed = omega arith
no_more departs lies same says false speaks passed = absurd cc

from_none : (counted : Bool) → as_count (counted && false) ≡ 0
from_none true = refl
from_none false = refl

-- ---- Earlier histories

before : (history : History) (act : Act) → IsHistory (with_act history act) → IsHistory history
before history act is = record { usable = is.usable; word = is.word; taken = is.taken.2 }

passed_before : (verdict : Verdict) (history : History) (act : Act) → IsHistory (passed_on verdict history act) →
    IsHistory history
passed_before Pass history act is = before history act is
passed_before Stranger history act is = is
passed_before Crowd history act is = is

unless_before : (refusal : Option Refusal) (settings : Settings) (course : Course) (act : Act) →
    IsHistory (course_unless refusal settings course act).passed → IsHistory course.passed
unless_before None settings course act is = passed_before (verdict_in settings course act) course.passed act is
unless_before (Some refusal) settings course act is = is

history_before : (settings : Settings) (act : GuardedAct) (course : Course) →
    IsHistory (course_after settings act course).passed → IsHistory course.passed
history_before settings (told act) course is = unless_before (refusal_after course.passed act) settings course act is
history_before settings (expected ssrc origin moment) course is = is
history_before settings (trusted origin) course is = is

few_of : (act : Act) (earlier : List GuardedAct) → AllNameFew (told act ∷ earlier) →
    AllNameFew (told act ∷ []) × AllNameFew earlier
few_of (arrived moment peer word datagram) earlier few = ((few.0, tt), few.1)
few_of (rtp_sent moment timestamp octets) earlier few = (tt, few)
few_of (ticked moment first_word second_word) earlier few = (tt, few)
few_of (left moment word) earlier few = (tt, few)
few_of (configured moment settings) earlier few = (tt, few)
few_of (forgotten moment ssrc) earlier few = (tt, few)

-- ---- Moments

-- An act that is taken does not lie before the last one.
call_taken : (life : Life) (call own : Option Refusal) → refusal_in life (option_or call own) ≡ None → call ≡ None
call_taken (present outcome) None own none = refl
call_taken (present outcome) (Some refusal) own none = absurd cc
call_taken (backing_off outcome backoff) None own none = refl
call_taken (backing_off outcome backoff) (Some refusal) own none = absurd cc
call_taken (finished outcome) call own none = absurd cc

in_order : (back : Bool) (others : Option Refusal) → (if back then Some Backwards else others) ≡ None → back ≡ false
in_order true others none = absurd cc
in_order false others none = refl

in_time : (history : History) (act : Act) → refusal_after history act ≡ None → last_moment history.acts ≤ moment_of act
in_time history act none =
    ltb-false (moment_of act) (last_moment history.acts)
    (in_order (nat_lt (moment_of act) (last_moment history.acts)) _
    (call_taken (session_at history).life
    (call_refusal (moment_of act) (last_moment history.acts) (length history.acts))
    (refusal_of_content (session_at history) act) none))

-- What lies by the first moment does not count.
module _ (test : Act → Bool) (setup : Setup) (word from until : ℕ) where
  none_by_then : (acts : List Act) → AllTaken setup word acts → last_moment acts ≤ from →
      departures_by test setup word from until acts ≤ 0
  none_by_then [] taken past = le_refl 0
  none_by_then (act ∷ earlier) taken past =
      let history : History = record { setup = setup; word = word; acts = earlier } in
      let order = in_time history act taken.0 in
      let rest = none_by_then earlier taken.2 (omega (arith, past, order)) in
      let here = by (is_departure_after history act) (nat_le (moment_of act) until) (test act)
      (nat_lt from (moment_of act)) (le-ltb from (moment_of act) past) in
      omega (arith, rest, here)
    where
      by : (departs ends passes begins : Bool) → begins ≡ false →
          as_count (departs && (begins && ends) && passes) ≤ 0
      by departs ends passes true is = absurd cc
      by true ends passes false is = le_refl 0
      by false ends passes false is = le_refl 0

-- ---- Steps

module _
    (goodbye_is_said : (history : History) (moment peer word : ℕ) (datagram : Datagram) → IsHistory history →
    word < 2 ^ 32 → NamesFew datagram → let act = arrived moment peer word datagram in
    is_departure_after history act ≡ true →
    is_some (goodbye_among (names_for history act datagram) (goodbye_for history act datagram)) ≡ true)
    (origin from until : ℕ) (older : GuardedHistory)
  where
    abbrev settings : Settings
    settings = older.settings

    abbrev older_steps : List GuardStep
    older_steps = (course_at older).steps

    abbrev said : History → ℕ
    said history = departures_from origin from until history

    -- What the guard did since, and the goodbyes in that.
    record Brought (course : Course) : Type 0 where
      steps : List GuardStep
      its_steps : course.steps ≡ steps ++ older_steps
      within : StepsWithinHold settings.hold from steps
      loses : StepsLoseNone settings origin steps older_steps
      few : said course.passed ≤ passed_goodbyes settings origin steps older_steps + said (passed_at older)

    abbrev came : (passed : History) → (moment peer word : ℕ) → Datagram → GuardStep
    came passed moment peer word datagram =
        let act = arrived moment peer word datagram in
        datagram_came (origin_of peer) moment (names_for passed act datagram) (goodbye_for passed act datagram)

    -- a datagram that is passed on
    passes_on : (course : Course) (moment peer word : ℕ) (datagram : Datagram) → (b : Brought course) →
        let act = arrived moment peer word datagram in verdict_in settings course act ≡ Pass →
        IsHistory (with_act course.passed act) → NamesFew datagram →
        said (with_act course.passed act)
        ≤ passed_goodbyes settings origin (came course.passed moment peer word datagram ∷ b.steps) older_steps
        + said (passed_at older)
    passes_on course moment peer word datagram b passes is few =
        let act = arrived moment peer word datagram in
        let names = names_for course.passed act datagram in
        let goodbye = goodbye_for course.passed act datagram in
        let IsPassed : List GuardStep → Type 0 =
        λ (steps : List GuardStep). is_passed settings (origin_of peer) moment names goodbye steps ≡ true in
        let passed : IsPassed (b.steps ++ older_steps) = subst IsPassed b.its_steps (ap is_pass passes) in
        let here = no_more (is_departure_after course.passed act) (nat_lt from moment && nat_le moment until)
        (origin_of peer == origin) (is_some (goodbye_among names goodbye))
        (is_passed settings (origin_of peer) moment names goodbye (b.steps ++ older_steps))
        (goodbye_is_said course.passed moment peer word datagram (before course.passed act is) is.taken.1 few)
        passed in
        let rest = b.few in
        omega (arith, here, rest)

    arrived_brings : (course : Course) (moment peer word : ℕ) (datagram : Datagram) → Brought course →
        NamesFew datagram → IsWithinHold settings.hold from moment → (verdict : Verdict) →
        let act = arrived moment peer word datagram in verdict_in settings course act ≡ verdict →
        IsHistory (passed_on verdict course.passed act) →
        Brought (record { steps = steps_with course act; passed = passed_on verdict course.passed act })
    arrived_brings course moment peer word datagram b few within verdict passes is =
        let act = arrived moment peer word datagram in
        let step = came course.passed moment peer word datagram in
        record {
          steps = step ∷ b.steps;
          its_steps = ap (λ (s : List GuardStep). step ∷ s) b.its_steps;
          within = (within, b.within);
          loses = b.loses;
          few = by verdict passes is;
        }
      where
        by : (verdict : Verdict) → let act = arrived moment peer word datagram in
            verdict_in settings course act ≡ verdict → IsHistory (passed_on verdict course.passed act) →
            said (passed_on verdict course.passed act)
            ≤ passed_goodbyes settings origin (came course.passed moment peer word datagram ∷ b.steps) older_steps
            + said (passed_at older)
        by Pass passes is = passes_on course moment peer word datagram b passes is few
        by Stranger passes is = (let rest = b.few in omega (arith, rest))
        by Crowd passes is = (let rest = b.few in omega (arith, rest))

    -- An act that comes from nowhere is no goodbye.
    more_by : (act : Act) → is_from origin act ≡ false → (course : Course) → (steps : List GuardStep) →
        said course.passed ≤ passed_goodbyes settings origin steps older_steps + said (passed_at older) →
        said (with_act course.passed act)
        ≤ passed_goodbyes settings origin steps older_steps + said (passed_at older)
    more_by act elsewhere course steps few =
        let counted =
        is_departure_after course.passed act && (nat_lt from (moment_of act) && nat_le (moment_of act) until) in
        let here : as_count (counted && is_from origin act) ≡ 0 =
        ap (λ (b : Bool). as_count (counted && b)) elsewhere ∙ from_none counted in
        omega (arith, here, few)

    silent_brings : (act : Act) → is_from origin act ≡ false → (course : Course) → Brought course →
        Brought (record { steps = course.steps; passed = with_act course.passed act })
    silent_brings act elsewhere course b = record {
      steps = b.steps;
      its_steps = b.its_steps;
      within = b.within;
      loses = b.loses;
      few = more_by act elsewhere course b.steps b.few;
    }

    ticked_brings : (course : Course) (moment first_word second_word : ℕ) → Brought course →
        IsWithinHold settings.hold from moment →
        Brought (course_with settings course (ticked moment first_word second_word))
    ticked_brings course moment first_word second_word b within =
        let step = check_made moment (silent_in_life (setup_at course.passed) moment (life_at course.passed)) in
        record {
          steps = step ∷ b.steps;
          its_steps = ap (λ (s : List GuardStep). step ∷ s) b.its_steps;
          within = (within, b.within);
          loses = b.loses;
          few = more_by (ticked moment first_word second_word) refl course (step ∷ b.steps)
              (let rest = b.few in omega (arith, rest));
        }

    act_brings : (course : Course) (act : Act) → Brought course → AllNameFew (told act ∷ []) →
        IsWithinHold settings.hold from (moment_of act) → IsHistory (course_with settings course act).passed →
        Brought (course_with settings course act)
    act_brings course (arrived moment peer word datagram) b few within is =
        arrived_brings course moment peer word datagram b few.0 within
        (verdict_in settings course (arrived moment peer word datagram)) refl is
    act_brings course (rtp_sent moment timestamp octets) b few within is =
        silent_brings (rtp_sent moment timestamp octets) refl course b
    act_brings course (ticked moment first_word second_word) b few within is =
        ticked_brings course moment first_word second_word b within
    act_brings course (left moment word) b few within is = silent_brings (left moment word) refl course b
    act_brings course (configured moment given) b few within is =
        silent_brings (configured moment given) refl course b
    act_brings course (forgotten moment ssrc) b few within is =
        silent_brings (forgotten moment ssrc) refl course b

    unless_brings : (course : Course) (act : Act) → Brought course → AllNameFew (told act ∷ []) →
        (refusal : Option Refusal) → (refusal ≡ None → IsWithinHold settings.hold from (moment_of act)) →
        IsHistory (course_unless refusal settings course act).passed →
        Brought (course_unless refusal settings course act)
    unless_brings course act b few None within is = act_brings course act b few (within refl) is
    unless_brings course act b few (Some refusal) within is = b

    expected_brings : (course : Course) (ssrc other moment : ℕ) → Brought course →
        IsWithinHold settings.hold from moment →
        (owner_of settings ssrc course.steps ≡ Some origin → other ≡ origin) →
        Brought (course_after settings (expected ssrc other moment) course)
    expected_brings course ssrc other moment b within keeps =
        let step = source_expected ssrc other moment in
        record {
          steps = step ∷ b.steps;
          its_steps = ap (λ (s : List GuardStep). step ∷ s) b.its_steps;
          within = (within, b.within);
          loses = (
            subst (λ (s : List GuardStep). owner_of settings ssrc s ≡ Some origin → other ≡ origin) b.its_steps keeps,
            b.loses,
          );
          few = (let rest = b.few in omega (arith, rest));
        }

    trusted_brings : (course : Course) (other : ℕ) → Brought course →
        Brought (course_after settings (trusted other) course)
    trusted_brings course other b =
        let step = origin_trusted other in
        record {
          steps = step ∷ b.steps;
          its_steps = ap (λ (s : List GuardStep). step ∷ s) b.its_steps;
          within = b.within;
          loses = b.loses;
          few = (let rest = b.few in omega (arith, rest));
        }

    all_brought : (newer : List GuardedAct) → IsHistory (passed_at (followed older newer)) →
        AllNameFew newer → AreWithinHold from newer older → LosesNone origin newer older →
        Brought (course_at (followed older newer))
    all_brought [] is few within loses =
        record { steps = []; its_steps = refl; within = tt; loses = tt; few = omega arith }
    all_brought (told act ∷ newer) is few within loses =
        let course = course_at (followed older newer) in
        let parts = few_of act newer few in
        unless_brings course act
        (all_brought newer (history_before settings (told act) course is) parts.1 within.1 loses) parts.0
        (refusal_after course.passed act) within.0 is
    all_brought (expected ssrc other moment ∷ newer) is few within loses =
        expected_brings (course_at (followed older newer)) ssrc other moment
        (all_brought newer is few within.1 loses.1) within.0 loses.0
    all_brought (trusted other ∷ newer) is few within loses =
        trusted_brings (course_at (followed older newer)) other (all_brought newer is few within loses)

    history_then : (newer : List GuardedAct) → IsHistory (passed_at (followed older newer)) →
        IsHistory (passed_at older)
    history_then [] is = is
    history_then (act ∷ newer) is =
        history_then newer (history_before settings act (course_at (followed older newer)) is)

    module _
        (few_pass : (settings : Settings) (origin first : ℕ) (newer older : List GuardStep) →
        StepsWithinHold settings.hold first newer → StepsLoseNone settings origin newer older →
        passed_goodbyes settings origin newer older
        ≤ limit_of origin settings (guard_after settings (newer ++ older)).trusted)
      where
        pub few_are_said : (newer : List GuardedAct) → IsStretch from newer older → LosesNone origin newer older →
            departures_from origin from until (passed_at (followed older newer))
            ≤ limit_of origin older.settings (guard_at (followed older newer)).trusted
        few_are_said newer stretch loses =
            let b = all_brought newer stretch.passed stretch.few stretch.within loses in
            let few = subst (λ (s : List GuardStep). passed_goodbyes settings origin b.steps older_steps
            ≤ limit_of origin settings (guard_after settings s).trusted) (sym b.its_steps)
            (few_pass settings origin from b.steps older_steps b.within b.loses) in
            let began = history_then newer stretch.passed in
            let none = none_by_then (is_from origin) (passed_at older).setup (passed_at older).word from until
            (passed_at older).acts began.taken stretch.begins in
            let all = b.few in
            omega (arith, few, none, all)
