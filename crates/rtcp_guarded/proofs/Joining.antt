-- The steps of the guard and of the participant's table, side by side, as a history makes them.
use Rattle.std.proofs.Common.{◌≡◌, ◌≤◌, ◌<◌, ◌^◌, ℕ, ◌==◌, ◌||◌, Bool, true, false, List, [], ◌∷◌, map, nat_le, if◌then◌else◌, Option, Some, None, is_some, option_map, Ok, Err, arith, refl, sym, ap, ◌∙◌, subst}
use Rattle.std.specs.List.{list_any}
use Rattle.rtcp_wire.specs.declared.fact.Fact.{Fact}
use Rattle.rtcp_wire.specs.Facts.{subject, facts_of}
use Rattle.rtcp_members.specs.Traces.{Horizons, TraceStep, check_made as table_checked, block_made_of, source_forgotten, with_facts, with_blocks}
use Rattle.rtcp_members.specs.Stays.{stay_of}
use Rattle.rtcp_members.specs.Entries.{counted_at, entry_of}
use Rattle.rtcp_guard.specs.declared.settings.Settings.{Settings}
use Rattle.rtcp_guard.specs.declared.verdict.Verdict.{Verdict}
use Rattle.rtcp_guard.specs.declared.verdict.Verdict.TheVariants.{Pass, Stranger, Crowd}
use Rattle.rtcp_guard.specs.Guarding.{GuardStep, datagram_came, check_made, source_expected, origin_trusted}
use Rattle.rtcp_guard.specs.Histories.{claim_of, is_pass, is_passed}
use Rattle.rtcp_guard_laws.specs.Together.{AreNamed, IsInOrder, JointStep, arrived as datagram_arrived, checked as both_checked, reported as block_reported, forgotten as source_gone, expected as source_foretold, trusted as origin_named, latest, steps_of, trace_of}
use Rattle.rtcp_guard_laws.proofs.Presence.{present_is_claimed}
use Rattle.rtcp_engine.specs.declared.refusal.Refusal.{Refusal}
use Rattle.rtcp_engine.specs.answers.Acts.{Act, Datagram, rtcp, rtp, arrived, rtp_sent, ticked, left, configured, forgotten}
use Rattle.rtcp_engine.specs.answers.Arrivals.{facts_of_media, media_fact, rate_of}
use Rattle.rtcp_engine.specs.answers.Changes.{NewIdentifier, Session, change_by, changed_by, is_about, named_by, new_identifier, is_among}
use Rattle.rtcp_engine.specs.answers.Histories.{History, life_at, session_at, session_for, setup_at, with_act}
use Rattle.rtcp_engine.specs.answers.Leaving.{Backoff, Life, present, backing_off, finished, after_wait, after_waiting_tick, backoff_from, is_bye_due, sent_nothing}
use Rattle.rtcp_engine.specs.answers.Lives.{entry_in_life, lived, silent_in_life, with_new_ssrc}
use Rattle.rtcp_engine.specs.answers.Outcomes.{Outcome, check_interval, member_count}
use Rattle.rtcp_engine.specs.answers.Answers.{refusal_after}
use Rattle.rtcp_engine.specs.answers.Reporting.{reported_at}
use Rattle.rtcp_engine.specs.answers.Setups.{Setup, SettingsValue}
use Rattle.rtcp_engine.specs.answers.Ticks.{checked, has_come, has_passed, horizons_of, put_off, reported}
use Rattle.rtcp_engine.specs.state.Taken.{IsHistory, NamesFew}
use Rattle.rtcp_engine.proofs.LawLemmas.{new_identifiers_are_free-free}
use Rattle.rtcp_guarded.specs.Claimed.{AllNameFew, AreInOrder, IsForward, is_present, newest_moment}
use Rattle.rtcp_guarded.specs.Guarded.{Course, GuardedAct, GuardedHistory, told, expected, trusted, course_at, course_of, course_unless, course_with, goodbye_for, goodbye_in, names_for, names_in, origin_of, passed_at, passed_on, steps_with, verdict_in}
use Rattle.rtcp_guarded.proofs.Naming.{facts_are_named, packet_is_named}

-- ---- Joint steps

-- The steps of a guard and a trace, side by side.
record Joined (settings : Settings) (steps : List GuardStep) (trace : List TraceStep) : Type 0 where
  joint : List JointStep
  its_steps : steps_of joint ≡ steps
  its_trace : trace_of settings joint ≡ trace
  order : IsInOrder joint
  newest : latest joint ≡ newest_moment steps

module _ (settings : Settings) where
  joined_told : (origin moment : ℕ) (names : List ℕ) (goodbye : Option ℕ) (facts : List Fact) {steps : List GuardStep}
      {trace : List TraceStep} → Joined settings steps trace → newest_moment steps ≤ moment → AreNamed names facts →
      is_passed settings origin moment names goodbye steps ≡ true →
      Joined settings (datagram_came origin moment names goodbye ∷ steps) (with_facts facts moment trace)
  joined_told origin moment names goodbye facts {steps} {trace} j past named passes = record {
    joint = datagram_arrived origin moment names goodbye facts ∷ j.joint;
    its_steps = ap (λ (s : List GuardStep). datagram_came origin moment names goodbye ∷ s) j.its_steps;
    its_trace = (λ i. if is_passed settings origin moment names goodbye (j.its_steps i) then with_facts facts moment
        (j.its_trace i) else j.its_trace i)
        ∙ ap (λ (p : Bool). if p then with_facts facts moment trace else trace) passes;
    order = (subst (λ (n : ℕ). n ≤ moment) (sym j.newest) past, (named, j.order));
    newest = refl;
  }

  joined_held : (origin moment : ℕ) (names : List ℕ) (goodbye : Option ℕ) {steps : List GuardStep}
      {trace : List TraceStep} →
      Joined settings steps trace → newest_moment steps ≤ moment →
      is_passed settings origin moment names goodbye steps ≡ false →
      Joined settings (datagram_came origin moment names goodbye ∷ steps) trace
  joined_held origin moment names goodbye {steps} {trace} j past stops = record {
    joint = datagram_arrived origin moment names goodbye [] ∷ j.joint;
    its_steps = ap (λ (s : List GuardStep). datagram_came origin moment names goodbye ∷ s) j.its_steps;
    its_trace = (λ i. if is_passed settings origin moment names goodbye (j.its_steps i) then j.its_trace i else
        j.its_trace i)
        ∙ ap (λ (p : Bool). if p then trace else trace) stops;
    order = (subst (λ (n : ℕ). n ≤ moment) (sym j.newest) past, (tt, j.order));
    newest = refl;
  }

  joined_check : (horizons : Horizons) (moment : ℕ) {steps : List GuardStep} {trace : List TraceStep} →
      Joined settings steps trace →
      Joined settings (check_made moment horizons.silent ∷ steps) (table_checked horizons ∷ trace)
  joined_check horizons moment j = record {
    joint = both_checked horizons moment horizons.silent ∷ j.joint;
    its_steps = ap (λ (s : List GuardStep). check_made moment horizons.silent ∷ s) j.its_steps;
    its_trace = ap (λ (t : List TraceStep). table_checked horizons ∷ t) j.its_trace;
    order = (omega arith, j.order);
    newest = j.newest;
  }

  joined_blocks : (ssrcs : List ℕ) {steps : List GuardStep} {trace : List TraceStep} →
      Joined settings steps trace → Joined settings steps (with_blocks ssrcs trace)
  joined_blocks [] j = j
  joined_blocks (ssrc ∷ ssrcs) j = joined_blocks ssrcs (record {
    joint = block_reported ssrc ∷ j.joint;
    its_steps = j.its_steps;
    its_trace = ap (λ (t : List TraceStep). block_made_of ssrc ∷ t) j.its_trace;
    order = j.order;
    newest = j.newest;
  })

  joined_gone : (ssrc : ℕ) {steps : List GuardStep} {trace : List TraceStep} → Joined settings steps trace →
      Joined settings steps (source_forgotten ssrc ∷ trace)
  joined_gone ssrc j = record {
    joint = source_gone ssrc ∷ j.joint;
    its_steps = j.its_steps;
    its_trace = ap (λ (t : List TraceStep). source_forgotten ssrc ∷ t) j.its_trace;
    order = j.order;
    newest = j.newest;
  }

  joined_expected : (ssrc origin moment : ℕ) {steps : List GuardStep} {trace : List TraceStep} →
      Joined settings steps trace → newest_moment steps ≤ moment →
      Joined settings (source_expected ssrc origin moment ∷ steps) trace
  joined_expected ssrc origin moment j past = record {
    joint = source_foretold ssrc origin moment ∷ j.joint;
    its_steps = ap (λ (s : List GuardStep). source_expected ssrc origin moment ∷ s) j.its_steps;
    its_trace = j.its_trace;
    order = (subst (λ (n : ℕ). n ≤ moment) (sym j.newest) past, j.order);
    newest = refl;
  }

  joined_trusted : (origin : ℕ) {steps : List GuardStep} {trace : List TraceStep} → Joined settings steps trace →
      Joined settings (origin_trusted origin ∷ steps) trace
  joined_trusted origin j = record {
    joint = origin_named origin ∷ j.joint;
    its_steps = ap (λ (s : List GuardStep). origin_trusted origin ∷ s) j.its_steps;
    its_trace = j.its_trace;
    order = j.order;
    newest = j.newest;
  }

  -- ---- Lives

  -- those of a participant that takes part
  abbrev Joins : List GuardStep → Life → Type 0
  Joins steps (present outcome) = Joined settings steps outcome.trace
  Joins steps (backing_off outcome backoff) = Unit {0}
  Joins steps (finished outcome) = Unit {0}

  new_ssrc_joins : (setup : Setup) (life : Life) (steps : List GuardStep) → Joins steps life →
      Joins steps (with_new_ssrc setup life)
  new_ssrc_joins setup (present outcome) steps j = j
  new_ssrc_joins setup (backing_off outcome backoff) steps j = tt
  new_ssrc_joins setup (finished outcome) steps j = tt

  changed_joins : (new : Option NewIdentifier) (session : Session) (steps : List GuardStep) →
      Joins steps session.life → Joins steps (changed_by new session).life
  changed_joins None session steps j = j
  changed_joins (Some new) session steps j = new_ssrc_joins session.setup session.life steps j

  held_joins : (origin moment : ℕ) (names : List ℕ) (goodbye : Option ℕ) (life : Life) (steps : List GuardStep) →
      Joins steps life →
      newest_moment steps ≤ moment → is_passed settings origin moment names goodbye steps ≡ false →
      Joins (datagram_came origin moment names goodbye ∷ steps) life
  held_joins origin moment names goodbye (present outcome) steps j past stops =
      joined_held origin moment names goodbye j past stops
  held_joins origin moment names goodbye (backing_off outcome backoff) steps j past stops = tt
  held_joins origin moment names goodbye (finished outcome) steps j past stops = tt

  arrived_joins : (setup : Setup) (origin moment peer word : ℕ) (datagram : Datagram) (life : Life)
      (steps : List GuardStep) → Joins steps life → newest_moment steps ≤ moment →
      is_about setup.ssrc datagram ≡ false →
      is_passed settings origin moment (names_in setup.ssrc datagram) (goodbye_in setup.ssrc datagram) steps ≡ true →
      Joins (datagram_came origin moment (names_in setup.ssrc datagram) (goodbye_in setup.ssrc datagram) ∷ steps)
      (lived setup (arrived moment peer word datagram) life)
  arrived_joins setup origin moment peer word (rtcp size (Ok packets)) (present outcome) steps j past other passes =
      joined_told origin moment (names_in setup.ssrc (rtcp size (Ok packets)))
      (goodbye_in setup.ssrc (rtcp size (Ok packets))) (facts_of packets) j past
      (facts_are_named setup.ssrc (facts_of packets) other) passes
  arrived_joins setup origin moment peer word (rtcp size (Err fault)) (present outcome) steps j past other passes =
      joined_told origin moment [] None [] j past tt passes
  arrived_joins setup origin moment peer word (rtp (Ok head)) (present outcome) steps j past other passes =
      let rate = rate_of setup head in
      let is_counted = counted_at setup.capacity outcome.trace (media_fact rate head) in
      joined_told origin moment (names_in setup.ssrc (rtp (Ok head))) None
      (facts_of_media setup.ssrc rate head is_counted)
      j past (packet_is_named setup.ssrc head.ssrc head.csrcs (media_fact rate head) is_counted refl other) passes
  arrived_joins setup origin moment peer word (rtp (Err fault)) (present outcome) steps j past other passes =
      joined_told origin moment [] None [] j past tt passes
  arrived_joins setup origin moment peer word (rtcp size reading) (backing_off outcome backoff) steps j past other
      passes = tt
  arrived_joins setup origin moment peer word (rtp reading) (backing_off outcome backoff) steps j past other passes = tt
  arrived_joins setup origin moment peer word datagram (finished outcome) steps j past other passes = tt

  waiting_joins : (setup : Setup) (moment word : ℕ) (outcome : Outcome) (backoff : Backoff) (steps : List GuardStep) →
      Joins steps (after_waiting_tick setup moment word outcome backoff)
  waiting_joins setup moment word outcome backoff steps = elim (is_bye_due setup moment word backoff) as (λ d.
      Joins steps (if d then finished outcome else backing_off outcome
      (after_wait setup moment word backoff))) [ true ↦ tt | false ↦ tt ]

  ticked_joins : (setup : Setup) (moment first second : ℕ) (life : Life) (steps : List GuardStep) → Joins steps life →
      Joins (check_made moment (silent_in_life setup moment life) ∷ steps)
      (lived setup (ticked moment first second) life)
  ticked_joins setup moment first second (present outcome) steps j =
      let horizons = horizons_of moment
      (check_interval setup moment outcome) in
      let now = checked setup moment outcome in
      let there : Joined settings (check_made moment horizons.silent ∷ steps) now.trace =
      joined_check horizons moment j in
      elim (has_come moment now) as (λ c. Joined settings (check_made moment horizons.silent ∷ steps)
      (if c then (if has_passed setup moment first now
      then reported setup moment second now
      else put_off setup moment first now) else now).trace) [
        | true ↦ elim (has_passed setup moment first now) as (λ p.
            Joined settings (check_made moment horizons.silent ∷ steps)
            (if p then reported setup moment second now
            else put_off setup moment first now).trace) [
              | true ↦ joined_blocks (reported_at setup moment now) there
              | false ↦ there
            ]
        | false ↦ there
      ]
  ticked_joins setup moment first second (backing_off outcome backoff) steps j =
      waiting_joins setup moment first outcome backoff (check_made moment 0 ∷ steps)
  ticked_joins setup moment first second (finished outcome) steps j = tt

  left_joins : (setup : Setup) (moment word : ℕ) (life : Life) (steps : List GuardStep) → Joins steps life →
      Joins steps (lived setup (left moment word) life)
  left_joins setup moment word (present outcome) steps j =
      elim (sent_nothing outcome) as (λ n. Joins steps
      (if n then finished outcome else (if nat_le
      (member_count setup outcome) 50 then finished outcome
      else backing_off outcome
      (backoff_from setup moment word outcome)))) [
        | true ↦ tt
        | false ↦ elim (nat_le
            (member_count setup outcome) 50) as (λ f. Joins steps
            (if f then finished outcome else backing_off outcome
            (backoff_from setup moment word outcome))) [
              | true ↦ tt
              | false ↦ tt
            ]
      ]
  left_joins setup moment word (backing_off outcome backoff) steps j = tt
  left_joins setup moment word (finished outcome) steps j = tt

  sent_joins : (setup : Setup) (moment timestamp octets : ℕ) (life : Life) (steps : List GuardStep) →
      Joins steps life → Joins steps (lived setup (rtp_sent moment timestamp octets) life)
  sent_joins setup moment timestamp octets (present outcome) steps j = j
  sent_joins setup moment timestamp octets (backing_off outcome backoff) steps j = tt
  sent_joins setup moment timestamp octets (finished outcome) steps j = tt

  configured_joins : (setup : Setup) (moment : ℕ) (settings_given : SettingsValue) (life : Life)
      (steps : List GuardStep) → Joins steps life → Joins steps (lived setup (configured moment settings_given) life)
  configured_joins setup moment settings_given (present outcome) steps j = j
  configured_joins setup moment settings_given (backing_off outcome backoff) steps j = tt
  configured_joins setup moment settings_given (finished outcome) steps j = tt

  forgotten_joins : (setup : Setup) (moment ssrc : ℕ) (life : Life) (steps : List GuardStep) → Joins steps life →
      Joins steps (lived setup (forgotten moment ssrc) life)
  forgotten_joins setup moment ssrc (present outcome) steps j = joined_gone ssrc j
  forgotten_joins setup moment ssrc (backing_off outcome backoff) steps j = tt
  forgotten_joins setup moment ssrc (finished outcome) steps j = tt

-- ---- The SSRC under which a datagram is taken, which the datagram does not name

unnamed_by_facts : (n : ℕ) (facts : List Fact) → is_among (map subject facts) n ≡ false →
    list_any (λ fact. subject fact == n) facts ≡ false
unnamed_by_facts n [] other = other
unnamed_by_facts n (fact ∷ rest) other = elim (subject fact == n) as (λ s.
    s || is_among (map subject rest) n ≡ false → s || list_any (λ fact. subject fact == n) rest ≡ false) [
      | true ↦ λ other. absurd cc
      | false ↦ λ other. unnamed_by_facts n rest other
    ] other

not_about : (n : ℕ) (datagram : Datagram) → is_among (named_by datagram) n ≡ false → is_about n datagram ≡ false
not_about n (rtcp size (Ok packets)) other = unnamed_by_facts n (facts_of packets) other
not_about n (rtcp size (Err fault)) other = refl
not_about n (rtp (Ok head)) other = neither (head.ssrc == n) (is_among head.csrcs n) other
  where
    neither : (first rest : Bool) → first || rest ≡ false → first ≡ false
    neither true rest is = absurd cc
    neither false rest is = refl
not_about n (rtp (Err fault)) other = refl

last_false : (a b c : Bool) → a || (b || c) ≡ false → c ≡ false
last_false true b c is = absurd cc
last_false false true c is = absurd cc
last_false false false c is = is

own_unnamed : (history : History) (moment peer word : ℕ) (datagram : Datagram) → IsHistory history → word < 2 ^ 32 →
    NamesFew datagram →
    is_about (session_for (session_at history) (arrived moment peer word datagram)).setup.ssrc datagram ≡ false
own_unnamed history moment peer word datagram is fits few =
    let session = session_at history in
    let new : NewIdentifier = record { peer = peer; ssrc = new_identifier word session datagram } in
    elim (is_about session.setup.ssrc datagram) as (λ a. is_about session.setup.ssrc datagram ≡ a →
    is_about (changed_by (if a then Some new else None) session).setup.ssrc datagram ≡ false) [
      | true ↦ λ e. not_about new.ssrc datagram (last_false _ _ _
          (new_identifiers_are_free-free history datagram word is fits few))
      | false ↦ λ e. e
    ] refl

-- ---- A whole history

abbrev Goal : Settings → Course → Type 0
Goal settings course = Joins settings course.steps (session_at course.passed).life

-- what holds of a course so far
abbrev SoFar : Settings → Course → Type 0
SoFar settings course = IsHistory course.passed → AreInOrder course.steps → Goal settings course

pub before : (history : History) (act : Act) → IsHistory (with_act history act) → IsHistory history
before history act is = record { usable = is.usable; word = is.word; taken = is.taken.2 }

came : (settings : Settings) (course : Course) (moment peer word : ℕ) (datagram : Datagram) → NamesFew datagram →
    SoFar settings course → let act = arrived moment peer word datagram in
    (verdict : Verdict) → verdict_in settings course act ≡ verdict →
    IsHistory (passed_on verdict course.passed act) → AreInOrder (steps_with course act) →
    Joins settings (steps_with course act) (session_at (passed_on verdict course.passed act)).life
came settings course moment peer word datagram few so_far Pass passes is order =
    let act = arrived moment peer word datagram in
    let session = session_at course.passed in
    let earlier = before course.passed act is in
    let now = session_for session act in
    arrived_joins settings now.setup (origin_of peer) moment peer word datagram now.life course.steps
    (changed_joins settings (change_by session act) session course.steps
    (so_far earlier order.1)) order.0
    (own_unnamed course.passed moment peer word datagram earlier is.taken.1 few) (ap is_pass passes)
came settings course moment peer word datagram few so_far Stranger stops is order =
    held_joins settings (origin_of peer) moment
    (names_for course.passed (arrived moment peer word datagram) datagram)
    (goodbye_for course.passed (arrived moment peer word datagram) datagram) (session_at course.passed).life
    course.steps
    (so_far is order.1) order.0 (ap is_pass stops)
came settings course moment peer word datagram few so_far Crowd stops is order =
    held_joins settings (origin_of peer) moment
    (names_for course.passed (arrived moment peer word datagram) datagram)
    (goodbye_for course.passed (arrived moment peer word datagram) datagram) (session_at course.passed).life
    course.steps
    (so_far is order.1) order.0 (ap is_pass stops)

taken : (settings : Settings) (course : Course) (act : Act) → AllNameFew (told act ∷ []) → SoFar settings course →
    SoFar settings (course_with settings course act)
taken settings course (arrived moment peer word datagram) few so_far is order =
    came settings course moment peer word datagram few.0 so_far
    (verdict_in settings course (arrived moment peer word datagram)) refl is order
taken settings course (rtp_sent moment timestamp octets) few so_far is order =
    sent_joins settings (setup_at course.passed) moment timestamp octets (life_at course.passed) course.steps
    (so_far (before course.passed (rtp_sent moment timestamp octets) is) order)
taken settings course (ticked moment first second) few so_far is order =
    ticked_joins settings (setup_at course.passed) moment first second (life_at course.passed) course.steps
    (so_far (before course.passed (ticked moment first second) is) order)
taken settings course (left moment word) few so_far is order =
    left_joins settings (setup_at course.passed) moment word (life_at course.passed) course.steps
    (so_far (before course.passed (left moment word) is) order)
taken settings course (configured moment given) few so_far is order =
    configured_joins settings (setup_at course.passed) moment given (life_at course.passed) course.steps
    (so_far (before course.passed (configured moment given) is) order)
taken settings course (forgotten moment ssrc) few so_far is order =
    forgotten_joins settings (setup_at course.passed) moment ssrc (life_at course.passed) course.steps
    (so_far (before course.passed (forgotten moment ssrc) is) order)

expected_joins : (settings : Settings) (ssrc origin moment : ℕ) (life : Life) (steps : List GuardStep) →
    Joins settings steps life → newest_moment steps ≤ moment →
    Joins settings (source_expected ssrc origin moment ∷ steps) life
expected_joins settings ssrc origin moment (present outcome) steps j past = joined_expected settings ssrc origin moment
    j past
expected_joins settings ssrc origin moment (backing_off outcome backoff) steps j past = tt
expected_joins settings ssrc origin moment (finished outcome) steps j past = tt

trusted_joins : (settings : Settings) (origin : ℕ) (life : Life) (steps : List GuardStep) →
    Joins settings steps life → Joins settings (origin_trusted origin ∷ steps) life
trusted_joins settings origin (present outcome) steps j = joined_trusted settings origin j
trusted_joins settings origin (backing_off outcome backoff) steps j = tt
trusted_joins settings origin (finished outcome) steps j = tt

unless : (settings : Settings) (course : Course) (act : Act) (refusal : Option Refusal) →
    AllNameFew (told act ∷ []) → SoFar settings course → SoFar settings (course_unless refusal settings course act)
unless settings course act None few so_far = taken settings course act few so_far
unless settings course act (Some refusal) few so_far = so_far

pub few_of : (act : Act) (earlier : List GuardedAct) → AllNameFew (told act ∷ earlier) →
    AllNameFew (told act ∷ []) × AllNameFew earlier
few_of (arrived moment peer word datagram) earlier few = ((few.0, tt), few.1)
few_of (rtp_sent moment timestamp octets) earlier few = (tt, few)
few_of (ticked moment first second) earlier few = (tt, few)
few_of (left moment word) earlier few = (tt, few)
few_of (configured moment given) earlier few = (tt, few)
few_of (forgotten moment ssrc) earlier few = (tt, few)

joins : (settings : Settings) (setup : Setup) (word : ℕ) (acts : List GuardedAct) → AllNameFew acts →
    SoFar settings (course_of settings setup word acts)
joins settings setup word [] few is order = record {
  joint = [];
  its_steps = refl;
  its_trace = refl;
  order = tt;
  newest = refl;
}
joins settings setup word (told act ∷ earlier) few is order =
    let course = course_of settings setup word earlier in
    unless settings course act (refusal_after course.passed act) (few_of act earlier few).0
    (joins settings setup word earlier (few_of act earlier few).1) is order
joins settings setup word (expected ssrc origin moment ∷ earlier) few is order =
    expected_joins settings ssrc origin moment (life_at (course_of settings setup word earlier).passed)
    (course_of settings setup word earlier).steps
    (joins settings setup word earlier few is order.1) order.0
joins settings setup word (trusted origin ∷ earlier) few is order =
    trusted_joins settings origin (life_at (course_of settings setup word earlier).passed)
    (course_of settings setup word earlier).steps
    (joins settings setup word earlier few is order)

-- where a life is joined to the steps of a guard, what it has an entry of is claimed
life_claimed : (settings : Settings) (steps : List GuardStep) (setup : Setup) (life : Life) (ssrc : ℕ) →
    Joins settings steps life → is_some (entry_in_life setup life ssrc) ≡ true →
    is_some (claim_of settings ssrc steps) ≡ true
life_claimed settings steps setup (present outcome) ssrc j there =
    elim (stay_of setup.capacity outcome.trace ssrc) as (λ o. stay_of setup.capacity outcome.trace ssrc ≡ o →
    is_some (option_map (entry_of ssrc) o) ≡ true → is_some (claim_of settings ssrc steps) ≡ true) [
      | None ↦ λ e there. absurd cc
      | Some stay ↦ λ e there. ap (λ (s : List GuardStep). is_some (claim_of settings ssrc s)) (sym j.its_steps)
          ∙ present_is_claimed settings setup.capacity ssrc j.joint stay j.order
          (ap (λ (trace : List TraceStep). stay_of setup.capacity trace ssrc) j.its_trace ∙ e)
    ] refl there
life_claimed settings steps setup (backing_off outcome backoff) ssrc j there = absurd cc
life_claimed settings steps setup (finished outcome) ssrc j there = absurd cc

pub claimed : (history : GuardedHistory) (ssrc : ℕ) → IsForward history → is_present ssrc history ≡ true →
    is_some (claim_of history.settings ssrc (course_at history).steps) ≡ true
claimed history ssrc forward there =
    life_claimed history.settings (course_at history).steps (setup_at (passed_at history))
    (life_at (passed_at history)) ssrc (joins history.settings history.setup history.word history.acts forward.few
    forward.passed forward.order) there
