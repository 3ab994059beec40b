-- A participant that is asked late enough sends.
use Rattle.std.proofs.Common.{◌≡◌, ℕ, ◌+◌, ◌^◌, ◌<◌, ◌≤◌, ◌&&◌, ◌==◌, nat_lt, nat_le, max, Bool, true, false, IsTrue, is_some, List, [], ◌∷◌, map, filter, not, Option, Some, None, option_map, Ok, Err, if◌then◌else◌, refl, sym, ap, ◌∙◌, arith, subst, inl, inr}
use Rattle.std.proofs.lemmas.Bool.{cases_lt, cond_both, lt-ltb, le-ltb, le-leb}
use Rattle.std.proofs.lemmas.Bool.Decides.{nat_tests}
use Rattle.rtcp_clock.specs.Intervals.{drawn_interval, longest_draw}
use Rattle.rtcp_clock.proofs.LawLemmas.{draw_within_bounds, longest_never_falls}
use Rattle.rtcp_wire.specs.declared.fact.Fact.{Fact}
use Rattle.rtcp_wire.specs.declared.fact.Fact.TheVariants.{Heard}
use Rattle.rtcp_wire.specs.Values.{RtpValue}
use Rattle.rtcp_members.specs.Traces.{TraceStep, block_made_of, fact_came, with_blocks, with_facts}
use Rattle.rtcp_members.specs.Entries.{counted_at, members_at}
use Rattle.rtcp_members.proofs.LawLemmas.{facts_keep_members, roles_move_with_counts-block}
use Rattle.rtcp_timer.specs.Loads.{interval_of}
use Rattle.rtcp_timer.specs.Schedules.{Happening, Timing, IsDue, IsInOrder, newest_transmission, greatest_draw, schedule_at}
use Rattle.rtcp_timer.specs.Departures.{members_known, last_departure}
use Rattle.rtcp_timer.proofs.LawLemmas.{due_in_time}
use Rattle.rtcp_engine.specs.answers.Setups.{Setup, IsUsable}
use Rattle.rtcp_engine.specs.answers.Acts.{rtcp, rtp, Act, arrived, rtp_sent, ticked, left, configured, moment_of, forgotten, answer_unless}
use Rattle.rtcp_engine.specs.answers.OwnStreams.{has_sent}
use Rattle.rtcp_engine.specs.answers.Outcomes.{Outcome, interval_at, member_count, nothing_yet, with_pace}
use Rattle.rtcp_engine.specs.answers.Ticks.{checked, has_come, has_passed, is_report_due, put_off, reported, with_recount, with_report}
use Rattle.rtcp_engine.specs.answers.Arrivals.{media_fact, rate_of}
use Rattle.rtcp_engine.specs.answers.Changes.{NewIdentifier, Session, change_by, changed_by, with_ssrc}
use Rattle.rtcp_engine.specs.declared.refusal.Refusal.{Refusal}
use Rattle.rtcp_engine.specs.answers.Answers.{answer_of, followed_by, step_by, refusal_after}
use Rattle.rtcp_engine.specs.answers.Histories.{History, last_moment, life_at, session_of, setup_after, setup_at, with_act}
use Rattle.rtcp_engine.specs.bounds.Runs.{HasCompound, IsAnsweredInTime}
use Rattle.rtcp_engine.specs.answers.Reporting.{bye_octets, report_octets, reported_at}
use Rattle.rtcp_engine.specs.state.Taken.{HasWords, AllTaken, IsHistory}
use Rattle.rtcp_engine.specs.answers.Leaving.{Backoff, Life, present, backing_off, finished, after_waiting_tick, left_at, bye_count, is_bye_due, leaving_interval, leaving_load, leaving_timing}
use Rattle.rtcp_engine.specs.answers.Lives.{lived, bye_out, out_by, report_out, with_new_ssrc, with_media}
use Rattle.rtcp_engine.specs.bounds.Sent.{Sent, interval_by, reports_in, sent_at}
use Rattle.rtcp_engine.specs.bounds.Spacing.{first_leave, newest_moment}
use Rattle.rtcp_engine.specs.bounds.InTime.{AllInTime, HasWaited, IsInTime, greatest_by, greatest_interval, is_fall, last_fall}
use Rattle.rtcp_engine.proofs.LifeLemmas.{of_check, of_leave, of_wait}
use Rattle.rtcp_engine.proofs.Sending.{AreUpTo, KeepsApart, in_time, session_keeps_apart}

-- ---- Draws

-- A draw is at most the longest one from any interval that is as great.
draw_fits : (interval greatest word : ℕ) → word < 2 ^ 32 → interval ≤ greatest →
    drawn_interval interval word ≤ longest_draw greatest
draw_fits interval greatest word fits le =
    omega (arith, (draw_within_bounds interval word fits).1, longest_never_falls interval greatest le)

-- the greatest draw from intervals of which the greatest may have grown, and with one more draw of them
still_drawn : (interval greatest drawn : ℕ) → drawn ≤ longest_draw greatest →
    drawn ≤ longest_draw (max interval greatest)
still_drawn interval greatest drawn h =
    omega (arith, h, longest_never_falls greatest (max interval greatest) (omega arith))

drawn_too : (interval greatest drawn word : ℕ) → word < 2 ^ 32 → drawn ≤ longest_draw greatest →
    max (drawn_interval interval word) drawn ≤ longest_draw (max interval greatest)
drawn_too interval greatest drawn word fits h =
    omega (
      arith,
      draw_fits interval (max interval greatest) word fits (omega arith),
      still_drawn interval greatest drawn h,
    )

-- ---- Members

csrcs_keep : (capacity moment : ℕ) (ssrcs : List ℕ) (trace : List TraceStep) →
    members_at capacity trace ≤ members_at capacity (with_facts (map Heard ssrcs) moment trace)
csrcs_keep capacity moment [] trace = omega arith
csrcs_keep capacity moment (ssrc ∷ ssrcs) trace =
    omega (
      arith,
      facts_keep_members capacity trace (Heard ssrc) moment refl,
      csrcs_keep capacity moment ssrcs
          (fact_came (Heard ssrc) moment ∷ trace),
    )

same_members : (now before senders senders_before : ℕ) →
    not ((now == before) && (senders == senders_before)) ≡ false → now ≡ before
same_members now before senders senders_before e = grind (arith, nat_tests, e)

-- The blocks of a report leave the members.
blocks_keep : (capacity : ℕ) (ssrcs : List ℕ) (trace : List TraceStep) →
    members_at capacity (with_blocks ssrcs trace) ≡ members_at capacity trace
blocks_keep capacity [] trace = refl
blocks_keep capacity (ssrc ∷ ssrcs) trace =
    blocks_keep capacity ssrcs (block_made_of ssrc ∷ trace)
    ∙ same_members _ _ _ _ (roles_move_with_counts-block capacity ssrc trace)

-- An RTP packet that came never lowers the members.
media_keeps : (setup : Setup) (moment : ℕ) (head : RtpValue) (outcome : Outcome) →
    member_count setup outcome ≤ member_count setup (with_media setup moment head outcome)
media_keeps setup moment head outcome =
    let media = media_fact (rate_of setup head) head in
    let kept = facts_keep_members setup.capacity outcome.trace media moment refl in
    let csrcs = filter (λ ssrc. not (ssrc == setup.ssrc)) head.csrcs in
    let now = fact_came media moment ∷ outcome.trace in
    let others = cond_both (counted_at setup.capacity outcome.trace media) (map Heard csrcs) []
    (λ (facts : List Fact). members_at setup.capacity now ≤ members_at setup.capacity
    (with_facts facts moment now)) (λ _. csrcs_keep setup.capacity moment csrcs now) (λ _. omega arith) in
    omega (arith, kept, others)

-- ---- While the participant takes part

pub record Waits (setup : Setup) (fall greatest t : ℕ) (outcome : Outcome) : Type 0 where
  pub known : members_known outcome.happenings ≤ member_count setup outcome
  pub fell : last_departure outcome.happenings ≤ fall
  pub drawn : greatest_draw outcome.happenings ≤ longest_draw greatest
  pub past : fall ≤ t

-- a fall of the members is one for the participant too
fell_by : (before after known departed fall t moment : ℕ) → known ≤ before → departed ≤ fall → fall ≤ t → t ≤ moment
    → (if nat_lt after known then moment else departed) ≤ (if nat_lt after before then moment else fall)
fell_by before after known departed fall t moment few fell past order =
    elim (cases_lt after before) [
      | inl below ↦
          subst (λ (b : Bool). (if nat_lt after known then moment else departed) ≤ (if b then moment else fall))
          (sym (lt-ltb after before below))
          (at_most (nat_lt after known))
      | inr above ↦
          subst (λ (b : Bool). (if b then moment else departed) ≤ (if nat_lt after before then moment else fall))
          (sym (le-ltb after known (omega (arith, above, few))))
          (subst (λ (b : Bool). departed ≤ (if b then moment else fall)) (sym (le-ltb after before above)) fell)
    ]
  where
    at_most : (b : Bool) → (if b then moment else departed) ≤ moment
    at_most true = omega arith
    at_most false = omega (arith, fell, past, order)

fall_is_past : (fell : Bool) (fall t moment : ℕ) → fall ≤ t → t ≤ moment → (if fell then moment else fall) ≤ moment
fall_is_past true fall t moment past order = omega arith
fall_is_past false fall t moment past order = omega (arith, past, order)

fall_stays : (fell : Bool) (fall t moment : ℕ) → fall ≤ t → t ≤ moment → fall ≤ (if fell then moment else fall)
fall_stays true fall t moment past order = omega (arith, past, order)
fall_stays false fall t moment past order = omega arith

-- the members are counted again, after what may have lowered them
recounts : {setup : Setup} {fall greatest t : ℕ} {old : Outcome} → (moment : ℕ) (new : Outcome) →
    new.happenings ≡ old.happenings → t ≤ moment → Waits setup fall greatest t old
    → Waits setup (if nat_lt (member_count setup new) (member_count setup old) then moment else fall) greatest moment
    (with_recount setup moment new)
recounts {setup} {fall} {greatest} {t} {old} moment new same order h = record {
  known = omega arith;
  fell =
      subst (λ (hs : List Happening).
      (if nat_lt (member_count setup new) (members_known hs) then moment else last_departure hs)
      ≤ (if nat_lt (member_count setup new) (member_count setup old) then moment else fall)) (sym same)
      (fell_by (member_count setup old) (member_count setup new) (members_known old.happenings)
      (last_departure old.happenings) fall t moment h.known h.fell h.past order);
  drawn = subst (λ (hs : List Happening). greatest_draw hs ≤ longest_draw greatest) (sym same) h.drawn;
  past = fall_is_past (nat_lt (member_count setup new) (member_count setup old)) fall t moment h.past order;
}

-- an act that is no compound, tick or leave
passes : {setup : Setup} {fall greatest t : ℕ} {old : Outcome} → (moment : ℕ) (fell : Bool) (new : Outcome) →
    new.happenings ≡ old.happenings → member_count setup old ≤ member_count setup new → t ≤ moment
    → Waits setup fall greatest t old → Waits setup (if fell then moment else fall) greatest moment new
passes {setup} {fall} {greatest} {t} {old} moment fell new same kept order h = record {
  known = subst (λ (hs : List Happening). members_known hs ≤ member_count setup new) (sym same)
      (omega (arith, h.known, kept));
  fell = subst (λ (hs : List Happening). last_departure hs ≤ (if fell then moment else fall)) (sym same)
      (omega (arith, h.fell, fall_stays fell fall t moment h.past order));
  drawn = subst (λ (hs : List Happening). greatest_draw hs ≤ longest_draw greatest) (sym same) h.drawn;
  past = fall_is_past fell fall t moment h.past order;
}

-- what a tick makes of it after its check
ticks_by : {setup : Setup} {fall greatest : ℕ} → (t first_word second_word : ℕ) (now : Outcome) (come passed : Bool) →
    first_word < 2 ^ 32 → second_word < 2 ^ 32 → Waits setup fall greatest t now
    → Waits setup fall (if come && passed then interval_at setup (with_report setup t now) else max
    (interval_at setup now) greatest) t
    (if come then (if passed then reported setup t second_word now else put_off setup t first_word now) else now)
ticks_by {setup} {fall} {greatest} t first_word second_word now true true first second h = record {
  known = omega arith;
  fell = h.fell;
  drawn = draw_fits (interval_at setup (with_report setup t now)) (interval_at setup (with_report setup t now))
      second_word second (omega arith);
  past = h.past;
}
ticks_by {setup} {fall} {greatest} t first_word second_word now true false first second h = record {
  known = omega arith;
  fell = h.fell;
  drawn = drawn_too (interval_at setup now) greatest (greatest_draw now.happenings) first_word first h.drawn;
  past = h.past;
}
ticks_by {setup} {fall} {greatest} t first_word second_word now false passed first second h = record {
  known = h.known;
  fell = h.fell;
  drawn = still_drawn (interval_at setup now) greatest (greatest_draw now.happenings) h.drawn;
  past = h.past;
}

-- ---- While it backs off

pub record WaitsToLeave (greatest : ℕ) (backoff : Backoff) : Type 0 where
  pub fell : last_departure backoff.happenings ≤ backoff.since
  pub drawn : greatest_draw backoff.happenings ≤ longest_draw greatest

abbrev pub KeepsTime : (setup : Setup) (fall greatest t : ℕ) → Life → Type 0
KeepsTime setup fall greatest t (present outcome) = Waits setup fall greatest t outcome
KeepsTime setup fall greatest t (backing_off outcome backoff) = WaitsToLeave greatest backoff
KeepsTime setup fall greatest t (finished outcome) = Unit {0}

leaves_by : {setup : Setup} {fall greatest t : ℕ} {outcome : Outcome} → (moment word new_fall : ℕ) → word < 2 ^ 32 →
    t ≤ moment → Waits setup fall greatest t outcome
    → KeepsTime setup new_fall (interval_of (leaving_load setup 1 [])) moment (left_at setup moment word outcome)
leaves_by {setup} {fall} {greatest} {t} {outcome} moment word new_fall fits order h =
    let interval = interval_of (leaving_load setup 1 []) in
    of_leave (KeepsTime setup new_fall interval moment) setup moment word outcome tt
    (record {
      fell = omega (arith, h.fell, h.past, order);
      drawn = draw_fits interval interval word fits (omega arith);
    })

waits_on : {greatest : ℕ} → (setup : Setup) (fall moment word : ℕ) (outcome : Outcome) (backoff : Backoff) →
    word < 2 ^ 32 → WaitsToLeave greatest backoff
    → KeepsTime setup fall (max (leaving_interval setup backoff) greatest) moment
    (after_waiting_tick setup moment word outcome backoff)
waits_on {greatest} setup fall moment word outcome backoff fits h =
    let interval = leaving_interval setup backoff in
    let most = greatest_draw backoff.happenings in
    of_wait (KeepsTime setup fall (max interval greatest) moment) setup moment word outcome backoff tt
    (cond_both (nat_le (leaving_timing backoff).next moment) _ backoff (WaitsToLeave (max interval greatest))
    (λ _. record { fell = h.fell; drawn = drawn_too interval greatest most word fits h.drawn })
    (λ _. record { fell = h.fell; drawn = still_drawn interval greatest most h.drawn }))

-- ---- Acts

-- A report is brought where it is due.
is_sent : (due : Bool) (octets : List ℕ) →
    is_some (option_map report_out (if due then Some octets else None)) ≡ due
is_sent true octets = refl
is_sent false octets = refl

abbrev new_fall : Setup → Act → Life → (fall : ℕ) → ℕ
new_fall setup act life fall = if is_fall setup act life then moment_of act else fall

-- A tick is a fall where its check is one.
tick_falls : (setup : Setup) (t first_word second_word : ℕ) (outcome : Outcome) →
    nat_lt (member_count setup (checked setup t outcome)) (member_count setup outcome)
    ≡ is_fall setup (ticked t first_word second_word) (present outcome)
tick_falls setup t first_word second_word outcome =
    let now = checked setup t outcome in
    of_check (λ (later : Outcome). nat_lt (member_count setup now) (member_count setup outcome)
    ≡ nat_lt (member_count setup later) (member_count setup outcome)) setup t first_word second_word now refl refl
    (ap (λ (others : ℕ). nat_lt (1 + others) (member_count setup outcome))
    (sym (blocks_keep setup.capacity (reported_at setup t now) now.trace)))

-- the check of a tick
tick_checks : (setup : Setup) (fall greatest t moment first_word second_word : ℕ) (outcome : Outcome) → t ≤ moment →
    Waits setup fall greatest t outcome
    → Waits setup (new_fall setup (ticked moment first_word second_word) (present outcome) fall) greatest moment
    (checked setup moment outcome)
tick_checks setup fall greatest t moment first_word second_word outcome order h =
    subst (λ (fell : Bool). Waits setup (if fell then moment else fall) greatest moment (checked setup moment outcome))
    (tick_falls setup moment first_word second_word outcome) (recounts moment _ refl order h)

while_present_waits : (setup : Setup) (fall greatest t : ℕ) (act : Act) (outcome : Outcome) → t ≤ moment_of act →
    HasWords act → Waits setup fall greatest t outcome
    → KeepsTime setup (new_fall setup act (present outcome) fall) (greatest_by setup act (present outcome) greatest)
    (moment_of act) (lived setup act (present outcome))
while_present_waits setup fall greatest t (arrived moment peer drawn (rtcp size (Ok packets))) outcome order words h =
    recounts moment _ refl order h
while_present_waits setup fall greatest t (arrived moment peer drawn (rtcp size (Err fault))) outcome order words h =
    passes moment (is_fall setup (arrived moment peer drawn (rtcp size (Err fault))) (present outcome)) outcome refl
    (omega arith) order h
while_present_waits setup fall greatest t (arrived moment peer drawn (rtp (Ok head))) outcome order words h =
    passes moment (is_fall setup (arrived moment peer drawn (rtp (Ok head))) (present outcome))
    (with_media setup moment head outcome) refl (media_keeps setup moment head outcome) order h
while_present_waits setup fall greatest t (arrived moment peer drawn (rtp (Err fault))) outcome order words h =
    passes moment (is_fall setup (arrived moment peer drawn (rtp (Err fault))) (present outcome)) outcome refl
    (omega arith) order h
while_present_waits setup fall greatest t (rtp_sent moment timestamp octets) outcome order words h =
    passes moment (is_fall setup (rtp_sent moment timestamp octets) (present outcome)) _ refl (omega arith) order h
while_present_waits setup fall greatest t (ticked moment first_word second_word) outcome order words h =
    let now = checked setup moment outcome in
    let come = has_come moment now in
    let passed = has_passed setup moment first_word now in
    subst (λ (b : Bool). Waits setup (new_fall setup (ticked moment first_word second_word) (present outcome) fall)
    (if b then interval_at setup (with_report setup moment now) else max (interval_at setup now) greatest) moment
    (if come then (if passed then reported setup moment second_word now else put_off setup moment first_word now)
    else now)) (sym (is_sent (come && passed) _))
    (ticks_by moment first_word second_word now come passed words.0 words.1
    (tick_checks setup fall greatest t moment first_word second_word outcome order h))
while_present_waits setup fall greatest t (left moment word) outcome order words h =
    leaves_by moment word _ words order h
while_present_waits setup fall greatest t (configured moment settings) outcome order words h =
    passes moment (is_fall setup (configured moment settings) (present outcome))
    (with_pace setup settings moment outcome) refl (omega arith) order h
while_present_waits setup fall greatest t (forgotten moment ssrc) outcome order words h = recounts moment _ refl order h

while_backing_off_waits : (setup : Setup) (fall greatest t : ℕ) (act : Act) (outcome : Outcome) (backoff : Backoff) →
    HasWords act → WaitsToLeave greatest backoff
    → KeepsTime setup fall (greatest_by setup act (backing_off outcome backoff) greatest) (moment_of act)
    (lived setup act (backing_off outcome backoff))
while_backing_off_waits setup fall greatest t (arrived moment peer drawn (rtcp size (Ok packets))) outcome backoff words
    h = cond_both (bye_count packets == 0) backoff _ (WaitsToLeave greatest) (λ _. h)
    (λ _. record { fell = h.fell; drawn = h.drawn })
while_backing_off_waits setup fall greatest t (ticked moment first_word second_word) outcome backoff words h =
    waits_on setup fall moment first_word outcome backoff words.0 h
while_backing_off_waits setup fall greatest t act outcome backoff words h = h

waits_after : (setup : Setup) (fall greatest t : ℕ) (act : Act) (life : Life) → t ≤ moment_of act → HasWords act →
    KeepsTime setup fall greatest t life
    → KeepsTime setup (new_fall setup act life fall) (greatest_by setup act life greatest) (moment_of act)
    (lived setup act life)
waits_after setup fall greatest t act (present outcome) order words h = while_present_waits setup fall greatest t act
    outcome order words h
waits_after setup fall greatest t act (backing_off outcome backoff) order words h =
    while_backing_off_waits setup fall greatest t act outcome backoff words h
waits_after setup fall greatest t act (finished outcome) order words h = tt

-- ---- Sessions

-- A change of identifier makes no difference.
name_keeps_time : (setup : Setup) (fall greatest t : ℕ) (life : Life) → KeepsTime setup fall greatest t life →
    KeepsTime setup fall greatest t (with_new_ssrc setup life)
name_keeps_time setup fall greatest t (present outcome) h =
    record { known = h.known; fell = h.fell; drawn = h.drawn; past = h.past }
name_keeps_time setup fall greatest t (backing_off outcome backoff) h =
    cond_both (has_sent outcome.own) _ backoff (WaitsToLeave greatest) (λ _. record { fell = h.fell; drawn = h.drawn })
    (λ _. h)
name_keeps_time setup fall greatest t (finished outcome) h = tt

keeps_with_ssrc : (setup : Setup) (ssrc fall greatest t : ℕ) (life : Life) → KeepsTime setup fall greatest t life →
    KeepsTime (with_ssrc ssrc setup) fall greatest t life
keeps_with_ssrc setup ssrc fall greatest t (present outcome) h =
    record { known = h.known; fell = h.fell; drawn = h.drawn; past = h.past }
keeps_with_ssrc setup ssrc fall greatest t (backing_off outcome backoff) h = h
keeps_with_ssrc setup ssrc fall greatest t (finished outcome) h = tt

-- Nor do other settings.
keeps_with_settings : (setup : Setup) (act : Act) (fall greatest t : ℕ) (life : Life) →
    KeepsTime setup fall greatest t life → KeepsTime (setup_after act setup) fall greatest t life
keeps_with_settings setup (configured moment settings) fall greatest t (present outcome) h =
    record { known = h.known; fell = h.fell; drawn = h.drawn; past = h.past }
keeps_with_settings setup (configured moment settings) fall greatest t (backing_off outcome backoff) h = h
keeps_with_settings setup (configured moment settings) fall greatest t (finished outcome) h = tt
keeps_with_settings setup act fall greatest t life h = h

change_keeps_time : (session : Session) (fall greatest t : ℕ) (change : Option NewIdentifier) →
    KeepsTime session.setup fall greatest t session.life → KeepsTime (changed_by change session).setup fall greatest t
    (changed_by change session).life
change_keeps_time session fall greatest t None h = h
change_keeps_time session fall greatest t (Some new) h =
    keeps_with_ssrc session.setup new.ssrc fall greatest t (with_new_ssrc session.setup session.life)
    (name_keeps_time session.setup fall greatest t session.life h)

pub session_keeps_time : (setup : Setup) (word : ℕ) (acts : List Act) → word < 2 ^ 32 → AllTaken setup word acts →
    let session = session_of setup word acts in
    KeepsTime session.setup (last_fall setup word acts) (greatest_interval setup word acts) (last_moment acts)
    session.life
session_keeps_time setup word [] fits taken = record {
  known = omega arith;
  fell = omega arith;
  drawn = draw_fits (interval_at setup nothing_yet) (interval_at setup nothing_yet) word fits (omega arith);
  past = omega arith;
}
session_keeps_time setup word (act ∷ earlier) fits taken =
    let before = session_of setup word earlier in
    let change = change_by before act in
    let now = changed_by change before in
    keeps_with_settings now.setup act _ _ (moment_of act)
    (lived now.setup act now.life)
    (waits_after now.setup (last_fall setup word earlier) (greatest_interval setup word earlier) (last_moment earlier)
    act now.life
    (in_time (record { setup = setup; word = word; acts = earlier }) act taken.0) taken.1
    (change_keeps_time before _ _ _ change (session_keeps_time setup word earlier fits taken.2)))

-- ---- Ticks that come late

-- what is due is sent
due_comes : (timing : Timing) (moment interval : ℕ) → IsDue timing moment interval →
    IsTrue (nat_le timing.next moment && nat_le (timing.last + interval) moment)
due_comes timing moment interval due =
    subst (λ (b : Bool). IsTrue (b && nat_le (timing.last + interval) moment))
    (sym (le-leb timing.next moment due.came))
    (subst IsTrue (sym (le-leb (timing.last + interval) moment due.passed)) refl)

some_if : {A : Type 0} → (b : Bool) (x : A) → IsTrue b → IsTrue (is_some (if b then Some x else None))
some_if {A} true x h = refl
some_if {A} false x h = absurd cc

some_map : {A B : Type 0} → (f : A → B) (found : Option A) → IsTrue (is_some found) →
    IsTrue (is_some (option_map f found))
some_map {A} {B} f (Some x) h = refl
some_map {A} {B} f None h = absurd cc

-- all that a schedule asks for has passed
comes_due : (events : List Happening) (sent fall moment interval greatest word : ℕ) → IsInOrder events →
    newest_transmission events ≡ sent → last_departure events ≤ fall → word < 2 ^ 32 →
    greatest_draw events ≤ longest_draw greatest
    → sent + longest_draw (max interval greatest) ≤ moment → fall + longest_draw (max interval greatest) ≤ moment →
    IsTrue (nat_le (schedule_at events).next moment
    && nat_le ((schedule_at events).last + drawn_interval interval word) moment)
comes_due events sent fall moment interval greatest word in_order newest fell fits drawn since_sent since_fall =
    let most = drawn_too interval greatest (greatest_draw events) word fits drawn in
    due_comes (schedule_at events) moment (drawn_interval interval word)
    (due_in_time events moment (drawn_interval interval word) in_order (omega (arith, most, newest, since_sent))
    (omega (arith, most, fell, since_fall)))

report_in_time : (setup : Setup) (fall greatest t moment first_word second_word sent : ℕ) (outcome : Outcome) →
    first_word < 2 ^ 32 → t ≤ moment → AreUpTo t outcome.happenings
    → newest_transmission outcome.happenings ≡ sent → Waits setup fall greatest t outcome
    → let now = checked setup moment outcome in let wait = longest_draw (max (interval_at setup now) greatest) in
    sent + wait ≤ moment → new_fall setup (ticked moment first_word second_word) (present outcome) fall + wait
    ≤ moment → IsTrue (is_report_due setup moment first_word now)
report_in_time setup fall greatest t moment first_word second_word sent outcome fits order up_to newest h since_sent
    since_fall =
    let now = checked setup moment outcome in
    let counted = tick_checks setup fall greatest t moment first_word second_word outcome order h in
    comes_due now.happenings sent (new_fall setup (ticked moment first_word second_word) (present outcome) fall) moment
    (interval_at setup now) greatest first_word (omega (arith, order, up_to.past), up_to.in_order) newest counted.fell
    fits counted.drawn since_sent since_fall

bye_in_time : (setup : Setup) (greatest t moment first_word : ℕ) (backoff : Backoff) → first_word < 2 ^ 32 →
    IsInOrder backoff.happenings → newest_transmission backoff.happenings ≡ backoff.since
    → WaitsToLeave greatest backoff → backoff.since + longest_draw (max (leaving_interval setup backoff) greatest)
    ≤ moment → IsTrue (is_bye_due setup moment first_word backoff)
bye_in_time setup greatest t moment first_word backoff fits in_order newest h since =
    comes_due backoff.happenings backoff.since backoff.since moment (leaving_interval setup backoff) greatest first_word
    in_order newest h.fell fits h.drawn since since

-- ---- Lives

tick_in_time : (setup : Setup) (fall greatest t limit : ℕ) (leave : Option ℕ) (moment first_word second_word : ℕ)
    (sent : List Sent) (life : Life) → HasWords (ticked moment first_word second_word) → t ≤ moment
    → KeepsApart limit t leave life sent → KeepsTime setup fall greatest t life
    → HasWaited (longest_draw (max (interval_by setup (ticked moment first_word second_word) life) greatest)) moment
    (new_fall setup (ticked moment first_word second_word) life fall) sent life
    → IsTrue (is_some (out_by setup (ticked moment first_word second_word) life))
tick_in_time setup fall greatest t limit leave moment first_word second_word sent (present outcome) words order apart h
    late =
    let now = checked setup moment outcome in
    let due = report_in_time setup fall greatest t moment first_word second_word (newest_moment (reports_in sent))
    outcome words.0 order apart.up_to
    apart.newest h late.0 late.1 in
    some_map report_out _ (some_if (is_report_due setup moment first_word now) (report_octets setup moment now) due)
tick_in_time setup fall greatest t limit leave moment first_word second_word sent (backing_off outcome backoff) words
    order apart h late =
    some_if (is_bye_due setup moment first_word backoff) (bye_out (bye_octets setup))
    (bye_in_time setup greatest t moment first_word backoff words.0 apart.up_to.in_order apart.newest h late)
tick_in_time setup fall greatest t limit leave moment first_word second_word sent (finished outcome) words order apart h
    late = absurd late

-- after a history, and for an act that is taken
pub in_time_after : (history : History) (act : Act) → IsHistory history → refusal_after history act ≡ None →
    HasWords act → IsInTime history act
in_time_after history (ticked moment first_word second_word) is taken words = λ late.
    tick_in_time (setup_at history) (last_fall history.setup history.word history.acts)
    (greatest_interval history.setup history.word history.acts) (last_moment history.acts) history.setup.limit
    (first_leave history.acts) moment first_word second_word (sent_at history) (life_at history) words
    (in_time history (ticked moment first_word second_word) taken)
    (session_keeps_apart history.setup history.word history.acts is.usable is.taken)
    (session_keeps_time history.setup history.word history.acts is.word is.taken) late
in_time_after history act is taken words = tt

pub all_in_time : (setup : Setup) (word : ℕ) (acts : List Act) → IsUsable setup → word < 2 ^ 32 →
    AllTaken setup word acts → AllInTime setup word acts
all_in_time setup word [] usable fits taken = tt
all_in_time setup word (act ∷ earlier) usable fits taken = (
  in_time_after (record { setup = setup; word = word; acts = earlier }) act
      (record { usable = usable; word = fits; taken = taken.2 }) taken.0 taken.1,
  all_in_time setup word earlier usable fits taken.2,
)

-- ---- Answers

-- a history before one act more is one, and the words of the act are in range if it is taken
pub one_less : (h : History) (act : Act) (refusal : Option Refusal) → refusal_after h act ≡ refusal →
    IsHistory (elim refusal [ None ↦ with_act h act | Some reason ↦ h ]) →
    IsHistory h × (refusal ≡ None → HasWords act)
one_less h act None is history = (
  record { usable = history.usable; word = history.word; taken = history.taken.2 },
  λ none. history.taken.1,
)
one_less h act (Some reason) is history = (history, λ none. absurd cc)

-- A tick that comes late, and is taken, is answered by a compound.
pub answered_in_time : (h : History) (act : Act) → IsHistory (followed_by h act) →
    IsAnsweredInTime h act (answer_of h act)
answered_in_time h (ticked moment first_word second_word) is = λ late taken.
    let act = ticked moment first_word second_word in
    let (before, words) = one_less h act (refusal_after h act) refl is in
    subst HasCompound (sym (ap (λ (r : Option Refusal). answer_unless r (step_by h act)) taken))
    (in_time_after h act before taken (words taken) late)
answered_in_time h act is = tt
