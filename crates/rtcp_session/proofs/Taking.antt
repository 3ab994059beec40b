-- A compound that a participant took stands in the trace by which it decides on each later report.
use Rattle.std.proofs.Common.{◌≡◌, ℕ, zero, suc, ◌<◌, ◌≤◌, ◌||◌, nat_lt, nat_le, Bool, true, false, cond, List, [], ◌∷◌, length, map, All, Contains, Option, Some, None, Ok, Err, option_map, if◌then◌else◌, refl, sym, ap, ◌∙◌, arith, subst}
use Rattle.std.specs.Option.{option_or}
use Rattle.std.proofs.lemmas.Bool.{cond_both, eq-eqb, ltb-false}
use Rattle.std.proofs.lemmas.List.Elements.{All-nil, All-cons, All-append, All-weaker}
use Rattle.rtcp_wire.specs.declared.fact.Fact.{Fact}
use Rattle.rtcp_wire.specs.declared.fact.Fact.TheVariants.{Named}
use Rattle.rtcp_wire.specs.Values.{RtcpPacket}
use Rattle.rtcp_wire.specs.Facts.{facts_of}
use Rattle.rtcp_members.specs.Traces.{TraceStep, fact_came, check_made, block_made_of, with_facts, source_forgotten, with_blocks}
use Rattle.rtcp_members.specs.Entries.{gives_name, counted_at}
use Rattle.rtcp_engine.specs.declared.refusal.Refusal.{Refusal}
use Rattle.rtcp_engine.specs.declared.refusal.Refusal.TheVariants.{Backwards}
use Rattle.rtcp_engine.specs.answers.Setups.{Setup}
use Rattle.rtcp_engine.specs.answers.Acts.{Act, Datagram, rtcp, rtp, arrived, rtp_sent, ticked, left, configured, moment_of, forgotten, OutValue}
use Rattle.rtcp_engine.specs.declared.changes.IdentifierChange.{IdentifierChange}
use Rattle.rtcp_engine.specs.bounds.Sent.{Sent, is_report, reports_in, sent_with}
use Rattle.rtcp_engine.specs.answers.Outcomes.{Outcome, member_count, check_interval, interval_at}
use Rattle.rtcp_engine.specs.answers.Ticks.{checked, report_due, horizons_of, after_tick, has_come, has_passed, put_off, reported}
use Rattle.rtcp_engine.specs.answers.Reporting.{reported_at}
use Rattle.rtcp_engine.specs.answers.Arrivals.{facts_of_media, media_fact, rate_of}
use Rattle.rtcp_engine.specs.answers.Leaving.{Life, present, backing_off, finished, few_members, is_bye_due, sent_nothing}
use Rattle.rtcp_engine.specs.answers.Lives.{lived, report_out, with_new_ssrc, with_datagram}
use Rattle.rtcp_engine.specs.answers.Changes.{NewIdentifier, Session, change_by, changed_by}
use Rattle.rtcp_engine.specs.answers.Histories.{History, last_moment, session_at, session_of}
use Rattle.rtcp_engine.specs.answers.Answers.{refusal_after, refusal_in, refusal_of_content, call_refusal}
use Rattle.rtcp_engine.specs.state.Taken.{AllTaken, IsHistory}
use Rattle.rtcp_session.specs.Windows.{Decided, decided_by, decided_over, decided_at}
use Rattle.rtcp_session.specs.Deliveries.{is_named_in}
use Rattle.rtcp_session.proofs.Deciding.{decided_as, such_by}

-- ---- Traces that grow

module _ (ssrc : ℕ) where
  abbrev Knows : List TraceStep → Type 0
  Knows trace = is_named_in ssrc trace ≡ true

  one_more : (step : TraceStep) (trace : List TraceStep) → Knows trace → Knows (step ∷ trace)
  one_more step trace is = by (gives_name ssrc step) (is_named_in ssrc trace) is
    where
      by : (a b : Bool) → b ≡ true → (a || b) ≡ true
      by true b is = refl
      by false b is = is

  more_facts : (facts : List Fact) (moment : ℕ) (trace : List TraceStep) → Knows trace →
      Knows (with_facts facts moment trace)
  more_facts [] moment trace is = is
  more_facts (fact ∷ facts) moment trace is =
      more_facts facts moment (fact_came fact moment ∷ trace) (one_more (fact_came fact moment) trace is)

  more_blocks : (ssrcs : List ℕ) (trace : List TraceStep) → Knows trace → Knows (with_blocks ssrcs trace)
  more_blocks [] trace is = is
  more_blocks (reported ∷ ssrcs) trace is =
      more_blocks ssrcs (block_made_of reported ∷ trace) (one_more (block_made_of reported) trace is)

  -- the CNAME among the facts of a compound
  gives : (fact : Fact) (moment : ℕ) → fact ≡ Named ssrc → gives_name ssrc (fact_came fact moment) ≡ true
  gives fact moment is =
      ap (λ (fact : Fact). gives_name ssrc (fact_came fact moment)) is ∙ eq-eqb ssrc ssrc refl

  named_by_facts : (facts : List Fact) (moment : ℕ) (trace : List TraceStep) → Contains facts (Named ssrc) →
      Knows (with_facts facts moment trace)
  named_by_facts [] moment trace (k, inside, is) = absurd (omega (arith, inside))
  named_by_facts (fact ∷ facts) moment trace (zero, inside, is) =
      more_facts facts moment (fact_came fact moment ∷ trace)
      (ap (λ (b : Bool). b || is_named_in ssrc trace) (gives fact moment is))
  named_by_facts (fact ∷ facts) moment trace (suc k, inside, is) =
      named_by_facts facts moment (fact_came fact moment ∷ trace) (k, omega (arith, inside), is)

  -- ---- Lives

  abbrev KnowsIn : Life → Type 0
  KnowsIn (present outcome) = Knows outcome.trace
  KnowsIn (backing_off outcome backoff) = Unit {0}
  KnowsIn (finished outcome) = Unit {0}

  arrived_known : (setup : Setup) (t : ℕ) (datagram : Datagram) (outcome : Outcome) → Knows outcome.trace →
      Knows (with_datagram setup t datagram outcome).trace
  arrived_known setup t (rtcp size (Ok packets)) outcome is = more_facts (facts_of packets) t outcome.trace is
  arrived_known setup t (rtcp size (Err fault)) outcome is = is
  arrived_known setup t (rtp (Ok head)) outcome is =
      let rate : ℕ = rate_of setup head in
      more_facts (facts_of_media setup.ssrc rate head
      (counted_at setup.capacity outcome.trace (media_fact rate head))) t outcome.trace is
  arrived_known setup t (rtp (Err fault)) outcome is = is

  checked_known : (setup : Setup) (t : ℕ) (outcome : Outcome) → Knows outcome.trace →
      Knows (checked setup t outcome).trace
  checked_known setup t outcome is = one_more (check_made (horizons_of t (check_interval setup t outcome)))
      outcome.trace is

  ticked_known : (setup : Setup) (t first_word second_word : ℕ) (outcome : Outcome) → Knows outcome.trace →
      Knows (after_tick setup t first_word second_word outcome).trace
  ticked_known setup t first_word second_word outcome is =
      let now = checked setup t outcome in
      let known = checked_known setup t outcome is in
      let P : Outcome → Type 0 = λ (outcome : Outcome). Knows outcome.trace in
      cond_both (has_come t now) (if has_passed setup t first_word now then reported setup t second_word now else
      put_off setup t first_word now) now P
      (λ _. cond_both (has_passed setup t first_word now) (reported setup t second_word now)
      (put_off setup t first_word now) P
      (λ _. more_blocks (reported_at setup t now) now.trace known) (λ _. known))
      (λ _. known)

  lived_known : (setup : Setup) (act : Act) (life : Life) → KnowsIn life → KnowsIn (lived setup act life)
  lived_known setup (arrived moment peer word datagram) (present outcome) is =
      arrived_known setup moment datagram outcome is
  lived_known setup (rtp_sent moment timestamp octets) (present outcome) is = is
  lived_known setup (ticked moment first_word second_word) (present outcome) is =
      ticked_known setup moment first_word second_word outcome is
  lived_known setup (left moment word) (present outcome) is =
      cond_both (sent_nothing outcome) (finished outcome) _ KnowsIn (λ _. tt)
      (λ _. cond_both (nat_le (member_count setup outcome) few_members) (finished outcome) _ KnowsIn (λ _. tt)
      (λ _. tt))
  lived_known setup (configured moment settings) (present outcome) is = is
  lived_known setup (forgotten moment ssrc) (present outcome) is =
      one_more (source_forgotten ssrc) outcome.trace is
  lived_known setup (arrived moment peer word (rtcp size reading)) (backing_off outcome backoff) is = tt
  lived_known setup (arrived moment peer word (rtp reading)) (backing_off outcome backoff) is = tt
  lived_known setup (rtp_sent moment timestamp octets) (backing_off outcome backoff) is = tt
  lived_known setup (ticked moment first_word second_word) (backing_off outcome backoff) is =
      cond_both (is_bye_due setup moment first_word backoff) (finished outcome) _ KnowsIn (λ _. tt) (λ _. tt)
  lived_known setup (left moment word) (backing_off outcome backoff) is = tt
  lived_known setup (configured moment settings) (backing_off outcome backoff) is = tt
  lived_known setup (forgotten moment ssrc) (backing_off outcome backoff) is = tt
  lived_known setup act (finished outcome) is = tt

  renamed_known : (setup : Setup) (life : Life) → KnowsIn life → KnowsIn (with_new_ssrc setup life)
  renamed_known setup (present outcome) is = is
  renamed_known setup (backing_off outcome backoff) is = tt
  renamed_known setup (finished outcome) is = tt

  changed_known : (session : Session) (change : Option NewIdentifier) → KnowsIn session.life →
      KnowsIn (changed_by change session).life
  changed_known session None is = is
  changed_known session (Some new) is = renamed_known session.setup session.life is

  -- the compound itself
  taken_now : (setup : Setup) (t peer word size : ℕ) (packets : List RtcpPacket) (life : Life) →
      Contains (facts_of packets) (Named ssrc) →
      KnowsIn (lived setup (arrived t peer word (rtcp size (Ok packets))) life)
  taken_now setup t peer word size packets (present outcome) named =
      named_by_facts (facts_of packets) t outcome.trace named
  taken_now setup t peer word size packets (backing_off outcome backoff) named = tt
  taken_now setup t peer word size packets (finished outcome) named = tt

-- ---- Moments of reports

abbrev IsAt : (moment : ℕ) → Decided → Type 0
IsAt moment decided = decided.report.moment ≡ moment

one_moment : (setup : Setup) (outcome : Outcome) (report : Sent) (kept : Bool) →
    All (IsAt report.moment) (map (decided_as setup outcome) (cond kept (report ∷ []) []))
one_moment setup outcome report true =
    All-cons (IsAt report.moment) (decided_as setup outcome report) [] refl (All-nil (IsAt report.moment))
one_moment setup outcome report false = All-nil (IsAt report.moment)

sent_moments : (setup : Setup) (outcome : Outcome) (t interval : ℕ) (changes : Bool) (out : Option OutValue) →
    All (IsAt t) (map (decided_as setup outcome) (reports_in (sent_with t interval changes out)))
sent_moments setup outcome t interval changes None = All-nil (IsAt t)
sent_moments setup outcome t interval changes (Some out) =
    let report : Sent = record { moment = t; interval = interval; out = out; changes = changes } in
    one_moment setup outcome report (is_report report)

moments_by : (setup : Setup) (changes : List IdentifierChange) (act : Act) (life : Life) →
    All (IsAt (moment_of act)) (decided_by (record { setup = setup; changes = changes; life = life }) act)
moments_by setup changes (ticked moment first_word second_word) (present outcome) =
    let now = checked setup moment outcome in
    sent_moments setup now moment (interval_at setup now) false
    (option_map report_out (report_due setup moment first_word now))
moments_by setup changes act life = All-nil (IsAt (moment_of act))

-- An act that is taken does not lie before the last one.
call_taken : (life : Life) (call own : Option Refusal) → refusal_in life (option_or call own) ≡ None → call ≡ None
call_taken (present outcome) None own none = refl
call_taken (present outcome) (Some refusal) own none = absurd cc
call_taken (backing_off outcome backoff) None own none = refl
call_taken (backing_off outcome backoff) (Some refusal) own none = absurd cc
call_taken (finished outcome) call own none = absurd cc

in_order : (back : Bool) (others : Option Refusal) → (if back then Some Backwards else others) ≡ None → back ≡ false
in_order true others none = absurd cc
in_order false others none = refl

pub in_time : (history : History) (act : Act) → refusal_after history act ≡ None →
    last_moment history.acts ≤ moment_of act
in_time history act none =
    ltb-false (moment_of act) (last_moment history.acts)
    (in_order (nat_lt (moment_of act) (last_moment history.acts)) _
    (call_taken (session_at history).life
    (call_refusal (moment_of act) (last_moment history.acts) (length history.acts))
    (refusal_of_content (session_at history) act) none))

abbrev IsBy : (latest : ℕ) → Decided → Type 0
IsBy latest decided = decided.report.moment ≤ latest

all_by : (setup : Setup) (word : ℕ) (acts : List Act) → AllTaken setup word acts →
    All (IsBy (last_moment acts)) (decided_over setup word acts)
all_by setup word [] taken = All-nil (IsBy 0)
all_by setup word (act ∷ earlier) taken =
    let before = session_of setup word earlier in
    let order = in_time (record { setup = setup; word = word; acts = earlier }) act taken.0 in
    let moments = moments_by before.setup before.changes act before.life in
    let rest = all_by setup word earlier taken.2 in
    All-append (IsBy (moment_of act)) (decided_by before act) (decided_over setup word earlier)
    (λ k d inside. (let same = moments k d inside in omega (arith, same)))
    (λ k d inside. (let early = rest k d inside in omega (arith, early, order)))

-- ---- Histories

module _ (ssrc at peer word size : ℕ) (packets : List RtcpPacket) (named : Contains (facts_of packets) (Named ssrc))
  where
    abbrev came : Act
    came = arrived at peer word (rtcp size (Ok packets))

    session_knows : (setup : Setup) (start_word : ℕ) (acts : List Act) → Contains acts came →
        KnowsIn ssrc (session_of setup start_word acts).life
    session_knows setup start_word [] (k, inside, is) = absurd (omega (arith, inside))
    session_knows setup start_word (act ∷ earlier) (zero, inside, is) =
        let before = session_of setup start_word earlier in
        let now = changed_by (change_by before act) before in
        subst (λ (act' : Act). KnowsIn ssrc (lived now.setup act' now.life)) (sym is)
        (taken_now ssrc now.setup at peer word size packets now.life named)
    session_knows setup start_word (act ∷ earlier) (suc k, inside, is) =
        let before = session_of setup start_word earlier in
        let change = change_by before act in
        lived_known ssrc (changed_by change before).setup act (changed_by change before).life
        (changed_known ssrc before change (session_knows setup start_word earlier (k, omega (arith, inside), is)))

    abbrev KnowsLater : Decided → Type 0
    KnowsLater decided = at < decided.report.moment → Knows ssrc decided.outcome.trace

    knows_over : (setup : Setup) (start_word : ℕ) (acts : List Act) → AllTaken setup start_word acts →
        Contains acts came → All KnowsLater (decided_over setup start_word acts)
    knows_over setup start_word [] taken there = All-nil KnowsLater
    knows_over setup start_word (act ∷ earlier) taken (zero, inside, is) =
        let last = all_by setup start_word (act ∷ earlier) taken in
        let same : moment_of act ≡ at = ap moment_of is in
        λ k d within later. absurd (let by = last k d within in omega (arith, by, same, later))
    knows_over setup start_word (act ∷ earlier) taken (suc k, inside, is) =
        let before = session_of setup start_word earlier in
        let there : Contains earlier came = (k, omega (arith, inside), is) in
        let knows = session_knows setup start_word earlier there in
        All-append KnowsLater (decided_by before act) (decided_over setup start_word earlier)
        (All-weaker (λ (decided : Decided). Knows ssrc decided.outcome.trace) KnowsLater (λ decided is later. is)
        (decided_by before act)
        (such_by (λ (now : Setup) (outcome : Outcome). Knows ssrc outcome.trace) before.setup before.changes act
        before.life
        (λ moment outcome is_present. checked_known ssrc before.setup moment outcome
        (subst (KnowsIn ssrc) is_present knows))))
        (knows_over setup start_word earlier taken.2 there)

    -- A compound that was taken before a report stands in the trace that decided on it.
    pub taken_are_known : (history : History) → IsHistory history → Contains history.acts came →
        All KnowsLater (decided_at history)
    taken_are_known history is there = knows_over history.setup history.word history.acts is.taken there
