-- The steps of a participant, each by what the calls in it ensure.
use Rattle.std.proofs.Common.{◌≡◌, ℕ, ◌+◌, ◌-◌, ◌*◌, ◌<◌, ◌≤◌, ◌&&◌, Bool, true, false, List, [], ◌∷◌, length, Option, Some, None, option_map, if◌then◌else◌, refl, sym, ap, ◌∙◌, subst, nat_le, inl, inr}
use Rattle.std.proofs.lemmas.Bool.{cases_lt, le-leb, lt-leb}
use Rattle.rtcp_clock.specs.Intervals.{drawn_interval}
use Rattle.rtcp_wire.specs.Facts.{facts_of}
use Rattle.rtcp_wire.specs.Values.{RtcpPacket, RtpValue}
use Rattle.rtcp_members.specs.Traces.{Horizons}
use Rattle.rtcp_members.specs.Tables.{TableValue, after_check, after_facts, counted, after_forgetting}
use Rattle.rtcp_members.specs.Pending.{after_blocks, last_reported}
use Rattle.rtcp_members.proofs.LawLemmas as tables
use Rattle.rtcp_timer.specs.Averages.{moved_average}
use Rattle.rtcp_timer.specs.Schedules.{Happening, Timing, after, tried, transmitted}
use Rattle.rtcp_engine.specs.answers.Setups.{Setup}
use Rattle.rtcp_engine.specs.answers.OwnStreams.{OwnValue, Adds, packet_sent, check_passed, report_sent}
use Rattle.rtcp_engine.specs.answers.Lives.{report_out, with_media}
use Rattle.rtcp_engine.specs.answers.Outcomes.{Outcome, member_count, timing_of, interval_at, check_interval}
use Rattle.rtcp_engine.specs.answers.Reporting.{report_octets}
use Rattle.rtcp_engine.specs.answers.Leaving.{Backoff, after_wait, backoff_from, is_bye_due, leaving_average, leaving_count, leaving_interval, leaving_load, leaving_timing, with_byes_of}
use Rattle.rtcp_engine.specs.answers.Arrivals.{facts_of_media, media_fact, rate_of, with_facts_of, with_packet}
use Rattle.rtcp_engine.specs.answers.Acts.{OutValue}
use Rattle.rtcp_engine.specs.answers.Ticks.{horizons_of, with_check, without_silent, has_come, has_passed, is_report_due, put_off, tried_at, report_due, with_report, reported, after_check as after_check_at, with_forgotten}
use Rattle.rtcp_engine.specs.state.States.{State, Agrees, Does, DoesWaiting, Stays, Waits, KeepsCapacity}
use Rattle.rtcp_engine.proofs.Agreeing.{load, facts_agree, media_agree, sizes_agree, with_own, rows_in, octets_in, octets_agree, sent_reports_agree, forgotten_agree, table_agrees}

-- ---- Steps one after the other

pub both : {a b c : State} {f g : Setup → Outcome → Outcome} → Does a b f → Does b c g →
    Does a c (λ setup outcome. g setup (f setup outcome))
both {a} {b} {c} {f} {g} first second = record {
  stays = record {
    setup = second.stays.setup ∙ first.stays.setup;
    latest = second.stays.latest ∙ first.stays.latest;
    calls = second.stays.calls ∙ first.stays.calls;
  };
  within = second.within;
  follows = λ outcome agrees. subst (λ (setup : Setup). Agrees c (g setup (f a.setup outcome))) first.stays.setup
      (second.follows (f a.setup outcome) (first.follows outcome agrees));
}

-- the same, where the second step tells the moment of the latest call, which the first one leaves
pub both_now : {a b c : State} {f : Setup → Outcome → Outcome} (g : (t : ℕ) → Setup → Outcome → Outcome) → Does a b f →
    Does b c (g b.latest) → Does a c (λ setup outcome. g a.latest setup (f setup outcome))
both_now {a} {b} {c} {f} g first second = both first (subst (λ (t : ℕ). Does b c (g t)) first.stays.latest second)

-- what is known at the moment of the latest call inside is known at that outside
pub at_latest : {s w : State} → s ≡ w → (P : ℕ → Type 0) → P s.latest → P w.latest
at_latest {s} {w} is P inside = subst (λ (x : State). P x.latest) is inside

pub does_at : {s w v : State} → s ≡ w → (step : (t : ℕ) → Setup → Outcome → Outcome) → Does w v (step s.latest) →
    Does w v (step w.latest)
does_at {s} {w} {v} is step = at_latest is (λ t. Does w v (step t))

pub seen : {s w : State} → s ≡ w → (outcome : Outcome) → Agrees w outcome → Agrees s outcome
seen {s} {w} is outcome agrees = subst (λ (x : State). Agrees x outcome) (sym is) agrees

-- what is known of the numbers inside is known of those outside
pub of_view : {A : Type 0} {s w : State} {a : A} → s ≡ w → (exact : Setup → Outcome → A) →
    ((outcome : Outcome) → Agrees s outcome → a ≡ exact s.setup outcome) → (outcome : Outcome) → Agrees w outcome →
    a ≡ exact w.setup outcome
of_view {A} {s} {w} {a} is exact inside = subst (λ (x : State). (outcome : Outcome) → Agrees x outcome →
    a ≡ exact x.setup outcome) is inside

pub stays_by : {s w v : State} → s ≡ w → v.setup ≡ s.setup → v.latest ≡ s.latest → v.calls ≡ s.calls → Stays w v
stays_by {s} {w} {v} is setup latest calls = record {
  setup = setup ∙ ap (λ (x : State). x.setup) is;
  latest = latest ∙ ap (λ (x : State). x.latest) is;
  calls = calls ∙ ap (λ (x : State). x.calls) is;
}

-- ---- The schedule

abbrev pub with_timing : Timing → State → State
with_timing timing s = record s { timing = timing }

abbrev pub with_happening : Happening → Outcome → Outcome
with_happening happening outcome = record outcome { happenings = happening ∷ outcome.happenings }

happens : {s : State} {outcome : Outcome} → Agrees s outcome → (happening : Happening) (timing : Timing) →
    timing ≡ after happening s.timing → Agrees (with_timing timing s) (with_happening happening outcome)
happens {s} {outcome} a happening timing is = record {
  timing = is ∙ ap (after happening) a.timing;
  average = a.average;
  pace = a.pace;
  still = with_own s outcome a.still a.still.own;
}

-- what happens to the schedule, and to nothing else
pub schedules : {s w : State} → s ≡ w → (timing : Timing) (happening : Setup → Outcome → Happening) →
    ((outcome : Outcome) → Agrees w outcome → timing ≡ after (happening w.setup outcome) s.timing) → KeepsCapacity s
    → Does w (with_timing timing s) (λ setup outcome. with_happening (happening setup outcome) outcome)
schedules {s} {w} is timing happening steps within = record {
  stays = stays_by is refl refl refl;
  within = within;
  follows = λ outcome a. happens (seen is outcome a) (happening w.setup outcome) timing (steps outcome a);
}

-- an interval and a number of members are those of each outcome
abbrev pub IsInterval : State → ℕ → Type 0
IsInterval w td = (outcome : Outcome) → Agrees w outcome → td ≡ interval_at w.setup outcome

abbrev pub AreMembers : State → ℕ → Type 0
AreMembers w members = (outcome : Outcome) → Agrees w outcome → members ≡ member_count w.setup outcome

pub draws : {s w : State} → s ≡ w → (timing : Timing) (happening : ℕ → ℕ → Happening) (word td members : ℕ) →
    IsInterval w td → AreMembers w members
    → timing ≡ after (happening (drawn_interval td word) members) s.timing → KeepsCapacity s
    → Does w (with_timing timing s)
    (λ setup outcome. with_happening
    (happening (drawn_interval (interval_at setup outcome) word) (member_count setup outcome)) outcome)
draws {s} {w} is timing happening word td members interval counts steps within =
    schedules is timing (λ setup outcome. happening (drawn_interval (interval_at setup outcome) word)
    (member_count setup outcome))
    (λ outcome a. steps
    ∙ ap (λ (d : ℕ). after (happening (drawn_interval d word) members) s.timing) (interval outcome a)
    ∙ ap (λ (m : ℕ). after (happening (drawn_interval (interval_at w.setup outcome) word) m) s.timing)
    (counts outcome a))
    within

-- ---- Whether a report is due

come_by : {s : State} {outcome : Outcome} → Agrees s outcome → (t : ℕ) → has_come t outcome ≡ nat_le s.timing.next t
come_by {s} {outcome} a t = ap (λ (x : Timing). nat_le x.next t) (sym a.timing)

pub tries : {s w : State} → s ≡ w → (timing : Timing) (t word td members : ℕ) → IsInterval w td → AreMembers w members
    → (t < s.timing.next → timing ≡ s.timing) →
    (s.timing.next ≤ t → timing ≡ after (tried t (drawn_interval td word) members) s.timing) → KeepsCapacity s
    → Does w (with_timing timing s) (λ setup. tried_at setup t word)
tries {s} {w} is timing t word td members interval counts unchanged steps within = record {
  stays = stays_by is refl refl refl;
  within = within;
  follows = λ outcome a.
      let come = come_by (seen is outcome a) t in
      let to : Bool → Outcome = λ b. if b then put_off w.setup t word outcome else outcome in
      elim (cases_lt t s.timing.next) [
        | inl early ↦
            subst (λ (b : Bool). Agrees (with_timing timing s) (to b)) (sym (come ∙ lt-leb s.timing.next t early))
            (subst (λ (x : Timing). Agrees (with_timing x s) outcome) (sym (unchanged early)) (seen is outcome a))
        | inr late ↦
            subst (λ (b : Bool). Agrees (with_timing timing s) (to b)) (sym (come ∙ le-leb s.timing.next t late))
            ((draws is timing (λ interval many. tried t interval many) word td members interval counts (steps late)
            within).follows outcome a)
      ];
}

pub due_by : {s w : State} → s ≡ w → (t word td : ℕ) → IsInterval w td → (outcome : Outcome) → Agrees w outcome →
    (nat_le s.timing.next t && nat_le (s.timing.last + drawn_interval td word) t) ≡ is_report_due w.setup t word outcome
due_by {s} {w} is t word td interval outcome a =
    ap (λ (x : Timing). nat_le x.next t && nat_le (x.last + drawn_interval td word) t)
    (ap (λ (x : State). x.timing) is ∙ a.timing)
    ∙ ap (λ (d : ℕ). has_come t outcome && nat_le ((timing_of outcome).last + drawn_interval d word) t)
    (interval outcome a)

-- where no report is due, asking has made all of the tick
undue : (setup : Setup) (t first_word second_word : ℕ) (outcome : Outcome) (come passed : Bool) →
    (come && passed) ≡ false
    → (if come then put_off setup t first_word outcome else outcome)
    ≡ (if come then (if passed then reported setup t second_word outcome else put_off setup t first_word outcome) else
    outcome)
undue setup t first_word second_word outcome true true h = absurd cc
undue setup t first_word second_word outcome come passed h = refl

-- a report leaves nothing of the schedule before it
due : (s : State) (setup : Setup) (t first_word second_word : ℕ) (outcome : Outcome) (come passed : Bool) →
    (come && passed) ≡ true
    → Agrees s (reported setup t second_word (if come then put_off setup t first_word outcome else outcome))
    → Agrees s (if come then (if passed then reported setup t second_word outcome else put_off setup t first_word
    outcome) else outcome)
due s setup t first_word second_word outcome true true h a = record {
  timing = a.timing;
  average = a.average;
  pace = a.pace;
  still = with_own s (reported setup t second_word (put_off setup t first_word outcome)) a.still a.still.own;
}
due s setup t first_word second_word outcome come passed h a = absurd cc

-- ---- Checks

pub checks_agree : (s : State) (outcome : Outcome) (horizons : Horizons) (own : OwnValue) →
    Adds s.own own (check_passed horizons.idle) → Agrees s outcome
    → Agrees (record s { table = after_check horizons s.table; own = own }) (with_check horizons outcome)
checks_agree s outcome horizons own adds a =
    table_agrees (after_check horizons s.table) (with_check horizons outcome).trace own
    (with_check horizons outcome).own
    (tables.tables_follow_traces-check s.table outcome.trace horizons a.still.table)
    (tables.bounds_are_kept-check s.table horizons).capacity (adds outcome.own a.still.own) refl a

abbrev pub IsCheckInterval : State → (t td : ℕ) → Type 0
IsCheckInterval w t td = (outcome : Outcome) → Agrees w outcome → td ≡ check_interval w.setup t outcome

-- the interval at the moment of the latest call, as the parts inside have that moment
pub inside_interval : {s w : State} {td : ℕ} → s ≡ w → IsCheckInterval w w.latest td → IsCheckInterval w s.latest td
inside_interval {s} {w} {td} is interval outcome agrees =
    interval outcome agrees ∙ ap (λ (x : State). check_interval w.setup x.latest outcome) (sym is)

pub drops : {s w : State} → s ≡ w → (table : TableValue) (own : OwnValue) (t td : ℕ) → IsCheckInterval w t td →
    table ≡ after_check (horizons_of t td) s.table → Adds s.own own (check_passed (t - 2 * td))
    → KeepsCapacity (record s { table = table; own = own }) →
    Does w (record s { table = table; own = own }) (λ setup. without_silent setup t)
drops {s} {w} is table own t td interval table_is adds within =
    let new : State = record s { table = table; own = own } in
    record {
      stays = stays_by is refl refl refl;
      within = within;
      follows = λ outcome a. subst (λ (d : ℕ). Agrees new (with_check (horizons_of t d) outcome)) (interval outcome a)
          (subst (λ (x : TableValue). Agrees (record s { table = x; own = own })
          (with_check (horizons_of t td) outcome)) (sym table_is)
          (checks_agree s outcome (horizons_of t td) own adds (seen is outcome a)));
    }

pub forgets : {s w : State} → s ≡ w → (table : TableValue) (ssrc : ℕ) → table ≡ after_forgetting ssrc s.table →
    KeepsCapacity (record s { table = table }) → Does w (record s { table = table }) (λ setup. with_forgotten ssrc)
forgets {s} {w} is table ssrc table_is within = record {
  stays = stays_by is refl refl refl;
  within = within;
  follows = λ outcome a. subst (λ (x : TableValue). Agrees (record s { table = x }) (with_forgotten ssrc outcome))
      (sym table_is) (forgotten_agree s outcome ssrc (seen is outcome a));
}

-- ---- Sent packets

pub sends : {s w : State} → s ≡ w → (own : OwnValue) (t timestamp octets : ℕ) →
    Adds s.own own (packet_sent t timestamp octets) → KeepsCapacity s →
    Does w (record s { own = own }) (λ setup. with_packet t timestamp octets)
sends {s} {w} is own t timestamp octets adds within = record {
  stays = stays_by is refl refl refl;
  within = within;
  follows = λ outcome agrees.
      let a = seen is outcome agrees in
      record {
        timing = a.timing;
        average = a.average;
        pace = a.pace;
        still = with_own s outcome a.still (adds outcome.own a.still.own);
      };
}

-- ---- Reports

pub octets_of : {s w : State} → s ≡ w → (t : ℕ) (outcome : Outcome) → Agrees w outcome →
    octets_in t s ≡ report_octets w.setup t outcome
octets_of {s} {w} is t outcome a = ap (octets_in t) is ∙ octets_agree w outcome t a

pub makes : {s w : State} → s ≡ w → (t : ℕ) (table : TableValue) (average : ℕ) (own : OwnValue) (cursor : Option ℕ) →
    table ≡ after_blocks (rows_in t s) s.table → average ≡ moved_average s.average (length (octets_in t s))
    → Adds s.own own report_sent → cursor ≡ last_reported s.cursor (rows_in t s) →
    KeepsCapacity (record s { table = table })
    → Does w (record s { table = table; average = average; own = own; cursor = cursor; reports = s.reports + 1 })
    (λ setup. with_report setup t)
makes {s} {w} is t table average own cursor table_is average_is adds cursor_is within =
    let new : State = record s {
      table = table;
      average = average;
      own = own;
      cursor = cursor;
      reports = s.reports + 1;
    } in
    let same : new ≡ record s {
      table = after_blocks (rows_in t s) s.table;
      average = moved_average s.average (length (octets_in t s));
      own = own;
      cursor = last_reported s.cursor (rows_in t s);
      reports = s.reports + 1;
    } =
    λ i. record s {
      table = table_is i;
      average = average_is i;
      own = own;
      cursor = cursor_is i;
      reports = s.reports + 1;
    } in
    subst (λ (x : State). Does x new (λ setup. with_report setup t)) is
    (record {
      stays = record { setup = refl; latest = refl; calls = refl };
      within = within;
      follows = λ outcome a. subst (λ (x : State). Agrees x (with_report s.setup t outcome)) (sym same)
          (sent_reports_agree s outcome t own adds a);
    })

-- a report is due, or none is, whatever the outcome is that the numbers agree with
abbrev pub IsDueBy : State → (t word : ℕ) → Bool → Type 0
IsDueBy w t word is_due = (outcome : Outcome) → Agrees w outcome → is_due ≡ is_report_due w.setup t word outcome

pub puts_off : {w v : State} (t first_word second_word : ℕ) → IsDueBy w t first_word false →
    Does w v (λ setup. tried_at setup t first_word) → Does w v (λ setup. after_check_at setup t first_word second_word)
puts_off {w} {v} t first_word second_word none before = record {
  stays = before.stays;
  within = before.within;
  follows = λ outcome a. subst (Agrees v)
      (undue w.setup t first_word second_word outcome (has_come t outcome) (has_passed w.setup t first_word outcome)
      (sym (none outcome a))) (before.follows outcome a);
}

pub reports_now : {w v u : State} (first_word second_word : ℕ) → IsDueBy w w.latest first_word true →
    Does w v (λ setup. tried_at setup w.latest first_word) → Does v u (λ setup. reported setup v.latest second_word)
    → Does w u (λ setup. after_check_at setup w.latest first_word second_word)
reports_now {w} {v} {u} first_word second_word is_due before sent =
    let t = w.latest in
    let whole = both_now (λ t setup. reported setup t second_word) before sent in record {
      stays = whole.stays;
      within = whole.within;
      follows = λ outcome a. due u w.setup t first_word second_word outcome (has_come t outcome)
          (has_passed w.setup t first_word outcome) (sym (is_due outcome a)) (whole.follows outcome a);
    }

same_octets : (setup : Setup) (t word : ℕ) (outcome : Outcome) (come : Bool) →
    report_octets setup t (if come then put_off setup t word outcome else outcome) ≡ report_octets setup t outcome
same_octets setup t word outcome true = refl
same_octets setup t word outcome false = refl

pub hands_out : {w v : State} (word : ℕ) (out : Option OutValue) → IsDueBy w w.latest word true →
    Does w v (λ setup. tried_at setup w.latest word) →
    ((outcome : Outcome) → Agrees v outcome → out ≡ Some (report_out (report_octets v.setup v.latest outcome)))
    → (outcome : Outcome) → Agrees w outcome → out ≡ option_map report_out (report_due w.setup w.latest word outcome)
hands_out {w} {v} word out is_due before made outcome a =
    let t = w.latest in
    let tried_outcome = tried_at w.setup t word outcome in
    made tried_outcome (before.follows outcome a)
    ∙ ap (λ (octets : List ℕ). Some (report_out octets))
    ((λ i. report_octets (before.stays.setup i) (before.stays.latest i) tried_outcome)
    ∙ same_octets w.setup t word outcome (has_come t outcome))
    ∙ ap (λ (b : Bool). option_map report_out (if b then Some (report_octets w.setup t outcome) else None))
    (is_due outcome a)

-- ---- Datagrams

pub takes_facts : {s w : State} → s ≡ w → (t size : ℕ) (packets : List RtcpPacket) (table : TableValue) (average : ℕ) →
    table ≡ after_facts (facts_of packets) t s.table → average ≡ moved_average s.average size
    → KeepsCapacity (record s { table = table }) → Does w (record s { table = table; average = average })
    (λ setup. with_facts_of t size packets)
takes_facts {s} {w} is t size packets table average table_is average_is within = record {
  stays = stays_by is refl refl refl;
  within = within;
  follows = λ outcome a.
      let same : record s { table = table; average = average }
      ≡ record s { table = after_facts (facts_of packets) t s.table; average = moved_average s.average size } =
      λ i. record s { table = table_is i; average = average_is i } in
      subst (λ (x : State). Agrees x (with_facts_of t size packets outcome)) (sym same)
      (sizes_agree _ _ size (facts_agree s outcome (facts_of packets) t (seen is outcome a)));
}

pub takes_media : {s w : State} → s ≡ w → (t : ℕ) (head : RtpValue) (table : TableValue) →
    table ≡ after_facts (facts_of_media s.setup.ssrc (rate_of s.setup head) head
    (counted s.table (media_fact (rate_of s.setup head) head))) t s.table
    → KeepsCapacity (record s { table = table }) →
    Does w (record s { table = table }) (λ setup. with_media setup t head)
takes_media {s} {w} is t head table table_is within =
    subst (λ (x : State). Does x (record s { table = table }) (λ setup. with_media setup t head)) is
    (record {
      stays = record { setup = refl; latest = refl; calls = refl };
      within = within;
      follows = λ outcome a. subst (λ (x : TableValue). Agrees (record s { table = x })
          (with_media s.setup t head outcome)) (sym table_is) (media_agree s outcome t head a);
    })

-- ---- Backing off

-- an interval is that of each backoff with so many members
abbrev pub IsWaitingInterval : State → (members td : ℕ) → Type 0
IsWaitingInterval w members td = (outcome : Outcome) (backoff : Backoff) → Waits w outcome backoff →
    members ≡ leaving_count backoff → td ≡ leaving_interval w.setup backoff

pub waits_there : {s w : State} → s ≡ w → (outcome : Outcome) (backoff : Backoff) → Waits w outcome backoff →
    Waits s outcome backoff
waits_there {s} {w} is outcome backoff h = subst (λ (x : State). Waits x outcome backoff) (sym is) h

pub bye_due_by : {s w : State} → s ≡ w → (t word td members : ℕ) → IsWaitingInterval w members td →
    (outcome : Outcome) (backoff : Backoff) → Waits w outcome backoff → members ≡ leaving_count backoff
    → (nat_le s.timing.next t && nat_le (s.timing.last + drawn_interval td word) t) ≡ is_bye_due w.setup t word backoff
bye_due_by {s} {w} is t word td members interval outcome backoff h count =
    ap (λ (x : Timing). nat_le x.next t && nat_le (x.last + drawn_interval td word) t)
    (ap (λ (x : State). x.timing) is ∙ h.timing)
    ∙ ap (λ (d : ℕ). nat_le (leaving_timing backoff).next t && nat_le
    ((leaving_timing backoff).last + drawn_interval d word) t) (interval outcome backoff h count)

pub waits_on : {s w : State} → s ≡ w → (timing : Timing) (t word td members : ℕ) → IsWaitingInterval w members td
    → (t < s.timing.next → timing ≡ s.timing) →
    (s.timing.next ≤ t → timing ≡ after (tried t (drawn_interval td word) members) s.timing) → KeepsCapacity s
    → DoesWaiting members w (with_timing timing s) (λ setup. after_wait setup t word)
waits_on {s} {w} is timing t word td members interval unchanged steps within = record {
  stays = stays_by is refl refl refl;
  within = within;
  follows = λ outcome backoff h count.
      let at = waits_there is outcome backoff h in
      let come = ap (λ (x : Timing). nat_le x.next t) (sym at.timing) in
      let happening = tried t (drawn_interval (leaving_interval w.setup backoff) word) (leaving_count backoff) in
      let to : Bool → Backoff = λ b. if b then record backoff { happenings = happening ∷ backoff.happenings } else
      backoff in
      elim (cases_lt t s.timing.next) [
        | inl early ↦
            subst (λ (b : Bool). Waits (with_timing timing s) outcome (to b))
            (sym (come ∙ lt-leb s.timing.next t early))
            (record {
              timing = unchanged early ∙ at.timing;
              average = at.average;
              still = with_own s outcome at.still at.still.own;
            })
        | inr late ↦
            subst (λ (b : Bool). Waits (with_timing timing s) outcome (to b)) (sym (come ∙ le-leb s.timing.next t late))
            (record {
              timing = steps late
                  ∙ ap (λ (d : ℕ). after (tried t (drawn_interval d word) members) s.timing)
                  (interval outcome backoff h count)
                  ∙ ap (λ (m : ℕ). after (tried t (drawn_interval (leaving_interval w.setup backoff) word) m) s.timing)
                  count
                  ∙ ap (after happening) at.timing;
              average = at.average;
              still = with_own s outcome at.still at.still.own;
            })
      ];
}

pub waiting_at : {s w v : State} {members : ℕ} → s ≡ w → (step : (t : ℕ) → Setup → Backoff → Backoff) →
    DoesWaiting members w v (step s.latest) → DoesWaiting members w v (step w.latest)
waiting_at {s} {w} {v} {members} is step = at_latest is (λ t. DoesWaiting members w v (step t))

pub hears : {s w : State} → s ≡ w → (average size : ℕ) → average ≡ moved_average s.average size →
    (outcome : Outcome) (backoff : Backoff) (byes : ℕ) → Waits w outcome backoff →
    Waits (record s { average = average }) outcome (with_byes_of byes size backoff)
hears {s} {w} is average size average_is outcome backoff byes h =
    let at = waits_there is outcome backoff h in
    record {
      timing = at.timing;
      average = average_is ∙ ap (λ (a : ℕ). moved_average a size) at.average;
      still = with_own s outcome at.still at.still.own;
    }

-- a backoff before its first draw
abbrev pub unstarted : (t : ℕ) → Outcome → Backoff
unstarted t outcome = record { since = t; bye_compounds = []; happenings = outcome.happenings }

waits_first : {s : State} {average : ℕ} (t : ℕ) → average ≡ leaving_average s.setup [] → (outcome : Outcome) →
    Agrees s outcome → Waits (record s { average = average }) outcome (unstarted t outcome)
waits_first {s} {average} t average_is outcome a =
    record { timing = a.timing; average = average_is; still = with_own s outcome a.still a.still.own }

pub backs_off : {s w : State} → s ≡ w → (average word td : ℕ) (timing : Timing) → average ≡ leaving_average s.setup [] →
    IsWaitingInterval (record s { average = average }) 1 td →
    timing ≡ after (transmitted s.latest (drawn_interval td word) 1) s.timing
    → (outcome : Outcome) → Agrees w outcome → Waits (record s { average = average; timing = timing }) outcome
    (backoff_from w.setup w.latest word outcome)
backs_off {s} {w} is average word td timing average_is interval steps =
    let new : State = record s { average = average; timing = timing } in
    subst (λ (x : State). (outcome : Outcome) → Agrees x outcome →
    Waits new outcome (backoff_from x.setup x.latest word outcome)) is
    (λ outcome a. record {
      timing = steps ∙ ap (λ (d : ℕ). after (transmitted s.latest (drawn_interval d word) 1) s.timing)
          (interval outcome (unstarted s.latest outcome) (waits_first s.latest average_is outcome a) refl);
      average = average_is;
      still = with_own s outcome a.still a.still.own;
    })

pub waiting_load : {s w : State} → s ≡ w → (members avg : ℕ) → avg ≡ s.average →
    (outcome : Outcome) (backoff : Backoff) → Waits w outcome backoff
    → load members 0 false true avg s.setup.settings.sender_bw s.setup.settings.receiver_bw ≡ leaving_load w.setup
    members
    backoff.bye_compounds
waiting_load {s} {w} is members avg same outcome backoff h =
    let at = waits_there is outcome backoff h in
    ap (λ (a : ℕ). load members 0 false true a s.setup.settings.sender_bw s.setup.settings.receiver_bw)
    (same ∙ at.average)
    ∙ ap (λ (x : State). leaving_load x.setup members backoff.bye_compounds) is
