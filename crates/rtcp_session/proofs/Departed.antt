-- Each act leaves as members just those who do not depart by it, and so each fall is a departure.
use Rattle.std.proofs.Common.{◌≡◌, ℕ, ◌+◌, ◌-◌, ◌*◌, ◌<◌, ◌≤◌, ◌&&◌, ◌||◌, ◌==◌, not, nat_lt, nat_le, Bool, true, false, List, [], ◌∷◌, length, map, filter, Option, Some, None, is_some, if◌then◌else◌, Ok, Err, refl, sym, ap, ◌∙◌, arith, inl, inr, le_refl, subst}
use Rattle.std.specs.List.{list_any, flat_map}
use Rattle.std.proofs.lemmas.Bool.{and_from, and_parts, cases_lt, cond_both, eqb-true, le-ltb, lt-ltb, ltb-true, ne_eqb}
use Rattle.std.proofs.lemmas.List.Folds.{list_any-append}
use Rattle.rtcp_wire.specs.declared.fact.Fact.{Fact}
use Rattle.rtcp_wire.specs.declared.fact.Fact.TheVariants.{Heard, Named, Gone}
use Rattle.rtcp_wire.specs.Facts.{subject, is_gone, is_cname, facts_of, facts_of_packet, facts_of_chunk}
use Rattle.rtcp_wire.specs.Values.{ChunkValue, RtcpPacket, sr, rr, sdes, bye, app, other, RtpValue}
use Rattle.rtcp_members.specs.Traces.{names}
use Rattle.rtcp_members.specs.Stays.{last_naming}
use Rattle.rtcp_members.specs.Entries.{counted_at}
use Rattle.rtcp_members.proofs.Lasting.{stay_of_member}
use Rattle.rtcp_members.proofs.LawLemmas.{present_were_named_and_fit-named}
use Rattle.rtcp_engine.specs.answers.Setups.{Setup}
use Rattle.rtcp_engine.specs.answers.Acts.{Act, arrived, rtcp, rtp, rtp_sent, ticked, left, configured, forgotten, moment_of}
use Rattle.rtcp_engine.specs.answers.Outcomes.{Outcome, check_interval, member_count}
use Rattle.rtcp_engine.specs.answers.Arrivals.{after, facts_of_media, media_fact, rate_of}
use Rattle.rtcp_engine.specs.answers.Ticks.{checked, after_tick, has_come, has_passed, horizons_of, put_off, reported}
use Rattle.rtcp_engine.specs.answers.Reporting.{reported_at}
use Rattle.rtcp_engine.specs.answers.Leaving.{Backoff, Life, present, backing_off, finished, after_own_bye, counted_anew, few_members, is_bye_due, left_at, sent_nothing}
use Rattle.rtcp_engine.specs.answers.Lives.{lived, members_in_life, with_new_ssrc, with_change}
use Rattle.rtcp_engine.specs.answers.Changes.{NewIdentifier, Session, change_by, changed_by, is_among, with_ssrc}
use Rattle.rtcp_engine.specs.answers.Histories.{History, life_at, session_at, session_for, session_of, setup_after, setup_at, with_act}
use Rattle.rtcp_engine.specs.bounds.InTime.{has_fewer, is_fall}
use Rattle.rtcp_engine.specs.bounds.Sent.{reports_in, sent_at}
use Rattle.rtcp_engine.specs.state.Taken.{IsHistory}
use Rattle.rtcp_session.specs.Departures.{Departs, departs_by, departures_within, is_departure, is_departure_after, may_be_departure, is_member_of, is_silent, leavers, leavers_of, says_bye}
use Rattle.rtcp_session.specs.Falls.{AllWaitAtMost, HasReport, TicksWithin, falls_within}
use Rattle.rtcp_session.proofs.Departing.{Leaves, alike, by_check, by_facts, by_forgetting, by_nothing, fewer_by_departure, says_bye_among, with_blocks_too}
use Rattle.rtcp_session.proofs.Falling.{reports_between}

never : false ≡ true → ⊥
never e = absurd cc

-- ---- Which facts say that a source left

module _ (ssrc : ℕ) where
  abbrev says : Fact → Bool
  says fact = is_gone fact && subject fact == ssrc

  chunks_say_none : (chunks : List ChunkValue) → says_bye_among ssrc (flat_map facts_of_chunk chunks) ≡ false
  chunks_say_none [] = refl
  chunks_say_none (chunk ∷ chunks) =
      list_any-append says (facts_of_chunk chunk) (flat_map facts_of_chunk chunks)
      ∙ (λ i. one (list_any is_cname chunk.items) i || chunks_say_none chunks i)
    where
      one : (named : Bool) →
          says_bye_among ssrc (Heard chunk.id ∷ (if named then Named chunk.id ∷ [] else [])) ≡ false
      one true = refl
      one false = refl

  ids_are_said : (ids : List ℕ) → says_bye_among ssrc (map Gone ids) ≡ is_among ids ssrc
  ids_are_said [] = refl
  ids_are_said (id ∷ ids) = ap (λ (b : Bool). (id == ssrc) || b) (ids_are_said ids)

  packet_says : (packet : RtcpPacket) →
      says_bye_among ssrc (facts_of_packet packet) ≡ is_among (leavers_of packet) ssrc
  packet_says (sr sender blocks extension) = refl
  packet_says (rr source blocks extension) = refl
  packet_says (sdes chunks) = chunks_say_none chunks
  packet_says (bye ids reason) = ids_are_said ids
  packet_says (app subtype source name content) = refl
  packet_says (other kind count body) = refl

  pub compound_says : (packets : List RtcpPacket) →
      says_bye_among ssrc (facts_of packets) ≡ is_among (leavers packets) ssrc
  compound_says [] = refl
  compound_says (packet ∷ packets) =
      list_any-append says (facts_of_packet packet) (facts_of packets)
      ∙ (λ i. packet_says packet i || compound_says packets i)
      ∙ sym (list_any-append (λ id. id == ssrc) (leavers_of packet) (leavers packets))

  heard_say_none : (ids : List ℕ) → says_bye_among ssrc (map Heard ids) ≡ false
  heard_say_none [] = refl
  heard_say_none (id ∷ ids) = heard_say_none ids

  media_says_none : (own rate : ℕ) (head : RtpValue) (counted : Bool) →
      says_bye_among ssrc (facts_of_media own rate head counted) ≡ false
  media_says_none own rate head true = heard_say_none (filter (λ csrc. not (csrc == own)) head.csrcs)
  media_says_none own rate head false = refl

-- ---- Acts

later_by : (a b t : ℕ) → nat_lt a (t - b) ≡ nat_lt (a + b) t
later_by a b t =
    elim (cases_lt (a + b) t) [
      | inl below ↦ lt-ltb a (t - b) (omega (arith, below)) ∙ sym (lt-ltb (a + b) t below)
      | inr above ↦ le-ltb a (t - b) (omega (arith, above)) ∙ sym (le-ltb (a + b) t above)
    ]

module _ (setup : Setup) where
  -- What an act leaves of the members.
  abbrev LeavesBy : Act → (before now : Outcome) → Type 0
  LeavesBy act before now = Leaves setup.capacity (departs_by setup act before) before.trace now.trace

  check_leaves : (t first_word second_word : ℕ) (outcome : Outcome) →
      LeavesBy (ticked t first_word second_word) outcome (checked setup t outcome)
  check_leaves t first_word second_word outcome =
      let interval : ℕ = check_interval setup t outcome in
      let horizons = horizons_of t interval in
      alike setup.capacity (λ ssrc. nat_lt (last_naming ssrc outcome.trace) horizons.silent)
      (is_silent setup t outcome) outcome.trace (checked setup t outcome).trace
      (λ ssrc. later_by (last_naming ssrc outcome.trace) (5 * interval) t)
      (by_check setup.capacity horizons outcome.trace)

  tick_leaves : (t first_word second_word : ℕ) (outcome : Outcome) →
      LeavesBy (ticked t first_word second_word) outcome (after_tick setup t first_word second_word outcome)
  tick_leaves t first_word second_word outcome =
      let act : Act = ticked t first_word second_word in
      let now : Outcome = checked setup t outcome in
      let checks : LeavesBy act outcome now = check_leaves t first_word second_word outcome in
      cond_both (has_come t now) _ now (LeavesBy act outcome)
      (λ _. cond_both (has_passed setup t first_word now) (reported setup t second_word now)
      (put_off setup t first_word now) (LeavesBy act outcome)
      (λ _. with_blocks_too setup.capacity (departs_by setup act outcome) (reported_at setup t now) outcome.trace
      now.trace checks)
      (λ _. checks)) (λ _. checks)

  compound_leaves : (t peer word size : ℕ) (packets : List RtcpPacket) (outcome : Outcome) →
      let act = arrived t peer word (rtcp size (Ok packets)) in
      LeavesBy act outcome (after setup act outcome)
  compound_leaves t peer word size packets outcome =
      let act : Act = arrived t peer word (rtcp size (Ok packets)) in
      alike setup.capacity (λ ssrc. says_bye_among ssrc (facts_of packets)) (departs_by setup act outcome)
      outcome.trace (after setup act outcome).trace (λ ssrc. compound_says ssrc packets)
      (by_facts setup.capacity t (facts_of packets) outcome.trace)

  media_leaves : (t peer word : ℕ) (head : RtpValue) (outcome : Outcome) →
      let act = arrived t peer word (rtp (Ok head)) in LeavesBy act outcome (after setup act outcome)
  media_leaves t peer word head outcome =
      let act : Act = arrived t peer word (rtp (Ok head)) in
      let rate : ℕ = rate_of setup head in
      let counted = counted_at setup.capacity outcome.trace (media_fact rate head) in
      let facts : List Fact = facts_of_media setup.ssrc rate head counted in
      alike setup.capacity (λ ssrc. says_bye_among ssrc facts) (departs_by setup act outcome) outcome.trace
      (after setup act outcome).trace (λ ssrc. media_says_none ssrc setup.ssrc rate head counted)
      (by_facts setup.capacity t facts outcome.trace)

  forgetting_leaves : (t gone : ℕ) (outcome : Outcome) →
      LeavesBy (forgotten t gone) outcome (after setup (forgotten t gone) outcome)
  forgetting_leaves t gone outcome = by_forgetting setup.capacity gone outcome.trace

  pub act_leaves : (act : Act) (outcome : Outcome) → LeavesBy act outcome (after setup act outcome)
  act_leaves (arrived t peer word (rtcp size (Ok packets))) outcome =
      compound_leaves t peer word size packets outcome
  act_leaves (arrived t peer word (rtcp size (Err fault))) outcome = by_nothing setup.capacity outcome.trace
  act_leaves (arrived t peer word (rtp (Ok head))) outcome = media_leaves t peer word head outcome
  act_leaves (arrived t peer word (rtp (Err fault))) outcome = by_nothing setup.capacity outcome.trace
  act_leaves (rtp_sent t timestamp octets) outcome = by_nothing setup.capacity outcome.trace
  act_leaves (ticked t first_word second_word) outcome = tick_leaves t first_word second_word outcome
  act_leaves (left t word) outcome = by_nothing setup.capacity outcome.trace
  act_leaves (configured t settings) outcome = by_nothing setup.capacity outcome.trace
  act_leaves (forgotten t gone) outcome = forgetting_leaves t gone outcome

  pub stay_unless_departed : (act : Act) (outcome : Outcome) (ssrc : ℕ) → is_member_of setup outcome ssrc ≡ true →
      is_member_of setup (after setup act outcome) ssrc ≡ not (departs_by setup act outcome ssrc)
  stay_unless_departed act outcome ssrc is = (act_leaves act outcome).roles ssrc is

  pub checked_unless_silent : (t : ℕ) (outcome : Outcome) (ssrc : ℕ) → is_member_of setup outcome ssrc ≡ true →
      is_member_of setup (checked setup t outcome) ssrc ≡ not (is_silent setup t outcome ssrc)
  checked_unless_silent t outcome ssrc is = (check_leaves t 0 0 outcome).roles ssrc is

  pub members_fall_by_departures : (act : Act) (outcome : Outcome) →
      member_count setup (after setup act outcome) < member_count setup outcome →
      is_departure setup act (present outcome) ≡ true
  members_fall_by_departures act outcome fell =
      fewer_by_departure setup.capacity (departs_by setup act outcome) outcome.trace (after setup act outcome).trace
      (act_leaves act outcome) (omega (arith, fell))

-- ---- Who departs

found : (test : ℕ → Bool) (xs : List ℕ) → list_any test xs ≡ true → (x : ℕ) × (test x ≡ true)
found test [] any = absurd (never any)
found test (x ∷ xs) any = by (test x) refl any (found test xs)
  where
    by : (passes : Bool) → test x ≡ passes → (passes || list_any test xs) ≡ true →
        (list_any test xs ≡ true → (x : ℕ) × (test x ≡ true)) → (x : ℕ) × (test x ≡ true)
    by true is any rest = (x, is)
    by false is any rest = rest any

finds : (test : ℕ → Bool) (x : ℕ) (xs : List ℕ) → test x ≡ true → list_any (λ other. other == x) xs ≡ true →
    list_any test xs ≡ true
finds test x [] is there = absurd (never there)
finds test x (first ∷ xs) is there = by (first == x) refl there (finds test x xs is)
  where
    by : (same : Bool) → (first == x) ≡ same → (same || list_any (λ other. other == x) xs) ≡ true →
        (list_any (λ other. other == x) xs ≡ true → list_any test xs ≡ true) →
        (test first || list_any test xs) ≡ true
    by true same there rest =
        ap (λ (n : ℕ). test n || list_any test xs) (eqb-true first x same)
        ∙ ap (λ (b : Bool). b || list_any test xs) is
    by false apart there rest = or_else (test first) (rest there)
      where
        or_else : (a : Bool) → list_any test xs ≡ true → (a || list_any test xs) ≡ true
        or_else true h = refl
        or_else false h = h

module _ (setup : Setup) (act : Act) (outcome : Outcome) where
  pub who_departs : is_departure setup act (present outcome) ≡ true → Departs setup act outcome
  who_departs is =
      let (ssrc, both) =
      found (λ ssrc. is_member_of setup outcome ssrc && departs_by setup act outcome ssrc) (names outcome.trace) is in
      let parts = and_parts (is_member_of setup outcome ssrc) (departs_by setup act outcome ssrc) both in
      record { ssrc = ssrc; member = parts.0; departs = parts.1 }

  pub departing_is_departure : Departs setup act outcome → is_departure setup act (present outcome) ≡ true
  departing_is_departure h =
      let (stay, lasts) = stay_of_member setup.capacity h.ssrc outcome.trace h.member in
      finds (λ ssrc. is_member_of setup outcome ssrc && departs_by setup act outcome ssrc) h.ssrc (names outcome.trace)
      (and_from (is_member_of setup outcome h.ssrc) (departs_by setup act outcome h.ssrc) h.member h.departs)
      (present_were_named_and_fit-named setup.capacity outcome.trace h.ssrc (ap is_some lasts.is.found))

somebody : (ids : List ℕ) (ssrc : ℕ) → is_among ids ssrc ≡ true → not (length ids == 0) ≡ true
somebody [] ssrc is = absurd (never is)
somebody (id ∷ ids) ssrc is = ap not (ne_eqb (length (id ∷ ids)) 0 (λ same. omega (arith, same)))

departures_say_bye : (setup : Setup) (t peer word size : ℕ) (packets : List RtcpPacket) (life : Life) →
    is_departure setup (arrived t peer word (rtcp size (Ok packets))) life ≡ true → says_bye packets ≡ true
departures_say_bye setup t peer word size packets (present outcome) is =
    let who = who_departs setup (arrived t peer word (rtcp size (Ok packets))) outcome is in
    somebody (leavers packets) who.ssrc who.departs
departures_say_bye setup t peer word size packets (backing_off outcome backoff) is = absurd (never is)
departures_say_bye setup t peer word size packets (finished outcome) is = absurd (never is)

-- An act by which nobody departs is no departure.
by_nobody : (setup : Setup) (act : Act) (life : Life) →
    ((outcome : Outcome) (ssrc : ℕ) → departs_by setup act outcome ssrc ≡ false) → is_departure setup act life ≡ true →
    ⊥
by_nobody setup act (present outcome) none is =
    let who = who_departs setup act outcome is in never (sym (none outcome who.ssrc) ∙ who.departs)
by_nobody setup act (backing_off outcome backoff) none is = never is
by_nobody setup act (finished outcome) none is = never is

pub departures_are_of_a_kind : (setup : Setup) (act : Act) (life : Life) → is_departure setup act life ≡ true →
    may_be_departure act ≡ true
departures_are_of_a_kind setup (arrived t peer word (rtcp size (Ok packets))) life is =
    departures_say_bye setup t peer word size packets life is
departures_are_of_a_kind setup (arrived t peer word (rtcp size (Err fault))) life is =
    absurd (by_nobody setup (arrived t peer word (rtcp size (Err fault))) life (λ outcome ssrc. refl) is)
departures_are_of_a_kind setup (arrived t peer word (rtp reading)) life is =
    absurd (by_nobody setup (arrived t peer word (rtp reading)) life (λ outcome ssrc. refl) is)
departures_are_of_a_kind setup (rtp_sent t timestamp octets) life is =
    absurd (by_nobody setup (rtp_sent t timestamp octets) life (λ outcome ssrc. refl) is)
departures_are_of_a_kind setup (ticked t first_word second_word) life is = refl
departures_are_of_a_kind setup (left t word) life is =
    absurd (by_nobody setup (left t word) life (λ outcome ssrc. refl) is)
departures_are_of_a_kind setup (configured t settings) life is =
    absurd (by_nobody setup (configured t settings) life (λ outcome ssrc. refl) is)
departures_are_of_a_kind setup (forgotten t gone) life is = refl

-- ---- What a participant tells

-- One that left does not come back.
never_back : (setup : Setup) (act : Act) (outcome later : Outcome) (backoff : Backoff) →
    lived setup act (backing_off outcome backoff) ≡ present later → ⊥
never_back setup (arrived t peer word (rtcp size reading)) outcome later backoff is = absurd cc
never_back setup (arrived t peer word (rtp reading)) outcome later backoff is = absurd cc
never_back setup (rtp_sent t timestamp octets) outcome later backoff is = absurd cc
never_back setup (ticked t first_word second_word) outcome later backoff is =
    cond_both (is_bye_due setup t first_word backoff) (finished outcome) _ (λ (life : Life). life ≡ present later → ⊥)
    (λ _ same. cc) (λ _ same. cc) is
never_back setup (left t word) outcome later backoff is = absurd cc
never_back setup (configured t settings) outcome later backoff is = absurd cc
never_back setup (forgotten t gone) outcome later backoff is = absurd cc

leaves_for_good : (setup : Setup) (t word : ℕ) (outcome later : Outcome) →
    left_at setup t word outcome ≡ present later → ⊥
leaves_for_good setup t word outcome later =
    let IsElsewhere : Life → Type 0 = λ (life : Life). life ≡ present later → ⊥ in
    cond_both (sent_nothing outcome) (finished outcome) _ IsElsewhere (λ _ same. cc)
    (λ _. cond_both (nat_le (member_count setup outcome) few_members) (finished outcome) _ IsElsewhere (λ _ same. cc)
    (λ _ same. cc))

tells_by : (setup : Setup) (act : Act) (outcome later : Outcome) → after setup act outcome ≡ later →
    member_count setup later < member_count setup outcome → is_departure setup act (present outcome) ≡ true
tells_by setup act outcome later same fell =
    members_fall_by_departures setup act outcome
    (subst (λ (now : Outcome). member_count setup now < member_count setup outcome) (sym same) fell)

-- A participant that takes part tells of fewer members only after a departure.
tells_fewer : (setup : Setup) (act : Act) (life : Life) (later : Outcome) → lived setup act life ≡ present later →
    member_count setup later < members_in_life setup life → is_departure setup act life ≡ true
tells_fewer setup (arrived t peer word datagram) (present outcome) later is fell =
    tells_by setup (arrived t peer word datagram) outcome later (cc) fell
tells_fewer setup (rtp_sent t timestamp octets) (present outcome) later is fell =
    tells_by setup (rtp_sent t timestamp octets) outcome later (cc) fell
tells_fewer setup (ticked t first_word second_word) (present outcome) later is fell =
    tells_by setup (ticked t first_word second_word) outcome later (cc) fell
tells_fewer setup (left t word) (present outcome) later is fell =
    absurd (leaves_for_good setup t word outcome later is)
tells_fewer setup (configured t settings) (present outcome) later is fell =
    tells_by setup (configured t settings) outcome later (cc) fell
tells_fewer setup (forgotten t gone) (present outcome) later is fell =
    tells_by setup (forgotten t gone) outcome later (cc) fell
tells_fewer setup act (backing_off outcome backoff) later is fell =
    absurd (never_back setup act outcome later backoff is)
tells_fewer setup act (finished outcome) later is fell = absurd cc

pub falls_are_by_departures : (setup : Setup) (act : Act) (life : Life) → is_fall setup act life ≡ true →
    is_departure setup act life ≡ true
falls_are_by_departures setup act (present outcome) is = by (lived setup act (present outcome)) refl is
  where
    by : (life : Life) → lived setup act (present outcome) ≡ life → has_fewer setup outcome life ≡ true →
        is_departure setup act (present outcome) ≡ true
    by (present later) same is =
        tells_fewer setup act (present outcome) later same
        (ltb-true (member_count setup later) (member_count setup outcome) is)
    by (backing_off later backoff) same is = absurd (never is)
    by (finished later) same is = absurd (never is)
falls_are_by_departures setup act (backing_off outcome backoff) is = absurd (never is)
falls_are_by_departures setup act (finished outcome) is = absurd (never is)

-- A change of identifier changes no count.
tells_fewer_then : (session : Session) (act : Act) (change : Option NewIdentifier) (later : Outcome) →
    let now = changed_by change session in lived now.setup act now.life ≡ present later →
    member_count now.setup later < members_in_life session.setup session.life →
    is_departure now.setup act now.life ≡ true
tells_fewer_then session act None later is fell = tells_fewer session.setup act session.life later is fell
tells_fewer_then session act (Some new) later is fell = by session.life is fell
  where
    by : (life : Life) → lived (with_ssrc new.ssrc session.setup) act (with_new_ssrc session.setup life)
        ≡ present later → member_count session.setup later < members_in_life session.setup life →
        is_departure (with_ssrc new.ssrc session.setup) act (with_new_ssrc session.setup life) ≡ true
    by (present outcome) is fell =
        tells_fewer (with_ssrc new.ssrc session.setup) act (present (with_change session.setup outcome)) later is fell
    by (backing_off outcome backoff) is fell =
        absurd (never_back (with_ssrc new.ssrc session.setup) act (counted_anew outcome) later
        (after_own_bye session.setup outcome backoff) is)
    by (finished outcome) is fell = absurd cc

-- Nor do settings.
same_count : (setup : Setup) (act : Act) (outcome : Outcome) →
    member_count (setup_after act setup) outcome ≡ member_count setup outcome
same_count setup (configured moment settings) outcome = refl
same_count setup act outcome = refl

pub told_fewer : (history : History) (act : Act) (later : Outcome) →
    life_at (with_act history act) ≡ present later →
    members_in_life (setup_at (with_act history act)) (present later)
    < members_in_life (setup_at history) (life_at history) →
    is_departure_after history act ≡ true
told_fewer history act later is fell =
    let now = session_for (session_at history) act in
    tells_fewer_then (session_at history) act (change_by (session_at history) act) later is
    (subst (λ (count : ℕ). count < members_in_life (setup_at history) (life_at history))
    (same_count now.setup act later) fell)

-- ---- Counts of departures

counted_too : (fell departs lies : Bool) (falls departures : ℕ) → (fell ≡ true → departs ≡ true) → falls ≤ departures →
    (if fell && lies then 1 else 0) + falls ≤ (if departs && lies then 1 else 0) + departures
counted_too true true lies falls departures is rest = omega (arith, rest)
counted_too true false lies falls departures is rest = absurd (never (is refl))
counted_too false departs lies falls departures is rest = omega (arith, rest)

falls_are_fewer : (setup : Setup) (word from until : ℕ) (acts : List Act) →
    falls_within setup word from until acts ≤ departures_within setup word from until acts
falls_are_fewer setup word from until [] = le_refl 0
falls_are_fewer setup word from until (act ∷ earlier) =
    let now = session_for (session_of setup word earlier) act in
    counted_too (is_fall now.setup act now.life) (is_departure now.setup act now.life)
    (nat_lt from (moment_of act) && nat_le (moment_of act) until) (falls_within setup word from until earlier)
    (departures_within setup word from until earlier) (falls_are_by_departures now.setup act now.life)
    (falls_are_fewer setup word from until earlier)

pub reports_between_departures : (history : History) (wait lag from until departures : ℕ) → IsHistory history →
    AllWaitAtMost wait from history.setup history.word history.acts →
    TicksWithin lag from until history.acts →
    departures_within history.setup history.word from until history.acts ≤ departures →
    from + (departures + 1) * (wait + lag) ≤ until
    → HasReport from until (reports_in (sent_at history))
reports_between_departures history wait lag from until departures is waits often few room =
    let fewer = falls_are_fewer history.setup history.word from until history.acts in
    reports_between history wait lag from until departures is waits often (omega (arith, few, fewer)) room
