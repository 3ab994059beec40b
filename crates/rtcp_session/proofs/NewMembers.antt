-- Each departure takes a member away, and so there are no more departures than members that there were, and new ones.
use Rattle.std.proofs.Common.{◌≡◌, ℕ, ◌+◌, ◌*◌, ◌≤◌, ◌&&◌, ◌++◌, nat_le, nat_lt, Bool, true, false, List, [], ◌∷◌, Option, Some, None, if◌then◌else◌, refl, arith, le_refl}
use Rattle.std.proofs.lemmas.Bool.{cond_both, le-ltb}
use Rattle.rtcp_members.specs.Entries.{members_at}
use Rattle.rtcp_engine.specs.answers.Setups.{Setup}
use Rattle.rtcp_engine.specs.answers.Acts.{Act, arrived, rtcp, rtp, rtp_sent, ticked, left, configured, forgotten, moment_of}
use Rattle.rtcp_engine.specs.answers.Arrivals.{after}
use Rattle.rtcp_engine.specs.answers.Outcomes.{Outcome, member_count}
use Rattle.rtcp_engine.specs.answers.Leaving.{Backoff, Life, present, backing_off, finished, few_members, is_bye_due, sent_nothing}
use Rattle.rtcp_engine.specs.answers.Lives.{lived, with_new_ssrc}
use Rattle.rtcp_engine.specs.answers.Changes.{NewIdentifier, Session, change_by, changed_by, with_ssrc}
use Rattle.rtcp_engine.specs.answers.Histories.{History, last_moment, life_at, session_at, session_for, setup_after, setup_at}
use Rattle.rtcp_engine.specs.bounds.Hearing.{with_acts}
use Rattle.rtcp_engine.specs.bounds.Sent.{reports_in, sent_at}
use Rattle.rtcp_engine.specs.state.Taken.{AllTaken, IsHistory}
use Rattle.rtcp_session.specs.Departures.{departs_by, departures_within, is_departure, is_departure_after, new_members_by, new_members_since, other_members}
use Rattle.rtcp_session.specs.Falls.{AllWaitAtMost, HasReport, TicksWithin}
use Rattle.rtcp_session.proofs.Departed.{act_leaves, reports_between_departures}
use Rattle.rtcp_session.proofs.Departing.{departures_are_paid}
use Rattle.rtcp_session.proofs.Taking.{in_time}

-- ---- Acts

module _ (setup : Setup) where
  -- Whoever is a member after an act is one by the trace that the act leaves.
  no_more_than : (act : Act) (outcome : Outcome) →
      other_members setup (lived setup act (present outcome))
      ≤ members_at setup.capacity (after setup act outcome).trace
  no_more_than (left t word) outcome =
      let Within : Life → Type 0 =
      λ (life : Life). other_members setup life ≤ members_at setup.capacity outcome.trace in
      cond_both (sent_nothing outcome) (finished outcome) _ Within (λ _. omega arith)
      (λ _. cond_both (nat_le (member_count setup outcome) few_members) (finished outcome) _ Within (λ _. omega arith)
      (λ _. omega arith))
  no_more_than (arrived t peer word datagram) outcome = le_refl _
  no_more_than (rtp_sent t timestamp octets) outcome = le_refl _
  no_more_than (ticked t first_word second_word) outcome = le_refl _
  no_more_than (configured t settings) outcome = le_refl _
  no_more_than (forgotten t gone) outcome = le_refl _

  nobody_then : (act : Act) (outcome : Outcome) (backoff : Backoff) →
      other_members setup (lived setup act (backing_off outcome backoff)) ≤ 0
  nobody_then (arrived t peer word (rtcp size reading)) outcome backoff = le_refl 0
  nobody_then (arrived t peer word (rtp reading)) outcome backoff = le_refl 0
  nobody_then (rtp_sent t timestamp octets) outcome backoff = le_refl 0
  nobody_then (ticked t first_word second_word) outcome backoff =
      cond_both (is_bye_due setup t first_word backoff) (finished outcome) _
      (λ (life : Life). other_members setup life ≤ 0) (λ _. le_refl 0) (λ _. le_refl 0)
  nobody_then (left t word) outcome backoff = le_refl 0
  nobody_then (configured t settings) outcome backoff = le_refl 0
  nobody_then (forgotten t gone) outcome backoff = le_refl 0

  -- A departure is paid by a member that was there, or by a new one.
  act_pays : (act : Act) (life : Life) →
      other_members setup (lived setup act life) + (if is_departure setup act life then 1 else 0)
      ≤ other_members setup life + new_members_by setup act life
  act_pays act (present outcome) =
      let now : Outcome = after setup act outcome in
      let paid = departures_are_paid setup.capacity (departs_by setup act outcome) outcome.trace now.trace
      (act_leaves setup act outcome) (is_departure setup act (present outcome)) refl in
      omega (arith, paid, no_more_than act outcome)
  act_pays act (backing_off outcome backoff) = omega (arith, nobody_then act outcome backoff)
  act_pays act (finished outcome) = omega arith

-- ---- Sessions

changed_pays : (session : Session) (change : Option NewIdentifier) →
    other_members (changed_by change session).setup (changed_by change session).life
    ≤ other_members session.setup session.life
changed_pays session None = le_refl _
changed_pays session (Some new) = by session.life
  where
    by : (life : Life) → other_members (with_ssrc new.ssrc session.setup) (with_new_ssrc session.setup life)
        ≤ other_members session.setup life
    by (present outcome) = le_refl _
    by (backing_off outcome backoff) = le_refl 0
    by (finished outcome) = le_refl 0

-- Settings change no count.
same_with_settings : (setup : Setup) (act : Act) (life : Life) →
    other_members (setup_after act setup) life ≤ other_members setup life
same_with_settings setup (configured moment settings) (present outcome) = le_refl _
same_with_settings setup (configured moment settings) (backing_off outcome backoff) = le_refl 0
same_with_settings setup (configured moment settings) (finished outcome) = le_refl 0
same_with_settings setup act life = le_refl _

-- ---- Histories

-- how many of these acts are departures
abbrev departures_since : History → (since : List Act) → ℕ
departures_since history [] = 0
departures_since history (act ∷ since) =
    (if is_departure_after (with_acts since history) act then 1 else 0) + departures_since history since

paid_since : (history : History) (since : List Act) → let later = with_acts since history in
    other_members (setup_at later) (life_at later) + departures_since history since
    ≤ other_members (setup_at history) (life_at history) + new_members_since history since
paid_since history [] = omega arith
paid_since history (act ∷ since) =
    let earlier = session_at (with_acts since history) in
    let now = session_for earlier act in
    let rest = paid_since history since in
    let changed = changed_pays earlier (change_by earlier act) in
    let pays = act_pays now.setup act now.life in
    let settled = same_with_settings now.setup act (lived now.setup act now.life) in
    omega (arith, rest, changed, pays, settled)

-- ---- Moments

module _ (setup : Setup) (word from until : ℕ) where
  -- What lies by the first moment does not count.
  none_by_then : (acts : List Act) → AllTaken setup word acts → last_moment acts ≤ from →
      departures_within setup word from until acts ≤ 0
  none_by_then [] taken past = le_refl 0
  none_by_then (act ∷ earlier) taken past =
      let history : History = record { setup = setup; word = word; acts = earlier } in
      let order = in_time history act taken.0 in
      let rest = none_by_then earlier taken.2 (omega (arith, past, order)) in
      let here = by (is_departure_after history act) (nat_le (moment_of act) until) (nat_lt from (moment_of act))
      (le-ltb from (moment_of act) past) in
      omega (arith, rest, here)
    where
      by : (departs ends begins : Bool) → begins ≡ false → (if departs && (begins && ends) then 1 else 0) ≤ 0
      by departs ends true is = absurd cc
      by true ends false is = le_refl 0
      by false ends false is = le_refl 0

  no_more_within : (since acts : List Act) → departures_within setup word from until (since ++ acts)
      ≤ departures_since (record { setup = setup; word = word; acts = acts }) since
      + departures_within setup word from until acts
  no_more_within [] acts = omega arith
  no_more_within (act ∷ since) acts =
      let departs =
      is_departure_after (record { setup = setup; word = word; acts = since ++ acts }) act in
      omega (
        arith,
        no_more_within since acts,
        at_most departs (nat_lt from (moment_of act) && nat_le (moment_of act) until),
      )
    where
      at_most : (departs lies : Bool) → (if departs && lies then 1 else 0) ≤ (if departs then 1 else 0)
      at_most true true = le_refl 1
      at_most true false = omega arith
      at_most false lies = le_refl 0

taken_before : (setup : Setup) (word : ℕ) (since acts : List Act) → AllTaken setup word (since ++ acts) →
    AllTaken setup word acts
taken_before setup word [] acts taken = taken
taken_before setup word (act ∷ since) acts taken = taken_before setup word since acts taken.2

pub departures_have_members : (history : History) (since : List Act) (from until : ℕ) →
    IsHistory (with_acts since history) → last_moment history.acts ≤ from →
    departures_within history.setup history.word from until (since ++ history.acts)
    ≤ other_members (setup_at history) (life_at history) + new_members_since history since
departures_have_members history since from until is past =
    let taken = taken_before history.setup history.word since history.acts is.taken in
    omega (
      arith,
      paid_since history since,
      no_more_within history.setup history.word from until since history.acts,
      none_by_then history.setup history.word from until history.acts taken past,
    )

pub members_put_off_few : (history : History) (since : List Act) (wait lag from until : ℕ) →
    IsHistory (with_acts since history) → last_moment history.acts ≤ from →
    AllWaitAtMost wait from history.setup history.word (since ++ history.acts) →
    TicksWithin lag from until (since ++ history.acts) →
    let most = other_members (setup_at history) (life_at history) + new_members_since history since in
    from + (most + 1) * (wait + lag) ≤ until →
    HasReport from until (reports_in (sent_at (with_acts since history)))
members_put_off_few history since wait lag from until is past waits often room =
    reports_between_departures (with_acts since history) wait lag from until
    (other_members (setup_at history) (life_at history) + new_members_since history since) is waits often
    (departures_have_members history since from until is past) room
