-- Checks after a change of settings drop nobody sooner.
use Rattle.std.proofs.Common.{◌≡◌, ℕ, ◌+◌, ◌-◌, ◌*◌, ◌≤◌, ◌||◌, nat_lt, min, Bool, true, false, List, [], ◌∷◌, Option, Some, None, IfSome, Ok, if◌then◌else◌, refl, sym, ap, ◌∙◌, subst, arith}
use Rattle.std.proofs.lemmas.Bool.Decides.{nat_tests}
use Rattle.std.proofs.lemmas.Bool.{ltb-false, lt-ltb, le-ltb}
use Rattle.rtcp_members.specs.Entries.{members_at, senders_at}
use Rattle.rtcp_members.specs.Stays.{is_before, is_removed}
use Rattle.rtcp_members.specs.Tables.{TableValue, table_at}
use Rattle.rtcp_members.specs.Traces.{TraceStep}
use Rattle.rtcp_members.proofs.LawLemmas as tables
use Rattle.rtcp_timer.specs.declared.load.Load.{Load}
use Rattle.rtcp_timer.specs.Loads.{interval_of}
use Rattle.rtcp_timer.proofs.LawLemmas as timers
use Rattle.rtcp_engine.specs.declared.pace.Pace.{Pace}
use Rattle.rtcp_engine.specs.answers.Setups.{Setup, SettingsValue, IsUsable, keeps_bandwidths, with_settings}
use Rattle.rtcp_engine.specs.answers.Acts.{Act, arrived, rtcp, rtp, ticked, left, configured}
use Rattle.rtcp_engine.specs.answers.OwnStreams.{we_sent}
use Rattle.rtcp_engine.specs.answers.Outcomes.{Outcome, member_count, sender_count, one_if, newest_pace, slowed_by, receiver_load, receiver_interval_at, check_load, check_interval, pace_at, with_pace, IsPace}
use Rattle.rtcp_engine.specs.answers.Ticks.{checked, horizons_of}
use Rattle.rtcp_engine.specs.answers.Changes.{NewIdentifier, Session, change_by, changed_by}
use Rattle.rtcp_engine.specs.answers.Histories.{History, life_at, session_of, setup_at}
use Rattle.rtcp_engine.specs.answers.Leaving.{Backoff, Life, present, backing_off, finished}
use Rattle.rtcp_engine.specs.answers.Lives.{lived, with_new_ssrc}
use Rattle.rtcp_engine.specs.bounds.Pacing.{IsPaced, unpaced}
use Rattle.rtcp_engine.specs.state.Taken.{AllTaken}
use Rattle.rtcp_engine.proofs.Changing.{usable_in, usable_with_ssrc}
use Rattle.rtcp_engine.proofs.LifeLemmas.{of_check, of_leave, of_wait}
use Rattle.rtcp_engine.proofs.Usable.{usable_with_settings}

-- ---- Senders are members

senders_of_trace : (capacity : ℕ) (trace : List TraceStep) → senders_at capacity trace ≤ members_at capacity trace
senders_of_trace capacity trace =
    let table : TableValue = table_at capacity trace in
    let stands = tables.trace_has_one_table-stands capacity trace in
    omega (
      arith,
      tables.counts_agree-senders table trace stands,
      tables.counts_agree-members table trace stands,
      tables.counts_are_ordered-senders table,
    )

one_at_most : (b : Bool) → one_if b ≤ 1
one_at_most true = omega arith
one_at_most false = omega arith

senders_fit : (setup : Setup) (outcome : Outcome) → sender_count setup outcome ≤ member_count setup outcome
senders_fit setup outcome =
    omega (arith, senders_of_trace setup.capacity outcome.trace, one_at_most (we_sent outcome.own))

-- ---- Bandwidths

abbrev with_bandwidths : (sender_bw receiver_bw : ℕ) → Load → Load
with_bandwidths sender_bw receiver_bw load = record load { sender_bw = sender_bw; receiver_bw = receiver_bw }

-- slowing changes the bandwidths alone
slowed_alone : (t : ℕ) (pace : Option Pace) (load : Load) → slowed_by t pace load
    ≡ with_bandwidths (slowed_by t pace load).sender_bw (slowed_by t pace load).receiver_bw load
slowed_alone t None load = refl
slowed_alone t (Some pace) load = grind (arith, nat_tests)

-- what a bandwidth is slowed to
abbrev least_of : (t : ℕ) → Option Pace → (of : Pace → ℕ) → (bandwidth : ℕ) → ℕ
least_of t None of bandwidth = bandwidth
least_of t (Some pace) of bandwidth = if nat_lt t pace.until then min bandwidth (of pace) else bandwidth

slowed_sender : (t : ℕ) (pace : Option Pace) (load : Load) →
    (slowed_by t pace load).sender_bw ≡ least_of t pace (λ (p : Pace). p.sender_bw) load.sender_bw
slowed_sender t None load = refl
slowed_sender t (Some pace) load = grind (arith, nat_tests)

slowed_receiver : (t : ℕ) (pace : Option Pace) (load : Load) →
    (slowed_by t pace load).receiver_bw ≡ least_of t pace (λ (p : Pace). p.receiver_bw) load.receiver_bw
slowed_receiver t None load = refl
slowed_receiver t (Some pace) load = grind (arith, nat_tests)

-- A former pace counts less and less.
counts_less : (moment t : ℕ) (pace : Option Pace) (of : Pace → ℕ) (bandwidth : ℕ) → moment ≤ t →
    least_of moment pace of bandwidth ≤ least_of t pace of bandwidth
counts_less moment t None of bandwidth order = omega arith
counts_less moment t (Some pace) of bandwidth order = grind (arith, nat_tests, order)

some_left : (t : ℕ) (pace : Option Pace) (of : Pace → ℕ) (bandwidth : ℕ) → IfSome pace (λ p. 16 ≤ of p) →
    16 ≤ bandwidth → 16 ≤ least_of t pace of bandwidth
some_left t None of bandwidth some enough = enough
some_left t (Some pace) of bandwidth some enough = grind (arith, nat_tests, some, enough)

for_senders : (pace : Option Pace) → IfSome pace IsPace → IfSome pace (λ p. 16 ≤ p.sender_bw)
for_senders None is = tt
for_senders (Some pace) is = is.0

for_others : (pace : Option Pace) → IfSome pace IsPace → IfSome pace (λ p. 16 ≤ p.receiver_bw)
for_others None is = tt
for_others (Some pace) is = is.1

-- ---- Paces of a session

pub pace_usable : (setup : Setup) (t : ℕ) (outcome : Outcome) → IsUsable setup →
    IfSome (newest_pace outcome.paces) IsPace → IsPace (pace_at setup t outcome)
pace_usable setup t outcome usable paced =
    let pace = newest_pace outcome.paces in
    let load = receiver_load setup outcome in (
      subst (λ (n : ℕ). 16 ≤ n) (sym (slowed_sender t pace load))
          (some_left t pace (λ (p : Pace). p.sender_bw) setup.settings.sender_bw (for_senders pace paced)
          usable.for_senders.0),
      subst (λ (n : ℕ). 16 ≤ n) (sym (slowed_receiver t pace load))
          (some_left t pace (λ (p : Pace). p.receiver_bw) setup.settings.receiver_bw (for_others pace paced)
          usable.for_others.0),
    )

-- what holds of the paces of one that takes part
abbrev pub InPaces : (List Pace → Type 0) → Life → Type 0
InPaces P (present outcome) = P outcome.paces
InPaces P life = Unit {0}

-- the paces after an act
abbrev pub paces_by : Setup → Act → Outcome → List Pace
paces_by setup (configured t settings) outcome = (with_pace setup settings t outcome).paces
paces_by setup act outcome = outcome.paces

pub paces_on : (P : List Pace → Type 0) (setup : Setup) (act : Act) (outcome : Outcome) →
    P (paces_by setup act outcome) → InPaces P (lived setup act (present outcome))
paces_on P setup (arrived t peer word (rtcp size (Ok packets))) outcome h = h
paces_on P setup (arrived t peer word (rtp (Ok head))) outcome h = h
paces_on P setup (ticked t first_word second_word) outcome h =
    of_check (λ (now : Outcome). P now.paces) setup t first_word second_word (checked setup t outcome) h h h
paces_on P setup (left t word) outcome h = of_leave (InPaces P) setup t word outcome tt tt
paces_on P setup act outcome h = h

paces_while_backing_off : (P : List Pace → Type 0) (setup : Setup) (act : Act) (outcome : Outcome)
    (backoff : Backoff) → InPaces P (lived setup act (backing_off outcome backoff))
paces_while_backing_off P setup (ticked t first_word second_word) outcome backoff =
    of_wait (InPaces P) setup t first_word outcome backoff tt tt
paces_while_backing_off P setup (arrived t peer word (rtcp size reading)) outcome backoff = tt
paces_while_backing_off P setup act outcome backoff = tt

-- what holds after an act, if it does where the participant takes part
pub in_paces_on : (P : List Pace → Type 0) (setup : Setup) (act : Act) (life : Life) →
    ((outcome : Outcome) → life ≡ present outcome → P (paces_by setup act outcome)) → InPaces P (lived setup act life)
in_paces_on P setup act (present outcome) h = paces_on P setup act outcome (h outcome refl)
in_paces_on P setup act (backing_off outcome backoff) h = paces_while_backing_off P setup act outcome backoff
in_paces_on P setup act (finished outcome) h = tt

renamed_paces : (P : List Pace → Type 0) (setup : Setup) (life : Life) → InPaces P life →
    InPaces P (with_new_ssrc setup life)
renamed_paces P setup (present outcome) h = h
renamed_paces P setup life h = tt

pub changed_paces : (P : List Pace → Type 0) (session : Session) (change : Option NewIdentifier) →
    InPaces P session.life → InPaces P (changed_by change session).life
changed_paces P session None h = h
changed_paces P session (Some new) h = renamed_paces P session.setup session.life h

abbrev UsablePaces : List Pace → Type 0
UsablePaces paces = IfSome (newest_pace paces) IsPace

paced_on : (setup : Setup) (act : Act) (outcome : Outcome) → IsUsable setup → UsablePaces outcome.paces →
    UsablePaces (paces_by setup act outcome)
paced_on setup (configured t settings) outcome usable paced =
    elim (keeps_bandwidths settings setup)
    as (λ b. UsablePaces (if b then outcome.paces else pace_at setup t outcome ∷ outcome.paces)) [
      | true ↦ paced
      | false ↦ pace_usable setup t outcome usable paced
    ]
paced_on setup act outcome usable paced = paced

changed_usable : (session : Session) (change : Option NewIdentifier) → IsUsable session.setup →
    IsUsable (changed_by change session).setup
changed_usable session None usable = usable
changed_usable session (Some new) usable = usable_with_ssrc new.ssrc session.setup usable

session_paced : (setup : Setup) (word : ℕ) (acts : List Act) → IsUsable setup → AllTaken setup word acts →
    InPaces UsablePaces (session_of setup word acts).life
session_paced setup word [] usable taken = tt
session_paced setup word (act ∷ earlier) usable taken =
    let before = session_of setup word earlier in
    let change = change_by before act in
    let now = changed_by change before in
    let paced = changed_paces UsablePaces before change (session_paced setup word earlier usable taken.2) in
    in_paces_on UsablePaces now.setup act now.life (λ outcome is. paced_on now.setup act outcome
    (changed_usable before change (usable_in setup word earlier usable taken.2))
    (subst (InPaces UsablePaces) is paced))

-- ---- Checks after a change

pub paces_are_usable : (history : History) (outcome : Outcome) →
    Rattle.rtcp_engine.specs.state.Taken.IsHistory history → life_at history ≡ present outcome →
    IfSome (newest_pace outcome.paces) IsPace
paces_are_usable history outcome is life =
    subst (InPaces UsablePaces) life (session_paced history.setup history.word history.acts is.usable is.taken)

-- an interval with less bandwidth
longer : (load : Load) (s r fewer fewer_more : ℕ) → load.we_sent ≡ false → load.senders ≤ load.members → 1 ≤ fewer →
    1 ≤ fewer_more → fewer ≤ s → fewer_more ≤ r →
    interval_of (with_bandwidths s r load) ≤ interval_of (with_bandwidths fewer fewer_more load)
longer load s r fewer fewer_more is members some some_more less less_more =
    timers.less_bandwidth_waits_longer (with_bandwidths s r load) fewer fewer_more is members some some_more less
    less_more

module _ {history : History} {moment t : ℕ} {settings : SettingsValue} {before later : Outcome}
    (is : IsPaced history moment t settings before later) where
  abbrev former : Setup
  former = setup_at history

  abbrev present_setup : Setup
  present_setup = with_settings settings former

  abbrev noted : Pace
  noted = pace_at former moment before

  abbrev older : Option Pace
  older = newest_pace before.paces

  abbrev load : Load
  load = receiver_load former later

  former_usable : IsUsable former
  former_usable = usable_in history.setup history.word history.acts is.stands.usable is.stands.taken

  present_usable : IsUsable present_setup
  present_usable = usable_with_settings settings former former_usable is.usable

  noted_usable : IsPace noted
  noted_usable = pace_usable former moment before former_usable
      (paces_are_usable history before is.stands is.life)

  -- the check goes by the lesser of these and those before the change
  now_slowed : check_load present_setup t later
      ≡ with_bandwidths (min settings.sender_bw noted.sender_bw) (min settings.receiver_bw noted.receiver_bw) load
  now_slowed =
      ap (λ (pace : Option Pace). slowed_by t pace (receiver_load present_setup later)) is.newest
      ∙ ap (λ (b : Bool). if b
      then with_bandwidths (min settings.sender_bw noted.sender_bw) (min settings.receiver_bw noted.receiver_bw) load
      else receiver_load present_setup later) (lt-ltb t noted.until is.soon)

  of_senders : noted.sender_bw ≤ (slowed_by t older load).sender_bw
  of_senders =
      subst (λ (n : ℕ). n ≤ (slowed_by t older load).sender_bw)
      (sym (slowed_sender moment older (receiver_load former before)))
      (subst (λ (n : ℕ). least_of moment older (λ (p : Pace). p.sender_bw) former.settings.sender_bw ≤ n)
      (sym (slowed_sender t older load))
      (counts_less moment t older (λ (p : Pace). p.sender_bw) former.settings.sender_bw is.order))

  of_others : noted.receiver_bw ≤ (slowed_by t older load).receiver_bw
  of_others =
      subst (λ (n : ℕ). n ≤ (slowed_by t older load).receiver_bw)
      (sym (slowed_receiver moment older (receiver_load former before)))
      (subst (λ (n : ℕ). least_of moment older (λ (p : Pace). p.receiver_bw) former.settings.receiver_bw ≤ n)
      (sym (slowed_receiver t older load))
      (counts_less moment t older (λ (p : Pace). p.receiver_bw) former.settings.receiver_bw is.order))

  pub no_sooner : check_interval former t (unpaced before later) ≤ check_interval present_setup t later
  no_sooner =
      subst (λ (l : Load). check_interval former t (unpaced before later) ≤ interval_of l) (sym now_slowed)
      (subst (λ (l : Load). interval_of l ≤ interval_of (with_bandwidths (min settings.sender_bw noted.sender_bw)
      (min settings.receiver_bw noted.receiver_bw) load)) (sym (slowed_alone t older load))
      (longer load (slowed_by t older load).sender_bw (slowed_by t older load).receiver_bw
      (min settings.sender_bw noted.sender_bw) (min settings.receiver_bw noted.receiver_bw) refl
      (senders_fit former later)
      (omega (arith, present_usable.for_senders.0, noted_usable.0))
      (omega (arith, present_usable.for_others.0, noted_usable.1))
      (omega (arith, of_senders)) (omega (arith, of_others))))

  pub still_kept : (sighting : ℕ) (mark : Option ℕ) →
      is_removed (horizons_of t (check_interval former t (unpaced before later))) sighting mark ≡ false →
      is_removed (horizons_of t (check_interval present_setup t later)) sighting mark ≡ false
  still_kept sighting mark stays =
      by (nat_lt sighting (t - 5 * check_interval former t (unpaced before later))) (is_before mark (t + 1 - 5000000))
      refl stays
    where
      by : (silent parted : Bool) → nat_lt sighting (t - 5 * check_interval former t (unpaced before later)) ≡ silent →
          (silent || parted) ≡ false →
          (nat_lt sighting (t - 5 * check_interval present_setup t later) || parted) ≡ false
      by true parted heard none = absurd cc
      by false parted heard none =
          ap (λ (b : Bool). b || parted) (le-ltb sighting (t - 5 * check_interval present_setup t later) (omega (
            arith,
            no_sooner,
            ltb-false sighting (t - 5 * check_interval former t (unpaced before later)) heard,
          ))) ∙ none

  -- One that was heard within five of the former intervals stays.
  pub heard_lately : (sighting : ℕ) → t ≤ sighting + 5 * check_interval former t (unpaced before later) →
      is_removed (horizons_of t (check_interval present_setup t later)) sighting None ≡ false
  heard_lately sighting lately =
      ap (λ (b : Bool). b || false)
      (le-ltb sighting (t - 5 * check_interval present_setup t later) (omega (arith, no_sooner, lately)))

-- Once the former pace counts no longer, a check goes by the present settings alone.
pub present_alone : (setup : Setup) (t : ℕ) (outcome : Outcome) (pace : Pace) → newest_pace outcome.paces ≡ Some pace →
    pace.until ≤ t → check_interval setup t outcome ≡ receiver_interval_at setup outcome
present_alone setup t outcome pace is late =
    ap (λ (p : Option Pace). interval_of (slowed_by t p (receiver_load setup outcome))) is
    ∙ ap (λ (b : Bool). interval_of (if b then with_bandwidths (min setup.settings.sender_bw pace.sender_bw)
    (min setup.settings.receiver_bw pace.receiver_bw) (receiver_load setup outcome) else receiver_load setup outcome))
    (le-ltb t pace.until late)
