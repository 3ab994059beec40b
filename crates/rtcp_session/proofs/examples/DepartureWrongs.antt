-- What would be wrong of departures: each statement here is a law with a part left out or a bound that is reached, and
-- there is a session of which it does not hold.
use Rattle.std.proofs.Common.{◌≡◌, ℕ, ◌+◌, ◌*◌, ◌<◌, ◌≤◌, ◌++◌, true, false, List, [], ◌∷◌, Ok, refl, arith}
use Rattle.rtcp_wire.specs.Values.{RtcpPacket}
use Rattle.rtcp_members.specs.Stays.{last_naming}
use Rattle.rtcp_engine.specs.answers.Setups.{Setup}
use Rattle.rtcp_engine.specs.answers.Acts.{Act, arrived, rtcp, ticked, forgotten}
use Rattle.rtcp_engine.specs.answers.Outcomes.{Outcome, check_interval}
use Rattle.rtcp_engine.specs.answers.Ticks.{checked}
use Rattle.rtcp_engine.specs.answers.Leaving.{Life, present}
use Rattle.rtcp_engine.specs.answers.Histories.{History, last_moment, life_at, setup_at}
use Rattle.rtcp_engine.specs.bounds.Hearing.{with_acts}
use Rattle.rtcp_engine.specs.bounds.InTime.{is_fall}
use Rattle.rtcp_engine.specs.bounds.Sent.{reports_in, sent_at}
use Rattle.rtcp_engine.specs.state.Taken.{IsHistory}
use Rattle.rtcp_session.specs.Departures.{departures_within, is_departure, is_member_of, least_silence, new_members_since, other_members, says_bye}
use Rattle.rtcp_session.specs.Falls.{AllWaitAtMost, HasReport, TicksWithin}
use Rattle.rtcp_session.proofs.examples.DepartureRows.{bye_came, by, changing, later_by, leaving, named, quick, twice}
use Rattle.rtcp_session.proofs.examples.CrowdRows.{named_came, stands}
use Rattle.rtcp_session.proofs.examples.FallRows.{has_none, untold, untold_stands}

-- ---- Falls and departures

-- A departure is no fall where 188 joins as 187 leaves.
departures_are_falls : ((setup : Setup) (act : Act) (life : Life) → is_departure setup act life ≡ true →
    is_fall setup act life ≡ true) → ⊥
departures_are_falls law = let is : false ≡ true = law quick changing (present (by named)) refl in cc

-- A BYE of a stranger is no departure.
byes_are_departures : ((setup : Setup) (moment peer word size : ℕ) (packets : List RtcpPacket) (life : Life) →
    says_bye packets ≡ true →
    is_departure setup (arrived moment peer word (rtcp size (Ok packets))) life ≡ true) → ⊥
byes_are_departures law =
    let is : false ≡ true = law quick 200 1 0 20 (leaving (188 ∷ [])) (present (by named)) refl in cc

-- Falls come without a BYE too: of a source that is silent,
falls_need_a_bye : ((setup : Setup) (moment first_word second_word : ℕ) (life : Life) →
    is_fall setup (ticked moment first_word second_word) life ≡ false) → ⊥
falls_need_a_bye law = let is : true ≡ false = law quick 25000101 0 0 (present (later_by named)) in cc

-- and of one that the host says is gone.
falls_need_a_datagram : ((setup : Setup) (moment ssrc : ℕ) (life : Life) →
    is_fall setup (forgotten moment ssrc) life ≡ false) → ⊥
falls_need_a_datagram law = let is : true ≡ false = law quick 200 187 (present (by named)) in cc

-- ---- Time-outs

-- Before the first report, five intervals are shorter.
always_for_so_long : ((setup : Setup) (t : ℕ) (outcome : Outcome) →
    25000000 ≤ 5 * check_interval setup t outcome) → ⊥
always_for_so_long law =
    let is : 25000000 ≤ 12500000 = law quick 0 (by named) in omega (arith, is)

-- Six intervals are too many,
six_intervals : ((setup : Setup) (t : ℕ) (outcome : Outcome) (ssrc : ℕ) → is_member_of setup outcome ssrc ≡ true →
    is_member_of setup (checked setup t outcome) ssrc ≡ false →
    last_naming ssrc outcome.trace + 6 * check_interval setup t outcome < t) → ⊥
six_intervals law =
    let is : 30000100 < 25000101 = law quick 25000101 (later_by named) 187 refl refl in omega (arith, is)

-- and so is one microsecond more than five.
one_more_stays : ((setup : Setup) (t : ℕ) (outcome : Outcome) (ssrc : ℕ) → is_member_of setup outcome ssrc ≡ true →
    t ≤ last_naming ssrc outcome.trace + least_silence outcome + 1 →
    is_member_of setup (checked setup t outcome) ssrc ≡ true) → ⊥
one_more_stays law =
    let is : false ≡ true = law quick 25000101 (later_by named) 187 refl (omega arith) in cc

-- ---- Reports

-- As many waits as there are departures are too few.
no_wait_less : ((history : History) (wait lag from until departures : ℕ) → IsHistory history →
    AllWaitAtMost wait from history.setup history.word history.acts →
    TicksWithin lag from until history.acts →
    departures_within history.setup history.word from until history.acts ≤ departures →
    from + departures * (wait + lag) ≤ until
    → HasReport from until (reports_in (sent_at history))) → ⊥
no_wait_less law =
    has_none 1 1 (law untold 1 1 1 1 0 untold_stands tt (λ moment after before. absurd (omega (arith, after, before)))
    (omega arith) (omega arith))

-- ---- New members

abbrev history_of : List Act → History
history_of acts = record { setup = quick; word = 0; acts = acts }

-- Those who were members before may depart,
new_members_suffice : ((history : History) (since : List Act) (from until : ℕ) → IsHistory (with_acts since history) →
    last_moment history.acts ≤ from →
    departures_within history.setup history.word from until (since ++ history.acts)
    ≤ new_members_since history since) → ⊥
new_members_suffice law =
    let is : 1 ≤ 0 = law (history_of (named_came 100 187 ∷ [])) (bye_came 200 (187 ∷ []) ∷ []) 100 1000
    (stands (history_of (bye_came 200 (187 ∷ []) ∷ named_came 100 187 ∷ [])) refl) (omega arith) in
    omega (arith, is)

-- and those who became members since.
old_members_suffice : ((history : History) (since : List Act) (from until : ℕ) → IsHistory (with_acts since history) →
    last_moment history.acts ≤ from →
    departures_within history.setup history.word from until (since ++ history.acts)
    ≤ other_members (setup_at history) (life_at history)) → ⊥
old_members_suffice law =
    let is : 1 ≤ 0 = law (history_of []) twice 0 1000 (stands (history_of twice) refl) (omega arith) in
    omega (arith, is)

-- What departed before is counted too, where the first moment lies before it.
earlier_do_not_count : ((history : History) (since : List Act) (from until : ℕ) → IsHistory (with_acts since history) →
    departures_within history.setup history.word from until (since ++ history.acts)
    ≤ other_members (setup_at history) (life_at history) + new_members_since history since) → ⊥
earlier_do_not_count law =
    let is : 1 ≤ 0 = law (history_of twice) [] 0 1000 (stands (history_of twice) refl) in omega (arith, is)
