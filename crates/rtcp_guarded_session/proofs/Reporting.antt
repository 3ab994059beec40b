-- Few goodbyes put off few reports.
use Rattle.std.proofs.Common.{ℕ, ◌+◌, ◌*◌, ◌≤◌, List, [], ◌∷◌, refl, arith, le_refl}
use Rattle.std.specs.List.{Contains, sum_by}
use Rattle.std.proofs.lemmas.List.Sums.{sum_by-cons}
use Rattle.std.proofs.lemmas.List.Elements.{Contains-append_right}
use Rattle.rtcp_engine.specs.answers.Histories.{History}
use Rattle.rtcp_engine.specs.bounds.Sent.{reports_in, sent_at}
use Rattle.rtcp_engine.specs.state.Taken.{IsHistory}
use Rattle.rtcp_guard.specs.Guarding.{limit_of}
use Rattle.rtcp_guarded.specs.Claimed.{followed}
use Rattle.rtcp_guarded.specs.Guarded.{GuardedAct, GuardedHistory, guard_at, passed_at}
use Rattle.rtcp_session.specs.Departures.{departures_within}
use Rattle.rtcp_session.specs.Falls.{AllWaitAtMost, HasReport, TicksWithin}
use Rattle.rtcp_guarded_session.specs.Goodbyes.{IsStretch, LosesNone, departures_from, other_departures, sources_allowed}
use Rattle.rtcp_guarded_session.proofs.Origins.{departures_are_among}

first_is_contained : (x : ℕ) (xs : List ℕ) → Contains (x ∷ xs) x
first_is_contained x xs = (0, omega arith, refl)

rest_is_contained : (x other : ℕ) (xs : List ℕ) → Contains xs other → Contains (x ∷ xs) other
rest_is_contained x other xs there = Contains-append_right (x ∷ []) xs other there

-- Each is no more than another, and so are the sums.
sums : (few many : ℕ → ℕ) (xs : List ℕ) → ((x : ℕ) → Contains xs x → few x ≤ many x) →
    sum_by few xs ≤ sum_by many xs
sums few many [] each = le_refl 0
sums few many (x ∷ xs) each =
    let here = each x (first_is_contained x xs) in
    let rest = sums few many xs (λ other there. each other (rest_is_contained x other xs there)) in
    omega (arith, sum_by-cons few x xs, sum_by-cons many x xs, here, rest)

module _
    (departures_put_off_few : (history : History) (wait lag from until departures : ℕ) → IsHistory history →
    AllWaitAtMost wait from history.setup history.word history.acts →
    TicksWithin lag from until history.acts →
    departures_within history.setup history.word from until history.acts ≤ departures →
    from + (departures + 1) * (wait + lag) ≤ until → HasReport from until (reports_in (sent_at history)))
    (few_said : (older : GuardedHistory) (newer : List GuardedAct) (origin from until : ℕ) →
    IsStretch from newer older → LosesNone origin newer older → let history = followed older newer in
    departures_from origin from until (passed_at history)
    ≤ limit_of origin history.settings (guard_at history).trusted)
  where
    pub origins_put_off_few : (older : GuardedHistory) (newer : List GuardedAct) (origins : List ℕ)
        (wait lag from until others : ℕ) → IsStretch from newer older →
        ((origin : ℕ) → Contains origins origin → LosesNone origin newer older) →
        let history = followed older newer in let passed = passed_at history in
        AllWaitAtMost wait from passed.setup passed.word passed.acts → TicksWithin lag from until passed.acts →
        other_departures origins from until passed ≤ others →
        from + (sources_allowed origins history + others + 1) * (wait + lag) ≤ until →
        HasReport from until (reports_in (sent_at passed))
    origins_put_off_few older newer origins wait lag from until others stretch lose waits often few room =
        let history = followed older newer in
        let passed = passed_at history in
        let among = departures_are_among passed origins from until in
        let said = sums (λ origin. departures_from origin from until passed)
        (λ origin. limit_of origin history.settings (guard_at history).trusted) origins
        (λ origin there. few_said older newer origin from until stretch (lose origin there)) in
        departures_put_off_few passed wait lag from until (sources_allowed origins history + others)
        stretch.passed waits often (omega (arith, among, said, few)) room

    pub origin_puts_off_few : (older : GuardedHistory) (newer : List GuardedAct)
        (origin wait lag from until others : ℕ) → IsStretch from newer older → LosesNone origin newer older →
        let history = followed older newer in let passed = passed_at history in
        AllWaitAtMost wait from passed.setup passed.word passed.acts → TicksWithin lag from until passed.acts →
        other_departures (origin ∷ []) from until passed ≤ others →
        from + (limit_of origin history.settings (guard_at history).trusted + others + 1) * (wait + lag) ≤ until →
        HasReport from until (reports_in (sent_at passed))
    origin_puts_off_few older newer origin wait lag from until others stretch loses waits often few room =
        let history = followed older newer in
        let passed = passed_at history in
        let among = departures_are_among passed (origin ∷ []) from until in
        let alone = sum_by-cons (λ one. departures_from one from until passed) origin [] in
        let said = few_said older newer origin from until stretch loses in
        departures_put_off_few passed wait lag from until
        (limit_of origin history.settings (guard_at history).trusted + others) stretch.passed waits often
        (omega (arith, among, alone, said, few)) room
