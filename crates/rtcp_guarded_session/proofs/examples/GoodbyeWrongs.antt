-- What would be wrong of goodbyes: each statement here is a law with a part left out or a bound that is reached, and
-- there is a session of which it does not hold.
use Rattle.std.proofs.Common.{◌≡◌, ℕ, ◌+◌, ◌*◌, ◌≤◌, ◌<◌, ◌++◌, List, [], ◌∷◌, refl, arith}
use Rattle.std.specs.List.{Contains, sum_by}
use Rattle.rtcp_engine.specs.answers.Acts.{ticked}
use Rattle.rtcp_engine.specs.answers.Histories.{History, last_moment}
use Rattle.rtcp_engine.specs.state.Taken.{IsHistory}
use Rattle.rtcp_engine.specs.bounds.Sent.{Sent, reports_in, sent_at}
use Rattle.rtcp_session.specs.Departures.{departures_within}
use Rattle.rtcp_session.specs.Falls.{AllWaitAtMost, HasReport, TicksWithin}
use Rattle.rtcp_guard.specs.Guarding.{limit_of}
use Rattle.rtcp_guarded.specs.Claimed.{AllNameFew, followed}
use Rattle.rtcp_guarded.specs.Guarded.{GuardedAct, GuardedHistory, told, expected, trusted, guard_at, passed_at}
use Rattle.rtcp_guarded_session.specs.Goodbyes.{AreWithinHold, IsStretch, LosesNone, departures_from, other_departures, sources_allowed}
use Rattle.rtcp_guarded_session.proofs.examples.GoodbyeRows.{after, leaves, named, one_is_gone, usable}

-- ---- Origins

-- Not all departures come from these origins.
all_have_these_origins : ((history : History) (origins : List ℕ) (from until : ℕ) →
    departures_within history.setup history.word from until history.acts
    ≤ sum_by (λ origin. departures_from origin from until history) origins) → ⊥
all_have_these_origins law =
    let is : 1 ≤ 0 = law (passed_at (after one_is_gone)) (1 ∷ []) 0 1000 in omega (arith, is)

-- An origin that is said twice is counted twice.
counted_once : ((history : History) (origins : List ℕ) (from until : ℕ) →
    departures_within history.setup history.word from until history.acts
    ≡ sum_by (λ origin. departures_from origin from until history) origins
    + other_departures origins from until history) → ⊥
counted_once law =
    let is : 1 ≡ 2 =
    law (passed_at (after (told (leaves 200 1 7) ∷ told (named 100 1 7) ∷ []))) (1 ∷ 1 ∷ []) 0 1000 in
    omega (arith, is)

-- ---- Goodbyes

-- two members of an origin say BYE
abbrev two_leave : List GuardedAct
two_leave = told (leaves 300 1 8) ∷ told (leaves 200 1 7) ∷ told (named 150 1 8) ∷ told (named 100 1 7) ∷ []

two_stretch : IsStretch 0 two_leave (after [])
two_stretch = record {
  passed = record {
    usable = usable;
    word = omega arith;
    taken = (refl, omega arith, (refl, omega arith, (refl, omega arith, (refl, omega arith, tt))));
  };
  few = (omega arith, (omega arith, (omega arith, (omega arith, tt))));
  begins = omega arith;
  within = (
    λ _. record { from = omega arith; until = omega arith },
    (
      λ _. record { from = omega arith; until = omega arith },
      (
        λ _. record { from = omega arith; until = omega arith },
        (λ _. record { from = omega arith; until = omega arith }, tt),
      ),
    ),
  );
}

-- as many as it may have sources, and not one less
one_less : ((older : GuardedHistory) (newer : List GuardedAct) (origin from until : ℕ) → IsStretch from newer older →
    LosesNone origin newer older → let history = followed older newer in
    departures_from origin from until (passed_at history)
    < limit_of origin history.settings (guard_at history).trusted) → ⊥
one_less law = let is : 2 < 2 = law (after []) two_leave 1 0 1000 two_stretch tt in omega (arith, is)

-- The host says that it expects the source 7 elsewhere, and a third member of the origin says BYE.
abbrev one_moves : List GuardedAct
one_moves = told (leaves 600 1 9) ∷ told (named 500 1 9) ∷ expected 7 2 400 ∷ two_leave

moving_stretch : IsStretch 0 one_moves (after [])
moving_stretch = record {
  passed = record {
    usable = usable;
    word = omega arith;
    taken = (refl, omega arith, (refl, omega arith, two_stretch.passed.taken));
  };
  few = (omega arith, (omega arith, two_stretch.few));
  begins = omega arith;
  within = (
    λ _. record { from = omega arith; until = omega arith },
    (
      λ _. record { from = omega arith; until = omega arith },
      (record { from = omega arith; until = omega arith }, two_stretch.within),
    ),
  );
}

though_it_loses_some : ((older : GuardedHistory) (newer : List GuardedAct) (origin from until : ℕ) →
    IsStretch from newer older → let history = followed older newer in
    departures_from origin from until (passed_at history)
    ≤ limit_of origin history.settings (guard_at history).trusted) → ⊥
though_it_loses_some law =
    let is : 3 ≤ 2 = law (after []) one_moves 1 0 1000 moving_stretch in omega (arith, is)

-- A trusted origin may say more.
abbrev three_leave : List GuardedAct
three_leave = told (leaves 600 1 9) ∷ told (named 500 1 9) ∷ trusted 1 ∷ two_leave

trusting_stretch : IsStretch 0 three_leave (after [])
trusting_stretch = record {
  passed = record {
    usable = usable;
    word = omega arith;
    taken = (refl, omega arith, (refl, omega arith, two_stretch.passed.taken));
  };
  few = (omega arith, (omega arith, two_stretch.few));
  begins = omega arith;
  within = (
    λ _. record { from = omega arith; until = omega arith },
    (λ _. record { from = omega arith; until = omega arith }, two_stretch.within),
  );
}

though_trusted : ((older : GuardedHistory) (newer : List GuardedAct) (origin from until : ℕ) →
    IsStretch from newer older → LosesNone origin newer older → let history = followed older newer in
    departures_from origin from until (passed_at history) ≤ history.settings.names) → ⊥
though_trusted law =
    let is : 3 ≤ 2 = law (after []) three_leave 1 0 1000 trusting_stretch tt in omega (arith, is)

-- Two microseconds after a hold the claims to those who left have lapsed.
abbrev longer : GuardedHistory → GuardedHistory
longer older = record older { settings = record older.settings { hold = older.settings.hold + 2 } }

abbrev back_again : List GuardedAct
back_again =
    told (leaves 60000003 1 7) ∷ told (named 60000003 1 7) ∷ told (ticked 60000003 0 0) ∷ told (leaves 2 1 8)
    ∷ told (leaves 2 1 7) ∷ told (named 1 1 8) ∷ told (named 1 1 7) ∷ []

back_is_history : IsHistory (passed_at (followed (after []) back_again))
back_is_history = record {
  usable = usable;
  word = omega arith;
  taken = (
    refl,
    omega arith,
    (
      refl,
      omega arith,
      (
        refl,
        (omega arith, omega arith),
        (
          refl,
          omega arith,
          (refl, omega arith, (refl, omega arith, (refl, omega arith, tt))),
        ),
      ),
    ),
  );
}

two_microseconds_longer : ((older : GuardedHistory) (newer : List GuardedAct) (origin from until : ℕ) →
    IsHistory (passed_at (followed older newer)) → AllNameFew newer → last_moment (passed_at older).acts ≤ from →
    AreWithinHold from newer (longer older) → LosesNone origin newer older → let history = followed older newer in
    departures_from origin from until (passed_at history)
    ≤ limit_of origin history.settings (guard_at history).trusted) → ⊥
two_microseconds_longer law =
    let is : 3 ≤ 2 = law (after []) back_again 1 1 60000003 back_is_history
    (omega arith, (omega arith, (omega arith, (omega arith, (omega arith, (omega arith, tt)))))) (omega arith) (
      λ _. record { from = omega arith; until = omega arith },
      (
        λ _. record { from = omega arith; until = omega arith },
        (
          λ _. record { from = omega arith; until = omega arith },
          (
            λ _. record { from = omega arith; until = omega arith },
            (
              λ _. record { from = omega arith; until = omega arith },
              (
                λ _. record { from = omega arith; until = omega arith },
                (λ _. record { from = omega arith; until = omega arith }, tt),
              ),
            ),
          ),
        ),
      ),
    ) tt in
    omega (arith, is)

-- ---- Reports

has_none : (from until : ℕ) → HasReport from until [] → ⊥
has_none from until h = by h.later h.report h.earlier h.parts
  where
    by : (later : List Sent) (report : Sent) (earlier : List Sent) → [] ≡ later ++ report ∷ earlier → ⊥
    by [] report earlier is = absurd cc
    by (newest ∷ later) report earlier is = absurd cc

nothing_yet : IsStretch 1 [] (after [])
nothing_yet = record {
  passed = record { usable = usable; word = omega arith; taken = tt };
  few = tt;
  begins = omega arith;
  within = tt;
}

-- As many waits as there are departures are too few.
no_wait_less : ((older : GuardedHistory) (newer : List GuardedAct) (origins : List ℕ) (wait lag from until others : ℕ) →
    IsStretch from newer older → ((origin : ℕ) → Contains origins origin → LosesNone origin newer older) →
    let history = followed older newer in let passed = passed_at history in
    AllWaitAtMost wait from passed.setup passed.word passed.acts → TicksWithin lag from until passed.acts →
    other_departures origins from until passed ≤ others →
    from + (sources_allowed origins history + others) * (wait + lag) ≤ until →
    HasReport from until (reports_in (sent_at passed))) → ⊥
no_wait_less law =
    has_none 1 1 (law (after []) [] [] 1 1 1 1 0 nothing_yet (λ origin there. tt) tt
    (λ moment since before. absurd (omega (arith, since, before))) (omega arith) (omega arith))

-- Where nobody ticks, nothing is sent.
no_tick_less : ((older : GuardedHistory) (newer : List GuardedAct) (origins : List ℕ) (wait from until others : ℕ) →
    IsStretch from newer older → ((origin : ℕ) → Contains origins origin → LosesNone origin newer older) →
    let history = followed older newer in let passed = passed_at history in
    AllWaitAtMost wait from passed.setup passed.word passed.acts → other_departures origins from until passed ≤ others →
    from + (sources_allowed origins history + others + 1) * wait ≤ until →
    HasReport from until (reports_in (sent_at passed))) → ⊥
no_tick_less law =
    has_none 1 2 (law (after []) [] [] 1 1 2 0 nothing_yet (λ origin there. tt) tt (omega arith) (omega arith))
