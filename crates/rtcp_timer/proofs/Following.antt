-- A schedule's numbers follow from its draws and departures.
use Rattle.std.proofs.Common.{◌≡◌, ℕ, ◌+◌, nat_lt, nat_le, min, if◌then◌else◌, List, [], ◌∷◌, refl, ap, ◌∙◌, arith}
use Rattle.std.proofs.lemmas.Bool.Decides.{nat_tests}
use Rattle.rtcp_timer.specs.Schedules.{Happening, transmitted, tried, recounted, Timing, after, schedule_at}
use Rattle.rtcp_timer.specs.Departures.{Departure, members_known, with_count, last_scaled, last_moment, next_scaled, next_moment}

-- ---- The members

known_after_count : (moment members : ℕ) (timing : Timing) → (after (recounted moment members) timing).known
    ≡ min members timing.known
known_after_count moment members timing = grind (arith, nat_tests)

pub known_follows : (events : List Happening) → (schedule_at events).known ≡ members_known events
known_follows [] = refl
known_follows (transmitted moment interval members ∷ before) = refl
known_follows (tried moment interval members ∷ before) = refl
known_follows (recounted moment members ∷ before) =
    known_after_count moment members (schedule_at before) ∙ ap (λ known. min members known) (known_follows before)

-- ---- The last transmission

-- A count moves the last transmission as one more departure does, if it is one.
last_after_count : (moment members last : ℕ) (earlier : List Departure) (timing : Timing) →
    timing.last ≡ last_scaled earlier last →
    (after (recounted moment members) timing).last ≡ last_scaled (with_count moment members timing.known earlier) last
last_after_count moment members last earlier timing same = grind (arith, nat_tests, same)

pub last_follows : (events : List Happening) → (schedule_at events).last ≡ last_moment events
last_follows [] = refl
last_follows (transmitted moment interval members ∷ before) = refl
last_follows (tried moment interval members ∷ before) = last_follows before
last_follows (recounted moment members ∷ before) =
    rw (← known_follows before) (last_after_count moment members _ _ (schedule_at before) (last_follows before))

-- ---- The next transmission

-- the same for the next transmission
next_after_count : (moment members next : ℕ) (earlier : List Departure) (timing : Timing) →
    timing.next ≡ next_scaled earlier next →
    (after (recounted moment members) timing).next ≡ next_scaled (with_count moment members timing.known earlier) next
next_after_count moment members next earlier timing same = grind (arith, nat_tests, same)

-- A try leaves the next transmission as it is, or sets it, with no departure since.
next_after_try : (moment interval last next : ℕ) (earlier : List Departure) (before : ℕ) →
    next ≡ next_scaled earlier before →
    (if nat_le (last + interval) moment then next else last + interval) ≡
    next_scaled (if nat_lt moment (last + interval) then [] else earlier)
    (if nat_lt moment (last + interval) then last + interval else before)
next_after_try moment interval last next earlier before same = grind (arith, nat_tests, same)

pub next_follows : (events : List Happening) → (schedule_at events).next ≡ next_moment events
next_follows [] = refl
next_follows (transmitted moment interval members ∷ before) = refl
next_follows (tried moment interval members ∷ before) =
    rw (← last_follows before) (next_after_try moment interval (schedule_at before).last _ _ _ (next_follows before))
next_follows (recounted moment members ∷ before) =
    rw (← known_follows before) (next_after_count moment members _ _ (schedule_at before) (next_follows before))
