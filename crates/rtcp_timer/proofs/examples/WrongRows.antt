-- What would be wrong: a statement here is a law with a number moved, and there is a schedule of which it does not
-- hold; or it is another rule of departures, and a schedule that departures move otherwise.
use Rattle.std.proofs.Common.{◌≡◌, ℕ, ◌+◌, ◌<◌, ◌≤◌, List, [], ◌∷◌, refl, arith}
use Rattle.rtcp_clock.specs.Intervals.{drawn_interval, scaled_down}
use Rattle.rtcp_timer.specs.Schedules.{Happening, transmitted, recounted, IsDue, IsInOrder, schedule_at, newest_transmission}

abbrev start : List Happening
start = transmitted 0 (drawn_interval 2500000 0) 1 ∷ []

-- It is due as soon as what was drawn has passed.
due_later_than_drawn : ((events : List Happening) (moment interval : ℕ) → IsInOrder events →
    IsDue (schedule_at events) moment interval → newest_transmission events + interval + 1 ≤ moment) → ⊥
due_later_than_drawn law =
    let later : 1026038 ≤ 1026037 = law start 1026037 1026037 (omega arith, tt)
    (record { came = omega arith; passed = omega arith }) in
    omega (arith, later)

-- ---- Of four members one leaves

abbrev reported : List Happening
reported = transmitted 1026037 (drawn_interval 5000000 0) 4 ∷ start

abbrev departed : List Happening
departed = recounted 2026037 3 ∷ reported

-- Three are known then, and the distances from that moment shrink by a quarter.
after_departure : schedule_at departed ≡ record { last = 1276037; next = 2815092; known = 3 }
after_departure = refl

departure_keeps_known_throughout : ((events : List Happening) (moment members : ℕ) →
    (schedule_at (recounted moment members ∷ events)).known ≡ (schedule_at events).known) → ⊥
departure_keeps_known_throughout law =
    let same : 3 ≡ 4 = law reported 2026037 3 in
    omega (arith, same)

departure_scales_moment_throughout : ((events : List Happening) (moment members : ℕ) →
    moment ≤ (schedule_at events).next → members < (schedule_at events).known →
    (schedule_at (recounted moment members ∷ events)).next
    ≡ scaled_down (schedule_at events).next members (schedule_at events).known) → ⊥
departure_scales_moment_throughout law =
    let same : 2815092 ≡ 2308583 = law reported 2026037 3 (omega arith) (omega arith) in
    omega (arith, same)
