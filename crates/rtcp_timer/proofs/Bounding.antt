-- Bounds on a schedule's moments.
use Rattle.std.proofs.Common.{◌≡◌, ℕ, ◌+◌, ◌-◌, ◌^◌, ◌<◌, ◌≤◌, true, false, nat_lt, nat_le, max, if◌then◌else◌, List, [], ◌∷◌, arith}
use Rattle.std.proofs.lemmas.Bool.Decides.{nat_tests}
use Rattle.rtcp_clock.specs.Intervals.{drawn_interval, longest_draw}
use Rattle.rtcp_clock.proofs.LawLemmas.{draw_within_bounds, longest_never_falls}
use Rattle.rtcp_timer.specs.Averages.{IsBetween}
use Rattle.rtcp_timer.specs.Schedules.{Happening, transmitted, tried, recounted, Timing, IsDue, IsInOrder, IsWithin, after, schedule_at, newest_moment, newest_transmission, greatest_draw}
use Rattle.rtcp_timer.specs.Departures.{last_departure}
use Rattle.rtcp_timer.proofs.Quotients.{scaled_down_shorter}
use Rattle.rtcp_timer.proofs.Cases.{by_test}
use Rattle.rtcp_timer.proofs.Following.{known_follows}

-- A departure brings the last transmission nearer, and no further than to its own moment.
last_after : (moment members : ℕ) (timing : Timing) → timing.last ≤ moment →
    IsBetween timing.last moment (after (recounted moment members) timing).last
last_after moment members timing in_order =
    by_test {X = Timing} (λ new. IsBetween timing.last moment new.last) members timing.known _ _
    (λ fewer. let shorter = scaled_down_shorter (moment - timing.last) members timing.known (omega arith) in
    (omega arith, omega arith))
    (λ _. (omega arith, in_order))

-- A departure brings the next transmission nearer if it is still to come.
pub next_after : (timing : Timing) (moment members : ℕ) → (after (recounted moment members) timing).next ≤ timing.next
next_after timing moment members =
    by_test {X = Timing} (λ new. new.next ≤ timing.next) members timing.known _ _
    (λ fewer. let shorter = scaled_down_shorter (timing.next - moment) members timing.known (omega arith) in
    grind (arith, nat_tests, shorter))
    (λ _. omega arith)

pub last_between : (events : List Happening) → IsInOrder events →
    IsBetween (newest_transmission events) (newest_moment events) (schedule_at events).last
last_between [] in_order = (omega arith, omega arith)
last_between (transmitted moment interval members ∷ before) in_order = (omega arith, omega arith)
last_between (tried moment interval members ∷ before) in_order =
    let so_far = last_between before in_order.1 in (so_far.0, omega (arith, so_far))
last_between (recounted moment members ∷ before) in_order =
    let so_far = last_between before in_order.1 in
    let nearer = last_after moment members (schedule_at before) (omega (arith, so_far)) in
    (omega (arith, so_far, nearer), nearer.1)

pub due_not_too_soon : (events : List Happening) (moment interval : ℕ) → IsInOrder events →
    IsDue (schedule_at events) moment interval → newest_transmission events + interval ≤ moment
due_not_too_soon events moment interval in_order due =
    let between = last_between events in_order in omega (arith, between.0, due.passed)

-- ---- When a report is due at the latest

-- A departure keeps the next transmission within a draw of the last one.
next_near_after : (moment members draw : ℕ) (timing : Timing) → timing.last ≤ moment →
    timing.next ≤ timing.last + draw →
    (after (recounted moment members) timing).next ≤ (after (recounted moment members) timing).last + draw
next_near_after moment members draw timing in_order near =
    by_test {X = Timing} (λ new. new.next ≤ new.last + draw) members timing.known _ _
    (λ (fewer : members < timing.known).
    let last_shorter = scaled_down_shorter (moment - timing.last) members timing.known (omega arith) in
    let next_shorter = scaled_down_shorter (timing.next - moment) members timing.known (omega arith) in
    grind (arith, nat_tests, last_shorter, next_shorter))
    (λ _. near)

pub next_near : (events : List Happening) → IsInOrder events →
    (schedule_at events).next ≤ (schedule_at events).last + greatest_draw events
next_near [] in_order = omega arith
next_near (transmitted moment interval members ∷ before) in_order = omega arith
next_near (tried moment interval members ∷ before) in_order =
    let so_far = next_near before in_order.1 in grind (arith, nat_tests, so_far)
next_near (recounted moment members ∷ before) in_order =
    let last = last_between before in_order.1 in
    next_near_after moment members _ (schedule_at before) (omega (arith, last)) (next_near before in_order.1)

-- a draw is at most the longest one from any interval that is as great
draw_fits : (td greatest word : ℕ) → word < 2 ^ 32 → td ≤ greatest → drawn_interval td word ≤ longest_draw greatest
draw_fits td greatest word fits most =
    omega (arith, (draw_within_bounds td word fits).1, longest_never_falls td greatest most)

pub within_after_transmission : (timing : Timing) (moment td word members : ℕ) → word < 2 ^ 32 →
    IsWithin moment td (after (transmitted moment (drawn_interval td word) members) timing)
within_after_transmission timing moment td word members fits =
    record { last = omega arith; next = omega (arith, draw_fits td td word fits (omega arith)) }

pub within_after_try : (timing : Timing) (newest greatest moment td word members : ℕ) → word < 2 ^ 32 →
    IsWithin newest greatest timing
    → IsWithin newest (max td greatest) (after (tried moment (drawn_interval td word) members) timing)
within_after_try timing newest greatest moment td word members fits h =
    let drawn = draw_fits td (max td greatest) word fits (omega arith) in
    let before = longest_never_falls greatest (max td greatest) (omega arith) in
    record {
      last = h.last;
      next =
          elim (nat_le (timing.last + drawn_interval td word) moment) as (λ t.
          (if t then timing.next else timing.last + drawn_interval td word) ≤ timing.last + longest_draw
          (max td greatest)) [
            | true ↦ omega (arith, h.next, before)
            | false ↦ omega (arith, drawn)
          ];
    }

pub within_after_departure : (timing : Timing) (newest greatest moment members : ℕ) → timing.last ≤ moment →
    members < timing.known → IsWithin newest greatest timing
    → IsWithin moment greatest (after (recounted moment members) timing)
within_after_departure timing newest greatest moment members past fewer h =
    record {
      last = (last_after moment members timing past).1;
      next = next_near_after moment members
          (longest_draw greatest) timing past h.next;
    }

pub within_after_count : (timing : Timing) (newest greatest moment members : ℕ) → timing.known ≤ members →
    IsWithin newest greatest timing → IsWithin newest greatest (after (recounted moment members) timing)
within_after_count timing newest greatest moment members enough h =
    by_test {X = Timing} (λ new. IsWithin newest greatest new) members timing.known _ _
    (λ (fewer : members < timing.known). absurd (omega (arith, fewer, enough)))
    (λ _. h)

-- the last transmission after one more count, where `known` are the members that the schedule knows
last_bounded_after : (moment members known sent departed : ℕ) (timing : Timing) → timing.known ≡ known →
    timing.last ≤ max sent departed →
    (after (recounted moment members) timing).last ≤ max sent (if nat_lt members known then moment else departed)
last_bounded_after moment members known sent departed timing same bounded =
    grind (arith, nat_tests, same, bounded)

pub last_bounded : (events : List Happening) →
    (schedule_at events).last ≤ max (newest_transmission events) (last_departure events)
last_bounded [] = omega arith
last_bounded (transmitted moment interval members ∷ before) = omega arith
last_bounded (tried moment interval members ∷ before) = last_bounded before
last_bounded (recounted moment members ∷ before) =
    last_bounded_after moment members _ _ _ (schedule_at before) (known_follows before) (last_bounded before)

pub due_in_time : (events : List Happening) (moment interval : ℕ) → IsInOrder events →
    newest_transmission events + max interval (greatest_draw events) ≤ moment →
    last_departure events + max interval (greatest_draw events) ≤ moment →
    IsDue (schedule_at events) moment interval
due_in_time events moment interval in_order sent departed =
    let near = next_near events in_order in
    let bounded = last_bounded events in
    record { came = omega (arith, near, bounded); passed = omega (arith, bounded) }
