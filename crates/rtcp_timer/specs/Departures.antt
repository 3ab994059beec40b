-- A schedule's numbers from its history as a whole (RFC 3550, 6.3.4 and 6.3.6): draws set them, and each
-- departure since brings the last and the next transmission nearer to itself. Moments and intervals are in
-- microseconds, and lists are newest first.
use Rattle.std.specs.Prelude.{ℕ, ◌+◌, ◌-◌, Bool, List, [], ◌∷◌, nat_lt, nat_le, min, if◌then◌else◌}
use Rattle.rtcp_clock.specs.Intervals.{scaled_down}
use Rattle.rtcp_timer.specs.Schedules.{Happening, transmitted, tried, recounted, newest_transmission}

-- ---- Departures

-- a fall in the number of members
pub record Departure : Type 0 where
  pub moment : ℕ
  pub members : ℕ
  pub members_before : ℕ

-- the members that a schedule knows: the least of those at the newest draw and of the counts since
abbrev pub members_known : List Happening → ℕ
members_known [] = 1
members_known (transmitted moment interval members ∷ before) = members
members_known (tried moment interval members ∷ before) = members
members_known (recounted moment members ∷ before) = min members (members_known before)

-- A count is a departure if it is below the members known before.
abbrev pub with_count : (moment members members_before : ℕ) → List Departure → List Departure
with_count moment members members_before earlier =
    if nat_lt members members_before
    then record { moment = moment; members = members; members_before = members_before } ∷ earlier
    else earlier

-- a distance from a departure, scaled by the members after it over those before
abbrev pub scaled_at : Departure → (distance : ℕ) → ℕ
scaled_at departure distance = scaled_down distance departure.members departure.members_before

-- the moment of the newest departure, 0 if there was none
abbrev pub last_departure : List Happening → ℕ
last_departure [] = 0
last_departure (transmitted moment interval members ∷ before) = last_departure before
last_departure (tried moment interval members ∷ before) = last_departure before
last_departure (recounted moment members ∷ before) =
    if nat_lt members (members_known before) then moment else last_departure before

-- ---- The last transmission

abbrev pub departures_since_transmission : List Happening → List Departure
departures_since_transmission [] = []
departures_since_transmission (transmitted moment interval members ∷ before) = []
departures_since_transmission (tried moment interval members ∷ before) = departures_since_transmission before
departures_since_transmission (recounted moment members ∷ before) =
    with_count moment members (members_known before) (departures_since_transmission before)

-- the last transmission after departures, each of which brings it nearer to itself
abbrev pub last_scaled : List Departure → (last : ℕ) → ℕ
last_scaled [] last = last
last_scaled (newest ∷ earlier) last =
    newest.moment - scaled_at newest (newest.moment - last_scaled earlier last)

-- the newest transmission, as the departures since have moved it
abbrev pub last_moment : List Happening → ℕ
last_moment events = last_scaled (departures_since_transmission events) (newest_transmission events)

-- ---- The next transmission
-- A setting is a draw that sets it: each transmission, and each try whose interval has not passed yet.

-- whether a try is one
abbrev pub is_setting : (moment interval : ℕ) → List Happening → Bool
is_setting moment interval before = nat_lt moment (last_moment before + interval)

-- the moment to which the newest setting set the next transmission
abbrev pub newest_setting : List Happening → ℕ
newest_setting [] = 0
newest_setting (transmitted moment interval members ∷ before) = moment + interval
newest_setting (tried moment interval members ∷ before) =
    if is_setting moment interval before then last_moment before + interval else newest_setting before
newest_setting (recounted moment members ∷ before) = newest_setting before

abbrev pub departures_since_setting : List Happening → List Departure
departures_since_setting [] = []
departures_since_setting (transmitted moment interval members ∷ before) = []
departures_since_setting (tried moment interval members ∷ before) =
    if is_setting moment interval before then [] else departures_since_setting before
departures_since_setting (recounted moment members ∷ before) =
    with_count moment members (members_known before) (departures_since_setting before)

-- the next transmission after departures, each of which brings it nearer to itself unless it is overdue
abbrev pub next_scaled : List Departure → (next : ℕ) → ℕ
next_scaled [] next = next
next_scaled (newest ∷ earlier) next =
    let before = next_scaled earlier next in
    if nat_le newest.moment before then newest.moment + scaled_at newest (before - newest.moment) else before

-- the moment to which the newest setting set the next transmission, as the departures since have moved it
abbrev pub next_moment : List Happening → ℕ
next_moment events = next_scaled (departures_since_setting events) (newest_setting events)
