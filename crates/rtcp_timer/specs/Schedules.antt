-- When the next report is due (RFC 3550, 6.3.2, 6.3.4 and 6.3.6; appendix A.7). Moments and intervals are
-- in microseconds, `members` is a number of members, and lists of happenings are newest first.
use Rattle.std.specs.Prelude.{ℕ, ◌+◌, ◌-◌, ◌*◌, ◌/◌, ◌≤◌, List, [], ◌∷◌, nat_lt, nat_le, max, if◌then◌else◌}
use Rattle.rtcp_clock.specs.Intervals.{longest_draw}

-- what happens to a schedule
pub data Happening : Type 0 where
  -- a report was sent, and an interval drawn (6.3.6); the start of a session is a transmission at 0 with one
  -- member (6.3.2), and so is a leave at its moment (6.3.7)
  transmitted : (moment interval members : ℕ) → Happening
  -- the moment of the next transmission had come, and an interval was drawn to see whether it is due (6.3.6)
  tried : (moment interval members : ℕ) → Happening
  -- the members were counted again, as some may have departed (6.3.4)
  recounted : (moment members : ℕ) → Happening

-- The numbers of a schedule: the moment of the last transmission, as departures have moved it, that of the next one,
-- and the members at the last draw or departure.
pub record Timing : Type 0 where
  pub last : ℕ
  pub next : ℕ
  pub known : ℕ

-- A schedule after one more happening. A try is reconsideration (6.3.6): if the interval has not passed yet, the next
-- transmission is put off until it will have. A count of fewer members is reverse reconsideration (6.3.4): the
-- distances to the last and the next transmission shrink as the members do, but an overdue next transmission stays.
abbrev pub after : Happening → Timing → Timing
after (transmitted moment interval members) timing = record { last = moment; next = moment + interval; known = members }
after (tried moment interval members) timing =
    let passed : ℕ = timing.last + interval in
    record { last = timing.last; next = if nat_le passed moment then timing.next else passed; known = members }
after (recounted moment members) timing =
    let next : ℕ = moment + (timing.next - moment) * members / timing.known in
    if nat_lt members timing.known
    then record {
      last = moment - (moment - timing.last) * members / timing.known;
      next = if nat_le moment timing.next then next else timing.next;
      known = members;
    }
    else timing

-- where a schedule *stands* after some happenings: its numbers, computed from its whole history
abbrev pub schedule_at : List Happening → Timing
schedule_at [] = record { last = 0; next = 0; known = 1 }
schedule_at (newest ∷ before) = after newest (schedule_at before)

-- A transmission is due when the moment of the next one has come and the interval has passed since the last
-- one (6.3.6).
pub record IsDue (timing : Timing) (moment interval : ℕ) : Type 0 where
  pub came : timing.next ≤ moment
  pub passed : timing.last + interval ≤ moment

-- ---- Moments and intervals of happenings

abbrev pub happening_moment : Happening → ℕ
happening_moment (transmitted moment interval members) = moment
happening_moment (tried moment interval members) = moment
happening_moment (recounted moment members) = moment

abbrev pub newest_moment : List Happening → ℕ
newest_moment [] = 0
newest_moment (newest ∷ before) = happening_moment newest

-- the moment of the newest transmission, a report or the start, wherever departures have moved `last` since
abbrev pub newest_transmission : List Happening → ℕ
newest_transmission [] = 0
newest_transmission (transmitted moment interval members ∷ before) = moment
newest_transmission (tried moment interval members ∷ before) = newest_transmission before
newest_transmission (recounted moment members ∷ before) = newest_transmission before

-- the greatest interval drawn by the newest transmission and the tries since
abbrev pub greatest_draw : List Happening → ℕ
greatest_draw [] = 0
greatest_draw (transmitted moment interval members ∷ before) = interval
greatest_draw (tried moment interval members ∷ before) = max interval (greatest_draw before)
greatest_draw (recounted moment members ∷ before) = greatest_draw before

-- Moments do not fall.
abbrev pub IsInOrder : List Happening → Type 0
IsInOrder [] = Unit {0}
IsInOrder (newest ∷ before) = (newest_moment before ≤ happening_moment newest) × IsInOrder before

-- ---- Bounds on a schedule's numbers

-- The last transmission lies at a moment or before it, and the next one within the longest draw from an interval after
-- the last.
pub record IsWithin (newest greatest : ℕ) (timing : Timing) : Type 0 where
  pub last : timing.last ≤ newest
  pub next : timing.next ≤ timing.last + longest_draw greatest
