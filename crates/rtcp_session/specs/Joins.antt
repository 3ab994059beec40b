-- Those who join in a window: each waits from its start to its first report, and counts those who report for the first
-- time in between. Lists are newest first; moments and widths are in microseconds, by the clock of the window.
use Rattle.std.specs.Prelude.{ℕ, ◌+◌, ◌*◌, ◌≤◌, ◌&&◌, nat_le, nat_lt, Bool, List, [], ◌∷◌, length, filter, All, flat_map}
use Rattle.rtcp_session.specs.Windows.{Decided, load_at, decided_at, Joined}
use Rattle.rtcp_session.specs.Crowds.{alike_in, AreHeard, has_role, Terms}
use Rattle.rtcp_session.specs.Waits.{Wait, waits_as, HasBandwidth, HasAverage}

-- from a start to the first report, if there was one
abbrev pub join_over : (start : ℕ) → List Decided → List Wait
join_over start [] = []
join_over start (first ∷ []) = record { since = start; until = start + first.report.moment; next = first } ∷ []
join_over start (newest ∷ before ∷ earlier) = join_over start (before ∷ earlier)

abbrev pub all_joins : List Joined → List Wait
all_joins all = flat_map (λ joined. join_over joined.start (decided_at joined.history)) all

-- The start and the first report lie in a window.
abbrev pub joins_in : (from width : ℕ) → Wait → Bool
joins_in from width join = nat_le from join.since && nat_le join.until (from + width)

abbrev pub joins_within : (from width : ℕ) → List Joined → List Wait
joins_within from width all = filter (joins_in from width) (all_joins all)

-- The first report of another goes out after the start of one and up to its first report, which counts too.
abbrev pub reports_during : Wait → Wait → Bool
reports_during join other = nat_lt join.since other.until && nat_le other.until join.until

-- The first reports in its role that go out after its start and up to its own are at most so many percent of those whom
-- it counts in that role.
abbrev pub CountsJoining : (percent : ℕ) → List Wait → Wait → Type 0
CountsJoining percent joins join =
    100 * length (filter (reports_during join) (waits_as (load_at join.next).we_sent joins))
    ≤ percent * alike_in (load_at join.next)

-- They are at most so many percent of those whom it had heard in that role when it sent its first report, itself
-- included.
pub record HearsJoining (percent : ℕ) (joins : List Wait) (join : Wait) : Type 0 where
  pub those : List ℕ
  pub heard : AreHeard (has_role (load_at join.next).we_sent) join.next.setup join.next.outcome those
  pub enough : 100 * length (filter (reports_during join) (waits_as (load_at join.next).we_sent joins))
      ≤ percent * (1 + length those)

-- those who began before a window
abbrev pub began_before : (from : ℕ) → List Joined → List Joined
began_before from all = filter (λ joined. nat_lt joined.start from) all

-- A session of at most this bandwidth, in which those who join in the window count each other's first reports to that
-- extent, and the average by which each sends its own is at least the size of the terms.
pub record JoinsAreCounted (terms : Terms) (from width : ℕ) (all : List Joined) : Type 0 where
  pub each : All (HasBandwidth terms) all
  pub averages : All (HasAverage terms.size) (joins_within from width all)
  pub counted : All (CountsJoining terms.percent (joins_within from width all)) (joins_within from width all)
