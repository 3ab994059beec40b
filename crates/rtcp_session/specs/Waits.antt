-- Which participants wait for their next reports at a moment, and how many each counts when it sends its own. A
-- participant waits from one of its reports in a window to its next one there: at no moment twice. Lists are newest
-- first; moments and widths are in microseconds, by the clock of the window.
use Rattle.std.specs.Prelude.{ℕ, ◌+◌, ◌*◌, ◌/◌, ◌≤◌, ◌&&◌, not, nat_le, nat_lt, Bool, true, false, List, [], ◌∷◌, length, filter, All, flat_map}
use Rattle.std.specs.List.{sum_by}
use Rattle.rtcp_members.specs.Entries.{is_member}
use Rattle.rtcp_timer.specs.declared.load.Load.{Load}
use Rattle.rtcp_timer.specs.Loads.{with_headers}
use Rattle.rtcp_engine.specs.answers.Outcomes.{first_size_of}
use Rattle.rtcp_engine.specs.state.Taken.{IsHistory}
use Rattle.rtcp_session.specs.Windows.{Decided, load_at, decided_at, HasSize, Joined, decided_within}
use Rattle.rtcp_session.specs.Crowds.{alike_in, AreHeard, has_role, Terms, HasAtMost}

-- ---- Waits

pub record Wait : Type 0 where
  -- the moment of its report before, and that of its next one
  pub since : ℕ
  pub until : ℕ
  -- its next report, and what that was decided by
  pub next : Decided

abbrev pub wait_between : (start : ℕ) → (before next : Decided) → Wait
wait_between start before next = record {
  since = start + before.report.moment;
  until = start + next.report.moment;
  next = next;
}

abbrev pub waits_over : (start : ℕ) → List Decided → List Wait
waits_over start [] = []
waits_over start (newest ∷ []) = []
waits_over start (newest ∷ before ∷ earlier) =
    wait_between start before newest ∷ waits_over start (before ∷ earlier)

-- those of a participant between its reports in a window, and those of all participants
abbrev pub waits_within : (from width : ℕ) → Joined → List Wait
waits_within from width joined = waits_over joined.start (decided_within from width joined)

abbrev pub all_waits : (from width : ℕ) → List Joined → List Wait
all_waits from width all = flat_map (waits_within from width) all

-- the averages of their loads in sum, in 1/256 octet
abbrev pub averages_of : List Wait → ℕ
averages_of waits = sum_by (λ wait. (load_at wait.next).avg) waits

-- ---- At a moment

abbrev pub is_open : (moment : ℕ) → Wait → Bool
is_open moment wait = nat_lt wait.since moment && nat_le moment wait.until

abbrev pub open_at : (moment : ℕ) → List Wait → List Wait
open_at moment waits = filter (is_open moment) waits

-- those whose next report is sent as a sender of RTP, or as one that does not send
abbrev pub reports_next_as : (sender : Bool) → Wait → Bool
reports_next_as true wait = (load_at wait.next).we_sent
reports_next_as false wait = not (load_at wait.next).we_sent

abbrev pub waits_as : (sender : Bool) → List Wait → List Wait
waits_as sender waits = filter (reports_next_as sender) waits

-- Those who wait at a moment are at most so many percent of the members that a load counts; and so in its role.
pub record CountsWaiting (percent : ℕ) (waits : List Wait) (moment : ℕ) (load : Load) : Type 0 where
  pub everyone : 100 * length (open_at moment waits) ≤ percent * load.members
  pub alike : 100 * length (waits_as load.we_sent (open_at moment waits)) ≤ percent * alike_in load

-- Whenever one of them sends its next report, it is so for each of those who then wait, by the load of its own next
-- report.
abbrev pub AreCounted : (percent : ℕ) → List Wait → Type 0
AreCounted percent waits =
    All (λ next. All (λ wait. CountsWaiting percent waits next.until (load_at wait.next)) (open_at next.until waits))
    waits

-- ---- Sessions

-- the RTCP bandwidth, of senders and others together
abbrev pub rtcp_bw : Terms → ℕ
rtcp_bw terms = terms.sender_bw + terms.receiver_bw

-- a participant that has at most this bandwidth at each of its reports
pub record HasBandwidth (terms : Terms) (joined : Joined) : Type 0 where
  pub stands : IsHistory joined.history
  pub bandwidth : All (λ decided. HasAtMost terms decided.setup) (decided_at joined.history)

-- A session of at most this bandwidth, in which those who wait in the window count each other to that extent.
pub record IsCounted (terms : Terms) (from width : ℕ) (all : List Joined) : Type 0 where
  pub each : All (HasBandwidth terms) all
  pub counted : AreCounted terms.percent (all_waits from width all)

-- The load of the next report has an average of at least so many octets.
abbrev pub HasAverage : (size : ℕ) → Wait → Type 0
HasAverage size wait = 256 * size ≤ (load_at wait.next).avg

-- No compound that comes to a participant is smaller, and none of its own, headers included.
pub record HasSizes (size : ℕ) (joined : Joined) : Type 0 where
  pub own : size ≤ with_headers (first_size_of joined.history.setup)
  pub sizes : All (HasSize size) joined.history.acts

-- the octets of the next report, with its headers
abbrev pub octets_next : Wait → ℕ
octets_next wait = with_headers (length wait.next.report.out.octets)

-- The next report has at most so many percent of the average of its load.
abbrev pub KeepsToAverage : (of_average : ℕ) → Wait → Type 0
KeepsToAverage of_average wait = 100 * (256 * octets_next wait) ≤ of_average * (load_at wait.next).avg

-- so many percent, for those counted and for the average, of 2.43656 times as many octets as a bandwidth carries in so
-- many microseconds
abbrev pub octets_in : (width bandwidth of_average : ℕ) → Terms → ℕ
octets_in width bandwidth of_average terms =
    terms.percent * of_average * (2 * 121828 * width * bandwidth) / (100 * 100 * 100000 * 1000000)

-- ---- Who is heard

-- Those who wait at a moment are at most so many percent of those whom a participant had heard when it sent this
-- report, itself included; and so in its role.
pub record HearsWaiting (percent : ℕ) (waits : List Wait) (moment : ℕ) (decided : Decided) : Type 0 where
  pub members : List ℕ
  pub heard : AreHeard is_member decided.setup decided.outcome members
  pub everyone : 100 * length (open_at moment waits) ≤ percent * (1 + length members)
  pub those : List ℕ
  pub same_role : AreHeard (has_role (load_at decided).we_sent) decided.setup decided.outcome those
  pub alike : 100 * length (waits_as (load_at decided).we_sent (open_at moment waits)) ≤ percent * (1 + length those)

-- Whenever one of them sends its next report, it is so for each of those who then wait, by its own next report.
abbrev pub AreHeardWaiting : (percent : ℕ) → List Wait → Type 0
AreHeardWaiting percent waits =
    All (λ next. All (λ wait. HearsWaiting percent waits next.until wait.next) (open_at next.until waits)) waits
