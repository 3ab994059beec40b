-- What the participants of a session send in a window of time, all together. Sizes are in octets, and bandwidths in
-- octets a second.
use Rattle.std.specs.Prelude.{ℕ, ◌≡◌, ◌+◌, ◌-◌, ◌*◌, ◌/◌, ◌≤◌, ◌==◌, ◌&&◌, Bool, true, false, not, nat_le, if◌then◌else◌, List, length, filter, All}
use Rattle.std.specs.List.{sum_by, IsDistinct}
use Rattle.rtcp_members.specs.Entries.{EntryValue, entry_at, is_member, is_sender, is_such}
use Rattle.rtcp_timer.specs.declared.load.Load.{Load}
use Rattle.rtcp_timer.specs.Loads.{with_headers}
use Rattle.rtcp_engine.specs.answers.Setups.{Setup}
use Rattle.rtcp_engine.specs.answers.Outcomes.{Outcome, first_size_of}
use Rattle.rtcp_engine.specs.state.Taken.{IsHistory}
use Rattle.rtcp_engine.specs.bounds.Sent.{Sent}
use Rattle.rtcp_session.specs.Windows.{Decided, load_at, decided_at, Joined, HasSize, compounds_within, reports_within, later_within}

-- ---- Totals

-- how many reports all of them send in a window, and how many octets these are, with UDP and IPv4 headers
abbrev pub total_reports : (from width : ℕ) → List Joined → ℕ
total_reports from width all = sum_by (λ joined. length (reports_within from width joined)) all

abbrev pub octets_of : List Sent → ℕ
octets_of compounds = sum_by (λ sent. with_headers (length sent.out.octets)) compounds

abbrev pub total_octets : (from width : ℕ) → List Joined → ℕ
total_octets from width all = sum_by (λ joined. octets_of (reports_within from width joined)) all

-- how many compounds, the BYEs included
abbrev pub total_compounds : (from width : ℕ) → List Joined → ℕ
total_compounds from width all = sum_by (λ joined. length (compounds_within from width joined)) all

-- ---- One interval each

-- a participant, and an interval that is no longer than that of any of its reports in the window, but for the oldest
pub record Paced : Type 0 where
  pub joined : Joined
  pub least : ℕ

pub record IsPaced (from width : ℕ) (paced : Paced) : Type 0 where
  pub stands : IsHistory paced.joined.history
  pub some : 1 ≤ paced.least
  pub least : All (λ decided. paced.least ≤ decided.report.interval) (later_within from width paced.joined)

-- ---- Roles

-- the reports that were sent as a sender of RTP, or those that were not
abbrev pub sent_as : (sender : Bool) → List Decided → List Decided
sent_as true all = filter (λ decided. (load_at decided).we_sent) all
sent_as false all = filter (λ decided. not (load_at decided).we_sent) all

-- those of a participant in a window, but for its oldest report there
abbrev pub later_as : (sender : Bool) (from width : ℕ) → Joined → List Decided
later_as sender from width joined = sent_as sender (later_within from width joined)

-- how many these are of all of them
abbrev pub total_as : (sender : Bool) (from width : ℕ) → List Joined → ℕ
total_as sender from width all = sum_by (λ joined. length (later_as sender from width joined)) all

-- those who send such a report
abbrev pub those_as : (sender : Bool) (from width : ℕ) → List Joined → List Joined
those_as sender from width all = filter (λ joined. nat_le 1 (length (later_as sender from width joined))) all

-- how many a load counts in the participant's own role: the senders, or the members that do not send
abbrev pub alike_in : Load → ℕ
alike_in load = if load.we_sent then load.senders else load.members - load.senders

-- ---- Shares

-- The octets, in 1/256 octet, of one compound of average size from each of the members that a load counts as such that
-- do not send.
abbrev pub share_of_others : Load → ℕ
share_of_others load = (load.members - load.senders) * load.avg

-- the same for each report of a participant in a window that it sends as one of these, but for its oldest there
abbrev pub shares_within : (from width : ℕ) → Joined → ℕ
shares_within from width joined =
    sum_by (λ decided. share_of_others (load_at decided)) (later_as false from width joined)

abbrev pub total_shares : (from width : ℕ) → List Joined → ℕ
total_shares from width all = sum_by (shares_within from width) all

-- When a report was sent, the session had at most this bandwidth for those that do not send.
abbrev pub LeavesOthers : (receiver_bw : ℕ) → Decided → Type 0
LeavesOthers receiver_bw decided = decided.setup.settings.receiver_bw ≤ receiver_bw

-- one of a session with at most this bandwidth for those that do not send, at each of its reports in the window but the
-- oldest
pub record SharesBandwidth (from width receiver_bw : ℕ) (joined : Joined) : Type 0 where
  pub stands : IsHistory joined.history
  pub for_others : All (LeavesOthers receiver_bw) (later_within from width joined)

-- ---- Crowds

-- What the participants of a session go by: its greatest RTCP bandwidth; a size, headers included, below which no
-- average is, or no compound, as each law says; and how many percent of those whom each counts there may be.
pub record Terms : Type 0 where
  pub sender_bw : ℕ
  pub receiver_bw : ℕ
  pub size : ℕ
  pub percent : ℕ

-- a setup with at most this bandwidth
pub record HasAtMost (terms : Terms) (setup : Setup) : Type 0 where
  pub for_senders : setup.settings.sender_bw ≤ terms.sender_bw
  pub for_others : setup.settings.receiver_bw ≤ terms.receiver_bw

-- All are at most so many percent of the members that a load counts; and so are those who report in its role.
pub record CountsMost (percent from width : ℕ) (all : List Joined) (load : Load) : Type 0 where
  pub everyone : 100 * length all ≤ percent * load.members
  pub alike : 100 * length (those_as load.we_sent from width all) ≤ percent * alike_in load

-- A participant that goes by these terms, and counts so many at each of its reports in the window but the oldest.
pub record TakesPart (terms : Terms) (from width : ℕ) (all : List Joined) (joined : Joined) : Type 0 where
  pub stands : IsHistory joined.history
  pub bandwidth : All (λ decided. HasAtMost terms decided.setup) (decided_at joined.history)
  pub own : terms.size ≤ with_headers (first_size_of joined.history.setup)
  pub sizes : All (HasSize terms.size) joined.history.acts
  pub counts : All (λ decided. CountsMost terms.percent from width all (load_at decided))
      (later_within from width joined)

abbrev pub IsCrowd : Terms → (from width : ℕ) → List Joined → Type 0
IsCrowd terms from width all = All (TakesPart terms from width all) all

-- so many percent of 2.43656 times as many compounds as a bandwidth carries in so many microseconds
abbrev pub carried_in : (width bandwidth : ℕ) → Terms → ℕ
carried_in width bandwidth terms =
    terms.percent * (2 * 121828 * width * bandwidth) / (100 * 100000 * 1000000 * terms.size)

-- ---- Who is heard

-- These sources are such, by what a session has come to, and no two of them are the same.
pub record AreHeard (test : EntryValue → Bool) (setup : Setup) (outcome : Outcome) (ssrcs : List ℕ) : Type 0 where
  pub apart : IsDistinct (λ (one other : ℕ). one == other) ssrcs
  pub heard : All (λ ssrc. is_such test (entry_at setup.capacity outcome.trace ssrc) ≡ true) ssrcs

-- a member that does not send
abbrev pub is_listener : EntryValue → Bool
is_listener entry = is_member entry && not (is_sender entry)

abbrev pub has_role : (sender : Bool) → EntryValue → Bool
has_role true = is_sender
has_role false = is_listener

-- All are at most so many percent of those whom a participant had heard when it sent this report, itself included; and
-- so are those who report in its role.
pub record HearsMost (percent from width : ℕ) (all : List Joined) (decided : Decided) : Type 0 where
  pub members : List ℕ
  pub heard : AreHeard is_member decided.setup decided.outcome members
  pub everyone : 100 * length all ≤ percent * (1 + length members)
  pub those : List ℕ
  pub same_role : AreHeard (has_role (load_at decided).we_sent) decided.setup decided.outcome those
  pub alike : 100 * length (those_as (load_at decided).we_sent from width all) ≤ percent * (1 + length those)
