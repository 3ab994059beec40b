-- What a network does for a session: the compounds of each participant come to the others within some delay; and what
-- has to hold beside that, so that these count it. Lists are newest first; moments, widths and delays are in
-- microseconds, by the clock of the window.
use Rattle.std.specs.Prelude.{ℕ, ◌≡◌, ◌+◌, ◌-◌, ◌*◌, ◌/◌, ◌<◌, ◌≤◌, ◌&&◌, ◌||◌, ◌==◌, nat_lt, Bool, true, false, List, [], ◌∷◌, map, All, Contains, Option, Some, None, is_some, Ok}
use Rattle.std.specs.List.{list_any, AllPairs}
use Rattle.rtcp_wire.specs.declared.fact.Fact.TheVariants.{Named}
use Rattle.rtcp_wire.specs.Values.{RtcpPacket}
use Rattle.rtcp_wire.specs.Facts.{subject, is_media, facts_of}
use Rattle.rtcp_wire.specs.Writing.{written_all}
use Rattle.rtcp_members.specs.Present.{TraceStep, fact_came, check_made, block_made_of, names, source_forgotten}
use Rattle.rtcp_members.specs.Present.{present_among, stay_of, ends_stay}
use Rattle.rtcp_members.specs.Lasting.{says_bye}
use Rattle.rtcp_members.specs.Members.{gives_name}
use Rattle.rtcp_members.specs.Entries.{is_such, is_sender, entry_at}
use Rattle.rtcp_engine.specs.answers.Acts.{arrived, rtcp}
use Rattle.rtcp_session.specs.Windows.{Decided, load_at, Joined, decided_within}
use Rattle.rtcp_session.specs.Crowds.{Terms}
use Rattle.rtcp_session.specs.Waits.{Wait, waits_within, all_waits, AreCounted, HasBandwidth}

-- ---- Waits, but for a delay

-- A wait without its first microseconds, in which the report before it may still be on its way.
abbrev pub opened_after : (delay : ℕ) → Wait → Wait
opened_after delay wait = record wait { since = wait.since + delay }

abbrev pub waits_after : (delay from width : ℕ) → List Joined → List Wait
waits_after delay from width all = map (opened_after delay) (all_waits from width all)

-- A session of at most this bandwidth, in which those who wait in the window count so many of each other, but for those
-- whose report before was sent less than a delay ago.
pub record IsCountedAfter (delay : ℕ) (terms : Terms) (from width : ℕ) (all : List Joined) : Type 0 where
  pub each : All (HasBandwidth terms) all
  pub counted : AreCounted terms.percent (waits_after delay from width all)

-- Successive reports lie at least so many microseconds apart: half of five seconds, over 1.21828.
abbrev pub least_wait : ℕ
least_wait = 2052074

-- so many percent of 2.43656 times as many compounds as a bandwidth carries in a window, which is stretched by a delay
abbrev pub carried_after : (delay width bandwidth : ℕ) → Terms → ℕ
carried_after delay width bandwidth terms =
    least_wait * (terms.percent * (2 * 121828 * width * bandwidth))
    / ((least_wait - delay) * 100 * 100000 * 1000000 * terms.size)

-- the same of octets, for so many percent of the average
abbrev pub octets_after : (delay width bandwidth of_average : ℕ) → Terms → ℕ
octets_after delay width bandwidth of_average terms =
    least_wait * (terms.percent * of_average * (2 * 121828 * width * bandwidth))
    / ((least_wait - delay) * 100 * 100 * 100000 * 1000000)

-- ---- Members

-- Whether a source gave its CNAME, in some step of a trace.
abbrev pub is_named_in : (ssrc : ℕ) → List TraceStep → Bool
is_named_in ssrc trace = list_any (gives_name ssrc) trace

-- a trace as it was after each of its steps, and before the first
abbrev pub pasts_of : List TraceStep → List (List TraceStep)
pasts_of [] = [] ∷ []
pasts_of (step ∷ earlier) = (step ∷ earlier) ∷ pasts_of earlier

-- A source is present, or there is room for it.
abbrev pub has_room : (capacity ssrc : ℕ) → List TraceStep → Bool
has_room capacity ssrc trace =
    is_some (stay_of capacity trace ssrc) || nat_lt (present_among (names trace) (stay_of capacity trace)) capacity

abbrev pub ends_by : (ssrc : ℕ) → TraceStep → Option (List TraceStep) → Bool
ends_by ssrc step None = false
ends_by ssrc step (Some stay) = ends_stay ssrc step stay

-- The newest step drops a source that was present: a check, to which it was silent for too long, or sent a BYE; or
-- the host, which told that it is gone.
abbrev pub is_dropped : (capacity ssrc : ℕ) → List TraceStep → Bool
is_dropped capacity ssrc [] = false
is_dropped capacity ssrc (step ∷ earlier) = ends_by ssrc step (stay_of capacity earlier ssrc)

-- Nothing in a trace keeps a source out, or takes it away: there was always room for it, no check found it silent for
-- too long, the host did not let it go, and it did not send a BYE (RFC 3550, 6.3.3 to 6.3.5, 6.3.7).
pub record IsKept (capacity ssrc : ℕ) (trace : List TraceStep) : Type 0 where
  pub room : All (λ past. has_room capacity ssrc past ≡ true) (pasts_of trace)
  pub never_silent : All (λ past. is_dropped capacity ssrc past ≡ false) (pasts_of trace)
  pub no_bye : All (λ step. says_bye ssrc step ≡ false) trace

-- The step is an RTP packet of a source that came.
abbrev pub brings_rtp : (ssrc : ℕ) → TraceStep → Bool
brings_rtp ssrc (fact_came fact moment) = is_media fact && subject fact == ssrc
brings_rtp ssrc (check_made horizons) = false
brings_rtp ssrc (block_made_of other) = false
brings_rtp ssrc (source_forgotten other) = false

-- ---- Compounds that come

-- The octets of a report are written from packets in which its source gives its CNAME.
pub record NamesItsSource (decided : Decided) : Type 0 where
  pub packets : List RtcpPacket
  pub written : decided.report.out.octets ≡ written_all packets
  pub named : Contains (facts_of packets) (Named decided.setup.ssrc)

-- By this moment a participant has taken a compound in which a source gives its CNAME, as it does in each report.
pub record HasHeard (moment ssrc : ℕ) (joined : Joined) : Type 0 where
  pub at : ℕ
  pub peer : ℕ
  pub word : ℕ
  pub size : ℕ
  pub packets : List RtcpPacket
  pub taken : Contains joined.history.acts (arrived at peer word (rtcp size (Ok packets)))
  pub named : Contains (facts_of packets) (Named ssrc)
  pub in_time : joined.start + at ≤ moment

-- The reports that one sends in a window come to a participant within a delay, all under one SSRC.
pub record ComeWithin (delay from width : ℕ) (one joined : Joined) : Type 0 where
  pub ssrc : ℕ
  pub same : All (λ decided. decided.setup.ssrc ≡ ssrc) (decided_within from width one)
  pub come : All (λ decided. HasHeard (one.start + decided.report.moment + delay) ssrc joined)
      (decided_within from width one)

-- A participant waits for its next report, and another does too (`its`). Before its own next report the participant has
-- taken a compound of the other, under the SSRC of the other's next report; it keeps the other as a member; and their
-- SSRCs differ. If both report next as senders of RTP, it takes the other for a sender; if neither does, for none.
pub record Knows (joined : Joined) (wait its : Wait) : Type 0 where
  pub by : ℕ
  pub comes : HasHeard by its.next.setup.ssrc joined
  pub before : by < wait.until
  pub kept : IsKept wait.next.setup.capacity its.next.setup.ssrc wait.next.outcome.trace
  pub apart : (its.next.setup.ssrc == wait.next.setup.ssrc) ≡ false
  pub role : (load_at its.next).we_sent ≡ (load_at wait.next).we_sent →
      is_such is_sender
      (entry_at wait.next.setup.capacity wait.next.outcome.trace its.next.setup.ssrc)
      ≡ (load_at wait.next).we_sent

-- A wait ends more than a delay after another began.
abbrev pub EndsAfter : (delay : ℕ) (other wait : Wait) → Type 0
EndsAfter delay other wait = other.since + delay < wait.until

-- Whenever two waits overlap for longer than a delay, each participant knows the other.
abbrev pub KnowEachOther : (delay from width : ℕ) (one other : Joined) → Type 0
KnowEachOther delay from width one other =
    All (λ wait. All (λ its. EndsAfter delay its wait → EndsAfter delay wait its →
    Knows one wait its × Knows other its wait) (waits_within from width other)) (waits_within from width one)

-- A session of at most this bandwidth, in which reports come to the others within a delay, and these keep their source.
pub record IsDelivered (delay : ℕ) (terms : Terms) (from width : ℕ) (all : List Joined) : Type 0 where
  pub soon : delay < least_wait
  pub each : All (HasBandwidth terms) all
  pub each_two : AllPairs (KnowEachOther delay from width) all
