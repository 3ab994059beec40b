-- What a session has come to: what happened to its members, its own stream, its compounds and its schedule.
-- Lists are newest first.
use Rattle.std.specs.Prelude.{ℕ, ◌+◌, ◌*◌, ◌≤◌, ◌==◌, Bool, false, nat_lt, min, max, List, [], ◌∷◌, if◌then◌else◌, Option, Some, None}
use Rattle.rtcp_clock.specs.Intervals.{drawn_interval}
use Rattle.rtcp_members.specs.Present.{TraceStep}
use Rattle.rtcp_members.specs.Members.{members_at, senders_at}
use Rattle.rtcp_report.specs.Reports.{Reporter, items_of, report_size}
use Rattle.rtcp_timer.specs.declared.load.Load.{Load}
use Rattle.rtcp_timer.specs.Loads.{interval_of, average_of}
use Rattle.rtcp_timer.specs.Schedules.{Happening, transmitted, Timing, schedule_at}
use Rattle.rtcp_engine.specs.declared.pace.Pace.{Pace}
use Rattle.rtcp_engine.specs.answers.Setups.{Setup, SettingsValue, keeps_bandwidths}
use Rattle.rtcp_engine.specs.answers.OwnStreams.{OwnStep, we_sent}

pub record Outcome : Type 0 where
  -- what happened to the members
  pub trace : List TraceStep
  pub own : List OwnStep
  -- the sizes of the compounds that were accepted or sent
  pub sizes : List ℕ
  -- what happened to the schedule
  pub happenings : List Happening
  -- how many reports were sent
  pub reports : ℕ
  -- the bandwidths before each change of these, and until when checks go by them too
  pub paces : List Pace

-- ---- Counts

-- the members, the participant among them (RFC 3550, 6.2.1)
abbrev pub member_count : Setup → Outcome → ℕ
member_count setup outcome = 1 + members_at setup.capacity outcome.trace

-- the senders, the participant among them if it is one
abbrev pub sender_count : Setup → Outcome → ℕ
sender_count setup outcome =
    senders_at setup.capacity outcome.trace + (if we_sent outcome.own then 1 else 0)

-- ---- The average and the interval

-- What the interval is computed from. The average begins with the size of a receiver report without blocks: the first
-- compound, as far as one can tell (6.3.2).
abbrev pub load_of : Setup → Outcome → Load
load_of setup outcome =
    let receiver : Reporter = record { ssrc = setup.ssrc; sent = None; items = items_of setup.cname None } in
    record {
      members = member_count setup outcome;
      senders = sender_count setup outcome;
      we_sent = we_sent outcome.own;
      initial = outcome.reports == 0;
      avg = average_of (report_size receiver 0) outcome.sizes;
      sender_bw = setup.settings.sender_bw;
      receiver_bw = setup.settings.receiver_bw;
    }

-- The deterministic interval (6.3.1).
abbrev pub interval_at : Setup → Outcome → ℕ
interval_at setup outcome = interval_of (load_of setup outcome)

-- The same for a participant that is no sender.
abbrev pub receiver_load : Setup → Outcome → Load
receiver_load setup outcome = record (load_of setup outcome) { we_sent = false }

-- ---- The pace of checks

abbrev pub newest_pace : List Pace → Option Pace
newest_pace [] = None
newest_pace (pace ∷ earlier) = Some pace

-- Where bandwidths changed lately, others may still report at the former pace: until then each bandwidth is the lesser.
abbrev pub slowed_by : (t : ℕ) → Option Pace → Load → Load
slowed_by t None load = load
slowed_by t (Some pace) load =
    if nat_lt t pace.until
    then record load {
      sender_bw = min load.sender_bw pace.sender_bw;
      receiver_bw = min load.receiver_bw pace.receiver_bw;
    }
    else load

abbrev pub check_load : Setup → (t : ℕ) → Outcome → Load
check_load setup t outcome = slowed_by t (newest_pace outcome.paces) (receiver_load setup outcome)

-- The interval that the horizons of a check at the moment `t` go by (6.3.5): that of a participant that is no sender,
-- with the lesser bandwidths.
abbrev pub check_interval : Setup → (t : ℕ) → Outcome → ℕ
check_interval setup t outcome = interval_of (check_load setup t outcome)

-- until when checks go by a former pace
abbrev pub end_of : Option Pace → ℕ
end_of None = 0
end_of (Some pace) = pace.until

-- The bandwidths that checks went by up to the moment `t`, at which those of the setup change. Five intervals of a
-- receiver later each source that is still there has reported at the new pace. Where an older pace still counts, the
-- bandwidths are the least, and count until the later end of the two.
abbrev pub pace_at : Setup → (t : ℕ) → Outcome → Pace
pace_at setup t outcome =
    let load = check_load setup t outcome in
    record {
      sender_bw = load.sender_bw;
      receiver_bw = load.receiver_bw;
      until = max (end_of (newest_pace outcome.paces)) (t + 5 * interval_of (receiver_load setup outcome));
    }

-- Settings are given. Where they have other bandwidths than the setup, the former ones are noted.
abbrev pub with_pace : Setup → SettingsValue → (t : ℕ) → Outcome → Outcome
with_pace setup settings t outcome =
    record outcome {
      paces =
          if keeps_bandwidths settings setup then outcome.paces else pace_at setup t outcome ∷ outcome.paces;
    }

-- Bandwidths that an interval can be computed with.
abbrev pub IsPace : Pace → Type 0
IsPace pace = (16 ≤ pace.sender_bw) × (16 ≤ pace.receiver_bw)

abbrev pub timing_of : Outcome → Timing
timing_of outcome = schedule_at outcome.happenings

-- ---- The start

abbrev pub nothing_yet : Outcome
nothing_yet = record { trace = []; own = []; sizes = []; happenings = []; reports = 0; paces = [] }

-- A session begins as if its one member, the participant, had sent a compound at 0 (6.3.2).
abbrev pub beginning : Setup → (word : ℕ) → Outcome
beginning setup word =
    record nothing_yet {
      happenings = transmitted 0 (drawn_interval (interval_at setup nothing_yet) word) 1 ∷ [];
    }

-- ---- Parts of what stands above, by names of their own

abbrev pub one_if : Bool → ℕ
one_if b = if b then 1 else 0

-- the size of the first compound of a session
abbrev pub first_size_of : Setup → ℕ
first_size_of setup =
    let reporter : Reporter = record { ssrc = setup.ssrc; sent = None; items = items_of setup.cname None } in
    report_size reporter 0

abbrev pub average_size : Setup → Outcome → ℕ
average_size setup outcome = average_of (first_size_of setup) outcome.sizes

abbrev pub receiver_interval_at : Setup → Outcome → ℕ
receiver_interval_at setup outcome = interval_of (receiver_load setup outcome)

-- until when checks go by the pace up to the moment `t`
abbrev pub end_at : Setup → (t : ℕ) → Outcome → ℕ
end_at setup t outcome = t + 5 * receiver_interval_at setup outcome
