-- How late a participant sends at the latest, where it is asked (RFC 3550, 6.3). Lists are newest first; moments and
-- intervals are in microseconds.
use Rattle.std.specs.Prelude.{ℕ, ◌+◌, ◌≤◌, Bool, false, IsTrue, is_some, nat_lt, max, List, [], ◌∷◌, if◌then◌else◌}
use Rattle.rtcp_clock.specs.Intervals.{longest_draw}
use Rattle.rtcp_timer.specs.Loads.{interval_of}
use Rattle.rtcp_engine.specs.answers.Setups.{Setup}
use Rattle.rtcp_engine.specs.answers.Acts.{Act, ticked, left, moment_of}
use Rattle.rtcp_engine.specs.answers.Outcomes.{Outcome, interval_at, member_count, nothing_yet}
use Rattle.rtcp_engine.specs.answers.Lives.{made_by}
use Rattle.rtcp_engine.specs.answers.Ticks.{checked, with_report}
use Rattle.rtcp_engine.specs.answers.Histories.{History, brought_by, session_at, session_for, session_of}
use Rattle.rtcp_engine.specs.answers.Leaving.{Life, present, backing_off, finished, leaving_interval, leaving_load}
use Rattle.rtcp_engine.specs.bounds.Sent.{Sent, reports_in, sent_at}
use Rattle.rtcp_engine.specs.bounds.Spacing.{newest_moment}

-- ---- Falls

-- Whether the participant takes part still, with fewer members than before.
abbrev pub has_fewer : Setup → (before : Outcome) → Life → Bool
has_fewer setup before (present after) = nat_lt (member_count setup after) (member_count setup before)
has_fewer setup before _ = false

-- A fall is an act of a participant that takes part, after which it has fewer members (6.3.4): a compound, a tick or a
-- source that is forgotten.
abbrev pub is_fall : Setup → Act → Life → Bool
is_fall setup act (present outcome) = has_fewer setup outcome (made_by setup act (present outcome)).life
is_fall setup act _ = false

-- the moment of the newest fall, 0 if there was none
abbrev pub last_fall : Setup → (word : ℕ) → List Act → ℕ
last_fall setup word [] = 0
last_fall setup word (act ∷ earlier) =
    let now = session_for (session_of setup word earlier) act in
    if is_fall now.setup act now.life then moment_of act else last_fall setup word earlier

-- ---- The greatest interval

-- one act more
abbrev pub greatest_by : Setup → Act → Life → (before : ℕ) → ℕ
greatest_by setup (ticked moment first_word second_word) (present outcome) before =
    let now = checked setup moment outcome in
    if is_some (made_by setup (ticked moment first_word second_word) (present outcome)).out
    then interval_at setup (with_report setup moment now)
    else max (interval_at setup now) before
greatest_by setup (left moment word) (present outcome) before = interval_of (leaving_load setup 1 [])
greatest_by setup (ticked moment first_word second_word) (backing_off outcome backoff) before =
    max (leaving_interval setup backoff) before
greatest_by setup act life before = before

-- The greatest of the deterministic intervals computed since the newest report: for the draw that followed it, and at
-- each tick since, after its check. Before the first report, since the start; after a leave, since that. A report is
-- what an act brings.
abbrev pub greatest_interval : Setup → (word : ℕ) → List Act → ℕ
greatest_interval setup word [] = interval_at setup nothing_yet
greatest_interval setup word (act ∷ earlier) =
    let now = session_for (session_of setup word earlier) act in
    greatest_by now.setup act now.life (greatest_interval setup word earlier)

-- ---- Overdue

-- how long a tick may come after what it waits for, and bring nothing: the longest draw from the greatest interval,
-- that of this tick included
abbrev pub longest_wait : History → Act → ℕ
longest_wait history act =
    let session = session_at history in
    longest_draw (max (made_by session.setup act session.life).interval
    (greatest_interval history.setup history.word history.acts))

-- Since the newest report, or moment 0, and since the newest fall, that of this tick included, so long has passed; in a
-- backoff, since the leave.
abbrev pub HasWaited : (wait moment fall : ℕ) → List Sent → Life → Type 0
HasWaited wait moment fall sent (present outcome) =
    (newest_moment (reports_in sent) + wait ≤ moment) × (fall + wait ≤ moment)
HasWaited wait moment fall sent (backing_off outcome backoff) = backoff.since + wait ≤ moment
HasWaited wait moment fall sent (finished outcome) = ⊥

-- An act comes late.
abbrev pub IsOverdue : History → Act → Type 0
IsOverdue history act =
    HasWaited (longest_wait history act) (moment_of act)
    (last_fall history.setup history.word (act ∷ history.acts)) (sent_at history) (session_at history).life

-- ---- In time

abbrev pub BringsOut : History → Act → Type 0
BringsOut history act = IsTrue (is_some (brought_by (session_at history) act))

-- A tick that comes late sends a report, or in a backoff the BYE.
abbrev pub IsInTime : History → Act → Type 0
IsInTime history (ticked moment first_word second_word) =
    IsOverdue history (ticked moment first_word second_word) → BringsOut history (ticked moment first_word second_word)
IsInTime history act = Unit {0}

-- Each tick that came late sent one.
abbrev pub AllInTime : Setup → (word : ℕ) → List Act → Type 0
AllInTime setup word [] = Unit {0}
AllInTime setup word (act ∷ earlier) =
    IsInTime (record { setup = setup; word = word; acts = earlier }) act × AllInTime setup word earlier
