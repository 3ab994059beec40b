-- How far apart the compounds of a participant lie, and how large they are. Lists are newest first, and moments
-- and intervals are in microseconds.
use Rattle.std.specs.Prelude.{ℕ, ◌≡◌, ◌+◌, ◌-◌, ◌*◌, ◌/◌, ◌≤◌, ◌⊎◌, ◌&&◌, not, Bool, true, false, max, List, [], ◌∷◌, length, filter, All, Option, Some, None}
use Rattle.std.specs.Option.{option_or}
use Rattle.rtcp_timer.specs.Averages.{IsBetween}
use Rattle.rtcp_timer.specs.Departures.{last_departure}
use Rattle.rtcp_timer.specs.Schedules.{Happening, Timing}
use Rattle.rtcp_engine.specs.answers.Setups.{is_within}
use Rattle.rtcp_engine.specs.answers.Acts.{Act, left}
use Rattle.rtcp_engine.specs.answers.Changes.{most_changes}
use Rattle.rtcp_engine.specs.answers.Histories.{History}
use Rattle.rtcp_engine.specs.bounds.Sent.{Sent, is_report, reports_in, sent_at}

-- From one moment to another at least half an interval passes, over 1.21828: the least that a draw can give
-- (RFC 3550, 6.3.1).
abbrev pub HalfPasses : (from until interval : ℕ) → Type 0
HalfPasses from until interval = 100000 * interval ≤ 2 * 121828 * (until - from)

-- ---- Reports

-- the moment of the newest compound, or the start of the session
abbrev pub newest_moment : List Sent → ℕ
newest_moment [] = 0
newest_moment (newest ∷ earlier) = newest.moment

-- Each report keeps its distance from the one before it, and the first from the start.
abbrev pub AreSpaced : List Sent → Type 0
AreSpaced [] = Unit {0}
AreSpaced (report ∷ earlier) =
    HalfPasses (newest_moment earlier) report.moment report.interval × AreSpaced earlier

-- how many reports lie in a window of so many microseconds, its ends included
abbrev pub count_within : (from width : ℕ) → List Sent → ℕ
count_within from width reports = length (filter (λ report. is_within from (from + width) report.moment) reports)

-- ---- Leaving

abbrev pub leave_moment : Act → Option ℕ
leave_moment (left moment word) = Some moment
leave_moment act = None

-- the moment of the first leave, if there was one
abbrev pub first_leave : List Act → Option ℕ
first_leave [] = None
first_leave (act ∷ earlier) = option_or (first_leave earlier) (leave_moment act)

-- A BYE comes at the moment of a leave, and waits for nothing; or in a backoff, once half its interval over 1.21828 has
-- passed, which is at least 1,026,037 microseconds.
abbrev pub IsInDueTime : (leave : Option ℕ) → Sent → Type 0
IsInDueTime None bye = ⊥
IsInDueTime (Some leave) bye =
    ((bye.moment ≡ leave) × (bye.interval ≡ 0))
    ⊎ (HalfPasses leave bye.moment bye.interval × (leave + 1026037 ≤ bye.moment))

-- the BYE with which the participant leaves
abbrev pub is_last_bye : Sent → Bool
is_last_bye sent = not (is_report sent) && not sent.changes

-- the BYE of an identifier that was given up
abbrev pub is_change_bye : Sent → Bool
is_change_bye sent = not (is_report sent) && sent.changes

-- Only the newest compound may be the BYE of leaving: there is at most one, and nothing comes after it.
abbrev pub EndsWithBye : (leave : Option ℕ) → List Sent → Type 0
EndsWithBye leave [] = Unit {0}
EndsWithBye leave (newest ∷ earlier) =
    All (λ sent. is_last_bye sent ≡ false) earlier × (is_last_bye newest ≡ true → IsInDueTime leave newest)

-- ---- The schedule

-- The last transmission as a schedule knows it (tp) lies no sooner than what was sent last, and no later than the later
-- of that and the last departure (RFC 3550, 6.3.4).
abbrev pub LiesAfter : (sent : ℕ) → List Happening → Timing → Type 0
LiesAfter sent happenings timing = IsBetween sent (max sent (last_departure happenings)) timing.last

-- ---- Sizes

abbrev pub AllFit : (limit : ℕ) → List Sent → Type 0
AllFit limit sent = All (λ compound. length compound.out.octets ≤ limit) sent

-- ---- All together

-- What holds of all that was sent over a session, the BYEs included, by the moment of its first leave and the limit of
-- its compounds (RFC 3550, 6.2, 6.3, 8.2).
pub record AreBounded (leave : Option ℕ) (most : ℕ) (sent : List Sent) : Type 0 where
  -- Two successive reports lie at least half the interval then computed for the later one apart, over 1.21828.
  pub spaced : AreSpaced (reports_in sent)
  -- None comes before 1,026,037 microseconds.
  pub first : All (λ report. 1026037 ≤ report.moment) (reports_in sent)
  -- In a window of any width at most one more lies than 2,052,074 microseconds fit into it.
  pub window : (from width : ℕ) → count_within from width (reports_in sent) ≤ 1 + width / 2052074
  -- There is at most one BYE of leaving, nothing comes after it, and it comes at the moment of the leave, or after a
  -- backoff: no sooner than half its interval after the leave, over 1.21828, and than 1,026,037 microseconds.
  pub leaves_once : EndsWithBye leave sent
  -- At most eight identifiers are given up with a BYE.
  pub few_changes : length (filter is_change_bye sent) ≤ most_changes
  -- No compound passes the limit.
  pub limit : All (λ compound. length compound.out.octets ≤ most) sent

-- What was sent over a history keeps its bounds.
abbrev pub KeepsBounds : History → Type 0
KeepsBounds history = AreBounded (first_leave history.acts) history.setup.limit (sent_at history)

-- ---- Parts of what stands above, by names of their own

abbrev pub is_between : (from until : ℕ) → Sent → Bool
is_between from until report = is_within from until report.moment
