-- How moments are written, as `rtcp listen --show` writes them.
use Rattle.std.specs.Prelude.{ℕ, ◌/◌, ◌%◌, List, ◌++◌, codes}
use Rattle.std.specs.Fmt.{decimal}
use Rattle.rtcp_clock.specs.Moments.{ntp_moment}
use Rattle.rtcp_plain.specs.Numbers.{fixed_text, ntp_time}
use Rattle.rtcp_show.specs.Numbers.{moment_text}
use Rattle.rtcp_show.specs.declared.times.Clock.{Clock}
use Rattle.rtcp_show.specs.declared.times.Clock.TheVariants.{Session, Utc}
use Rattle.rtcp_show.specs.declared.times.Times.{Times}
use Rattle.rtcp_show.specs.declared.times.Times.TheVariants.{OfDay, SinceStart}
use Rattle.rtcp_show.specs.declared.times.When.{When}

-- ---- The time of day

-- The microseconds of the day at a moment of a session: those since the NTP era began at a midnight (RFC 3550, 4), in
-- days of 86,400 seconds.
abbrev pub day_time : (ntp_base moment : ℕ) → ℕ
day_time ntp_base moment = ntp_time (ntp_moment ntp_base moment) % 86400000000

abbrev pub two_digits : (number : ℕ) → List ℕ
two_digits number = decimal (number / 10) ++ decimal (number % 10)

-- Hours, minutes, and seconds with six digits after the point, by the microseconds of the day. The first digit of the
-- seconds stands apart.
abbrev pub day_text : (time : ℕ) → List ℕ
day_text time =
    two_digits (time / 3600000000) ++ codes ":" ++ two_digits (time / 60000000 % 60) ++ codes ":"
    ++ decimal (time / 10000000 % 6) ++ fixed_text 1000000 (time % 10000000) ++ codes "Z"

abbrev pub utc_text : (ntp_base moment : ℕ) → List ℕ
utc_text ntp_base moment = day_text (day_time ntp_base moment)

-- ---- Either

-- how moments are written by a clock
abbrev pub told_by : Clock → (moment : ℕ) → List ℕ
told_by Session = moment_text
told_by (Utc ntp_base) = utc_text ntp_base

abbrev pub when_text : When → List ℕ
when_text when = told_by when.clock when.moment

-- by which clock, in a session whose moment 0 has this NTP timestamp
abbrev pub clock_of : Times → (ntp_base : ℕ) → Clock
clock_of SinceStart ntp_base = Session
clock_of OfDay ntp_base = Utc ntp_base
