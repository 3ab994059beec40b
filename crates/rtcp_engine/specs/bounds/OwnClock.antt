-- By which settings the reports of a participant tell the time (RFC 3550, 6.4.1).
use Rattle.std.specs.Prelude.{ℕ, List, [], ◌∷◌, Option}
use Rattle.rtcp_report.specs.Reports.{SentValue}
use Rattle.rtcp_engine.specs.answers.Setups.{SettingsValue}
use Rattle.rtcp_engine.specs.answers.Acts.{Act, configured}
use Rattle.rtcp_engine.specs.answers.OwnStreams.{OwnStep, stream_at}

-- The settings that were given last: the first ones until others are given.
abbrev pub latest_settings : (first : SettingsValue) → List Act → SettingsValue
latest_settings first [] = first
latest_settings first (configured moment settings ∷ earlier) = settings
latest_settings first (act ∷ earlier) = latest_settings first earlier

-- What a report at the moment `t` says of a stream by these settings: the NTP timestamp of `t`, and that of the newest
-- packet moved on to `t`.
abbrev pub told_by : SettingsValue → (t : ℕ) → List OwnStep → Option SentValue
told_by settings t own = stream_at settings.ntp_base settings.rate t own
