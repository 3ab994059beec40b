-- What a watcher keeps of a session.
use Rattle.std.specs.Prelude.{Option}
use Rattle.rtcp_alarm.specs.declared.alarms.Raised.{Raised}
use Rattle.rtcp_alarm.specs.declared.watcher.AlarmWatcher.{AlarmWatcher}
use Rattle.rtcp_alarm.specs.Alarms.{Watch}

abbrev pub watch_of : AlarmWatcher → Watch
watch_of watcher = record { limits = watcher.limits; heard = watcher.heard; left = watcher.has_left }

abbrev pub raised_by : AlarmWatcher → Option Raised
raised_by watcher = watcher.raised
