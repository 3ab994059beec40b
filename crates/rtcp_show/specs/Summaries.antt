-- What keeps the rows that came last before the leave of a session.
use Rattle.std.specs.Prelude.{Bool, true, false}
use Rattle.rtcp_engine.specs.answers.Acts.{EventValue, leave_asked}
use Rattle.rtcp_show.specs.declared.summary.SummaryWatcher.{SummaryWatcher}
use Rattle.rtcp_show.specs.declared.watcher.Watcher.{Watcher}

-- whether an event asks the participant to leave
abbrev pub is_leave : EventValue → Bool
is_leave (leave_asked moment word) = true
is_leave event = false

-- what writes the lines, and keeps the rows
abbrev pub watcher_in : {W : Type 0} → SummaryWatcher W → Watcher W
watcher_in summary = summary.watcher

-- whether the participant was asked to leave
abbrev pub is_ended : {W : Type 0} → SummaryWatcher W → Bool
is_ended summary = summary.is_over
