use Rattle.std.proofs.Common.{◌≡◌}
use Rattle.std.specs.List.{find}
use Rattle.rtcp_alarm.specs.Alarms.{loses}
use Rattle.rtcp_alarm.proofs.watcher.first_loss.Given as goal

-- the first that loses too much is among the sources that are left
abbrev pub invariant-loop-state : goal.invariant-loop-state
invariant-loop-state g l = record {
  can : (goal.iterator-loop-state g).can_next l.state-iterator;
  finite : (goal.iterator-loop-state g).is_finite l.state-iterator;
  left : find (loses l.limit) l.state-iterator ≡ find (loses l.limit) l.initial.state-iterator;
}
