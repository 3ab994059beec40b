use Rattle.std.proofs.Common.{◌≡◌, ◌++◌, map}
use Rattle.rtcp_members.specs.ListViews.{state_value}
use Rattle.rtcp_show.proofs.changes.push_listing.Given as goal

-- what is listed, and then the sources that are left
abbrev pub invariant-loop-state : goal.invariant-loop-state
invariant-loop-state g l = record {
  can : (goal.iterator-loop-state g).can_next l.state-iterator;
  finite : (goal.iterator-loop-state g).is_finite l.state-iterator;
  listed : map state_value l.listing.items ++ l.state-iterator ≡ l.initial.state-iterator;
}
