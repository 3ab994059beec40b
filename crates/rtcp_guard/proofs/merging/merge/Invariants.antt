-- What is left to merge, and what is merged already, is what all comes to.
use Rattle.std.proofs.Common.{◌≡◌, ◌≤◌, ◌+◌, ◌++◌, drop, length, take}
use Rattle.rtcp_guard.specs.Claims.{with_names}
use Rattle.rtcp_guard.specs.Tables.{claims_in}
use Rattle.rtcp_guard.proofs.merging.merge.Given as goal

abbrev pub decreases-cells : goal.decreases-cells
decreases-cells l = l.from + l.left

abbrev pub invariant-cells : goal.invariant-cells
invariant-cells l = record {
  within : l.from ≤ l.count;
  few : l.left ≤ length l.names;
  kept : take l.from l.cells ≡ take l.from l.initial.cells;
  goes_on : with_names l.origin l.t (take l.left l.names) (claims_in (take l.from l.initial.cells))
      ++ claims_in (drop (l.from + l.left) l.cells)
      ≡ with_names l.origin l.t l.names (claims_in (take l.count l.initial.cells));
}
