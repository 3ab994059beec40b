-- Whatever the bounds are lowered to, all entries stand by it where those of the rest do; and the check is ruled out so
-- far.
use Rattle.std.proofs.Common.{◌≤◌, length}
use Rattle.rtcp_members.specs.declared.bounds.Bounds.{Bounds}
use Rattle.rtcp_members.specs.storage.Heaps.{entries_in}
use Rattle.rtcp_members.specs.storage.Standing.{AllStandBy, IsNoLater}
use Rattle.rtcp_members.proofs.shelf.Shelf.bounds_if_left.Given as goal

abbrev pub invariant-strides : goal.invariant-strides
invariant-strides g l = record {
  stand : (lower : Bounds) → IsNoLater lower l.bounds → AllStandBy lower (entries_in l.rest) →
      AllStandBy lower (entries_in l.initial.rest);
  within : (l.silent ≤ l.bounds.silent) × (l.idle ≤ l.bounds.idle) × (l.gone ≤ l.bounds.gone);
}

abbrev pub decreases-strides : goal.decreases-strides
decreases-strides g l = length l.rest
