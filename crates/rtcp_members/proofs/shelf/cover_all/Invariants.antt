-- The entries of the cells so far stand by the bounds, which are no later than they were.
use Rattle.std.proofs.Common.{take}
use Rattle.rtcp_members.specs.storage.Heaps.{entries_in}
use Rattle.rtcp_members.specs.storage.Standing.{AllStandBy, IsNoLater}
use Rattle.rtcp_members.proofs.shelf.cover_all.Given as goal

abbrev pub invariant-cells : goal.invariant-cells
invariant-cells l = record {
  no_later : IsNoLater l.bounds l.initial.bounds;
  stand : AllStandBy l.bounds (take l.cell-index (entries_in l.cells));
}
