-- The sources of the cells that were read were named since.
use Rattle.std.proofs.Common.{take}
use Rattle.rtcp_guard.specs.Tables.{AreSince, claims_in}
use Rattle.rtcp_guard.proofs.cells.oldest.Given as goal

abbrev pub invariant-cells : goal.invariant-cells
invariant-cells l = AreSince l.oldest (claims_in (take l.cell-index l.cells))
