-- The cells that were read are counted.
use Rattle.std.proofs.Common.{◌≡◌, ◌≤◌, take}
use Rattle.rtcp_guard.specs.Claims.{goodbyes_of, held}
use Rattle.rtcp_guard.specs.Tables.{claims_in}
use Rattle.rtcp_guard.proofs.cells.count.Given as goal

abbrev pub invariant-cells : goal.invariant-cells
invariant-cells l = record {
  counted : l.count ≡ held l.origin (claims_in (take l.cell-index l.cells));
  said : l.goodbyes ≡ goodbyes_of l.origin (claims_in (take l.cell-index l.cells));
  few : l.count ≤ l.cell-index;
}
