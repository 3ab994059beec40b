-- Without claims all holds.
use Rattle.std.proofs.Common.{◌≤◌, length, arith, sym, subst}
use Rattle.rtcp_guard.specs.Tables.{AreFewGoodbyes, AreRising, AreSince, claims_in}
use Rattle.rtcp_guard.proofs.table.ClaimTable.with_room.Goals as goal

pub invariant_of-result : goal.invariant_of-result
invariant_of-result c =
    let cells = c.in_ok-cells.cells in
    let none = sym c.in_ok-cells.ensures.items in
    record {
      rising = subst (λ cells. AreRising (claims_in cells)) none tt;
      since = subst (λ cells. AreSince 18446744073709551615 (claims_in cells)) none tt;
      counted = c.none.ensures (claims_in cells.items);
      within = subst (λ items. length (claims_in items) ≤ cells.cap) none (omega arith);
      small = omega (arith, c.in_ok-cells.ensures.exact, c.ranges.room);
      leaving = subst (λ cells. AreFewGoodbyes (claims_in cells)) none (λ origin. omega arith);
    }
