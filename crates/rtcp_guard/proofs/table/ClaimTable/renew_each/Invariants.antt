-- What is gathered and what is claimed is what the names so far come to.
use Rattle.std.proofs.Common.{◌≡◌, ◌≤◌, length, take}
use Rattle.rtcp_guard.specs.Claims.{with_names}
use Rattle.rtcp_guard.specs.Tables.{AreRising, AreRisingNames, AreUnclaimed}
use Rattle.rtcp_guard.proofs.table.ClaimTable.renew_each.Given as goal

abbrev pub invariant-names : goal.invariant-names
invariant-names l = record {
  rising : AreRising l.self.items;
  names : AreRisingNames l.fresh.items;
  new : AreUnclaimed l.fresh.items l.self.items;
  few : length l.fresh.items ≤ l.name-index;
  all : with_names l.origin l.t l.fresh.items l.self.items
      ≡ with_names l.origin l.t (take l.name-index l.names) l.initial.self.items;
  room : l.self.room ≡ l.initial.self.room;
}
