-- The new sources of the names that were looked at.
use Rattle.std.proofs.Common.{◌≤◌, ◌++◌, ℕ, List, length, take}
use Rattle.rtcp_guard.specs.Claims.{AreOwn}
use Rattle.rtcp_guard.specs.Tables.{AreRisingNames}
use Rattle.rtcp_guard.proofs.Gathering.{AreNew}
use Rattle.rtcp_guard.proofs.judging.judge_each.Given as goal

abbrev pub invariant-names : goal.invariant-names
invariant-names g l = record {
  new : (own : List ℕ) → AreOwn l.origin own l.claims.items →
      AreNew l.origin l.claims.items (own ++ take l.name-index l.names) l.fresh.items;
  rising : AreRisingNames l.fresh.items;
  fits : length l.fresh.items ≤ l.spare;
  few : length l.fresh.items ≤ l.name-index;
}
