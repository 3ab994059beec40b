-- What is left of the names makes of the claims so far what all names make of the first ones.
use Rattle.std.proofs.Common.{◌≡◌, drop}
use Rattle.rtcp_guard.specs.Claims.{with_names}
use Rattle.rtcp_guard.specs.Tables.{AreRising}
use Rattle.rtcp_guard.proofs.guard.claim_each.Given as goal

abbrev pub invariant-names : goal.invariant-names
invariant-names l = record {
  goes_on : with_names l.origin l.t (drop l.name-index l.names) l.claims.items
      ≡ with_names l.origin l.t l.names l.initial.claims.items;
  rising : AreRising l.claims.items;
  roomy : l.claims.room ≡ l.initial.claims.room;
}
