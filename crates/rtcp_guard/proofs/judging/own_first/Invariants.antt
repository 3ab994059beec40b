-- The sources that were looked at belong to the origin.
use Rattle.std.proofs.Common.{◌≡◌, take}
use Rattle.rtcp_guard.specs.Claims.{AreOwn}
use Rattle.rtcp_guard.proofs.judging.own_first.Given as goal

abbrev pub invariant-names : goal.invariant-names
invariant-names l = record {
  own : AreOwn l.origin (take l.at l.names) l.initial.claims.items;
  kept : l.claims ≡ l.initial.claims;
}
