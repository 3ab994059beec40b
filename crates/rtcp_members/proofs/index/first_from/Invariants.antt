-- So many slots from one on are left, among which the source stands.
use Rattle.std.proofs.Common.{◌-◌, ◌<◌, ◌+◌}
use Rattle.rtcp_members.specs.storage.Index.{IsHalved}
use Rattle.rtcp_members.proofs.index.first_from.Given as goal

abbrev pub invariant-halves : goal.invariant-halves
invariant-halves l = record {
  halved : IsHalved l.ssrc l.slots l.at (l.at + l.count);
  some : 0 < l.count;
}

abbrev pub decreases-halves : goal.decreases-halves
decreases-halves l = l.count - 1
