-- So many slots from one on are left, among which the source stands.
use Rattle.std.proofs.Common.{◌<◌, ◌+◌}
use Rattle.rtcp_members.specs.storage.Index.{IsHalved}
use Rattle.rtcp_members.proofs.index.few_from.Given as goal

abbrev pub invariant-quarters : goal.invariant-quarters
invariant-quarters l = record {
  halved : IsHalved l.ssrc l.slots l.at (l.at + l.count);
  some : 0 < l.count;
}

abbrev pub decreases-quarters : goal.decreases-quarters
decreases-quarters l = l.count
