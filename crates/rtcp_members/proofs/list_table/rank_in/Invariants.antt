-- No entry before the index is the source's.
use Rattle.std.proofs.Common.{◌≡◌, nat_cmp, drop}
use Rattle.std.specs.FinMap as finite
use Rattle.rtcp_members.specs.ListViews.{rows_of, map_of}
use Rattle.rtcp_members.proofs.list_table.rank_in.Given as goal

abbrev pub invariant-entries : goal.invariant-entries
invariant-entries l = finite.get (map_of l.entries) l.ssrc ≡ finite.find nat_cmp l.ssrc (rows_of (drop l.at l.entries))
