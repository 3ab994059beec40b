-- What is left rises from the SSRC after the last one on exactly where the listing rises.
use Rattle.std.proofs.Common.{◌≡◌, ◌≤◌, ◌^◌, map, length}
use Rattle.rtcp_listing.specs.Differences.{rises_from}
use Rattle.rtcp_listing.proofs.changes.is_rising.Given as goal

abbrev pub invariant-loop-left : goal.invariant-loop-left
invariant-loop-left g l =
    record {
      fits : l.low ≤ 2 ^ 32;
      left : rises_from l.low (map g.S.Listed.listed l.left) ≡ rises_from 0 (map g.S.Listed.listed l.fn.listing);
    }

abbrev pub decreases-loop-left : goal.decreases-loop-left
decreases-loop-left g l = length l.left
