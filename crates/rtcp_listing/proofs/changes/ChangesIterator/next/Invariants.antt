-- What is left of both listings rises, and gives the changes that the listings gave.
use Rattle.std.proofs.Common.{◌≡◌, ◌+◌, map, true, length}
use Rattle.rtcp_listing.specs.Differences.{rises_from, changes}
use Rattle.rtcp_listing.proofs.changes.ChangesIterator.next.Given as goal

abbrev pub invariant-loop-first : goal.invariant-loop-first
invariant-loop-first g l =
    record {
      before_rises : rises_from 0 (map g.S.Listed.listed l.before) ≡ true;
      after_rises : rises_from 0 (map g.S.Listed.listed l.after) ≡ true;
      left : changes (map g.S.Listed.listed l.before) (map g.S.Listed.listed l.after) ≡ l.fn.self;
    }

abbrev pub decreases-loop-first : goal.decreases-loop-first
decreases-loop-first g l = length (map g.S.Listed.listed l.before) + length (map g.S.Listed.listed l.after)
