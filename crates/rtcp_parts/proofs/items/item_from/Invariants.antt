use Rattle.std.proofs.Common.{length, ◌-◌}
use Rattle.rtcp_parts.specs.Walks.{place_from}
use Rattle.rtcp_parts.proofs.ItemWalks.{Follows}
use Rattle.rtcp_parts.proofs.items.item_from.Given as goal

abbrev pub invariant-chunks : goal.invariant-chunks
invariant-chunks l = Follows l.datagram l.fn.cursor l.cursor

abbrev pub decreases-chunks : goal.decreases-chunks
decreases-chunks l = length l.datagram - place_from l.cursor
