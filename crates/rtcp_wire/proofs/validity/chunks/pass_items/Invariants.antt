use Rattle.std.proofs.Common.{length}
use Rattle.rtcp_wire.proofs.Passing.{HasTakenItems}
use Rattle.rtcp_wire.proofs.validity.chunks.pass_items.Given as goal

-- the octets so far are items
abbrev pub invariant-items : goal.invariant-items
invariant-items l = HasTakenItems l.initial.reader l.reader

abbrev pub decreases-items : goal.decreases-items
decreases-items l = length l.reader
