use Rattle.std.proofs.Common.{◌≡◌, ◌+◌, length}
use Rattle.rtcp_wire.specs.Validity.{HasItems}
use Rattle.rtcp_wire.specs.Walks.{items_after, items_size}
use Rattle.rtcp_wire.proofs.sdes.items.octets_of_items.Given as goal

-- what was passed and the items that are left make up all items
abbrev pub invariant-items : goal.invariant-items
invariant-items l =
    HasItems l.rest
    × (length l.octets + items_size (items_after 0 l.rest) ≡ length l.rest + items_size (items_after 0 l.octets))

abbrev pub decreases-items : goal.decreases-items
decreases-items l = length l.rest
