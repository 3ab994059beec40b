use Rattle.std.proofs.Common.{arith}
use Rattle.rtcp_wire.proofs.ItemSteps.{item_step}
use Rattle.rtcp_wire.proofs.sdes.items.octets_of_items.Goals as goal

pub items-preserved : goal.items-preserved
items-preserved c =
    let step = item_step c.items.rest.now c.items.invariant.0 (λ none. c.items-test.true none) in
    rw c.split_item.ensures.rest (step.more, omega (arith, step.sizes, c.items.invariant.1))
