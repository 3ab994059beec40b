use Rattle.std.proofs.Common.{◌<◌, length, ap, arith}
use Rattle.rtcp_wire.specs.Walks.{items_after}
use Rattle.rtcp_wire.proofs.ItemSteps.{item_step}
use Rattle.rtcp_wire.proofs.sdes.items.ItemsIterator.next.Goals as goal

pub invariant_of-self : goal.invariant_of-self
invariant_of-self c = rw c.split_item.ensures.rest
    (item_step c.self.inside.octets.now c.self.invariant (λ none. c.if-kind-eq0.false none)).more

pub returns-clause-steps : goal.returns-clause-steps
returns-clause-steps c =
    rw (← c.self.view_is, c.split_item.ensures.text, c.split_item.ensures.rest)
    (item_step c.self.inside.octets.now c.self.invariant (λ none. c.if-kind-eq0.false none)).first

pub returns-clause-goes : goal.returns-clause-goes
returns-clause-goes c =
    let step = item_step c.self.inside.octets.now c.self.invariant (λ none. c.if-kind-eq0.false none) in
    let falls : length (items_after 0 c.split_item.result.1.now) < length c.args.self.now =
    omega (
      arith,
      ap length c.self.view_is,
      ap length step.first,
      ap (λ t. length (items_after 0 t)) c.split_item.ensures.rest,
    ) in
    record { on = λ f. (tt, tt, falls); keeps = tt; rests = λ f. tt }
