use Rattle.std.proofs.Common.{◌∷◌, ◌∙◌, ap}
use Rattle.rtcp_wire.proofs.Passing.{item_taken}
use Rattle.rtcp_wire.proofs.validity.chunks.pass_items.Goals as goal

pub items-preserved : goal.items-preserved
items-preserved c =
    let is = c.in_ok-kind.ensures ∙ ap (λ t. c.in_ok-kind.kind ∷ t) c.in_ok-size.ensures in
    item_taken c.args.reader.now c.items.reader c.pass.new.self c.in_ok-kind.kind c.in_ok-size.field-0
    c.next_octet-in-items.new.self c.items.invariant is c.if-kind-eq0.false c.in_ok-pass.ensures.0
    c.in_ok-pass.ensures.1
