use Rattle.std.proofs.Common.{◌≡◌, ◌<◌, ◌≤◌, ℕ, List, ◌∷◌, length, take, drop, sym, ap, ◌∙◌, arith}
use Rattle.rtcp_wire.specs.Values.{ReportBlock}
use Rattle.rtcp_wire.specs.Readings.{block_in}
use Rattle.rtcp_wire.specs.Views.{block_value, block_values}
use Rattle.rtcp_wire.proofs.WalkSteps.{blocks_step}
use Rattle.rtcp_wire.proofs.block.BlocksIterator.next.Goals as goal

-- one block, and those after it
step : (octets block others : List ℕ) (value : ReportBlock) → 24 ≤ length octets → block ≡ take 24 octets →
    others ≡ drop 24 octets → value ≡ block_in block → block_values octets ≡ value ∷ block_values others
step octets block others value room block_is others_is is =
    blocks_step octets room ∙ (λ i. sym (is ∙ ap block_in block_is) i ∷ block_values (sym others_is i))

pub returns-clause-steps : goal.returns-clause-steps
returns-clause-steps c =
    let cut = c.in_ok-block.ensures.cases in
    sym c.self.view_is ∙ step c.self.inside.octets.now c.in_ok-block.block.now c.in_ok-block.others.now
    (block_value c.block_from.result) cut.0 cut.1 cut.2 c.block_from.ensures

pub returns-clause-goes : goal.returns-clause-goes
returns-clause-goes c =
    let cut = c.in_ok-block.ensures.cases in
    let step = step c.self.inside.octets.now c.in_ok-block.block.now c.in_ok-block.others.now
    (block_value c.block_from.result) cut.0 cut.1 cut.2 c.block_from.ensures in
    let falls : length (block_values c.in_ok-block.others.now) < length c.args.self.now =
    omega (arith, ap length (sym c.self.view_is ∙ step)) in
    record { on = λ f. (tt, tt, falls); keeps = tt; rests = λ f. tt }
