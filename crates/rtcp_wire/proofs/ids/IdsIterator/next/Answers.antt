use Rattle.std.proofs.Common.{◌≡◌, ◌<◌, ◌≤◌, ℕ, List, ◌∷◌, length, take, drop, sym, ap, ◌∙◌, arith}
use Rattle.byteorder.specs.Endian.{big_number}
use Rattle.rtcp_wire.specs.Views.{id_values}
use Rattle.rtcp_wire.proofs.Fixed.{big_number-take}
use Rattle.rtcp_wire.proofs.WalkSteps.{ids_step}
use Rattle.rtcp_wire.proofs.ids.IdsIterator.next.Goals as goal

-- one identifier, and those after it
step : (octets id others : List ℕ) (number : ℕ) → 4 ≤ length octets → id ≡ take 4 octets → others ≡ drop 4 octets →
    number ≡ big_number 4 id → id_values octets ≡ number ∷ id_values others
step octets id others number room id_is others_is is =
    ids_step octets room ∙ (λ i. sym (is ∙ ap (big_number 4) id_is ∙ big_number-take octets) i ∷ id_values
    (sym others_is i))

pub returns-clause-steps : goal.returns-clause-steps
returns-clause-steps c =
    let cut = c.in_ok-id.ensures.cases in
    sym c.self.view_is ∙ step c.self.inside.octets.now c.in_ok-id.id.now c.in_ok-id.others.now c.read_u32.result cut.0
    cut.1 cut.2 c.read_u32.ensures

pub returns-clause-goes : goal.returns-clause-goes
returns-clause-goes c =
    let cut = c.in_ok-id.ensures.cases in
    let step = step c.self.inside.octets.now c.in_ok-id.id.now c.in_ok-id.others.now c.read_u32.result cut.0 cut.1 cut.2
    c.read_u32.ensures in
    let falls : length (id_values c.in_ok-id.others.now) < length c.args.self.now =
    omega (arith, ap length (sym c.self.view_is ∙ step)) in
    record { on = λ f. (tt, tt, falls); keeps = tt; rests = λ f. tt }
