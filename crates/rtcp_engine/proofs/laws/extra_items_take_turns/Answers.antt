use Rattle.rtcp_wire.specs.Values.{ItemValue}
use Rattle.std.proofs.lemmas.Bool.{eq-eqb, ne_eqb}
use Rattle.std.proofs.Common.{◌≡◌, ℕ, ◌+◌, ◌-◌, ◌*◌, ◌/◌, ◌%◌, Bool, length, slice_get, Option, None, if◌then◌else◌, ap, ◌∙◌, arith, refl}
use Rattle.rtcp_engine.proofs.laws.extra_items_take_turns.Goals as goal

pub returns-clause-third : goal.returns-clause-third
returns-clause-third c items turn some =
    let third : 3 * (turn + 1) % 3 ≡ 0 = omega arith in
    let at : 3 * (turn + 1) / 3 - 1 ≡ turn = omega arith in
    let one : ℕ → Option ItemValue = λ place. slice_get items (place % length items) in
    ap (λ (b : Bool). if b then one (3 * (turn + 1) / 3 - 1) else None) (eq-eqb (3 * (turn + 1) % 3) 0 third)
    ∙ ap one at

pub returns-clause-others : goal.returns-clause-others
returns-clause-others c items number not_third = rw (ne_eqb (number % 3) 0 not_third) refl
