use Rattle.std.proofs.Common.{◌-◌, ◌/◌, ◌%◌, ◌<◌, ℕ, Bool, length, map, slice_get, None, option_map, if◌then◌else◌, ap, ◌∙◌, sym, refl, arith}
use Rattle.std.proofs.lemmas.Bool.{eq-eqb, eqb-false}
use Rattle.std.proofs.Math.Nat.{mod-lt}
use Rattle.std.proofs.lemmas.Option.{slice_get-map, slice_get_read}
use Rattle.std.proofs.lemmas.List.{length-map}
use Rattle.rtcp_report.specs.Reports.{item_value}
use Rattle.rtcp_engine.proofs.extra.extra_item.Goals as goal

pub returns : goal.returns
returns c =
    let items = c.args.items.now in
    let values = map item_value items in
    let turn = c.args.number / 3 - 1 in
    let some : 0 < length items = omega
    (arith, eqb-false (length items) 0 (sym c.is_empty.ensures ∙ c.if-is_empty.false)) in
    ap (option_map item_value) (sym (slice_get_read items (length items) (turn % length items) c.index-items-turn.result
    refl (mod-lt turn some) c.index-items-turn.is))
    ∙ sym (slice_get-map item_value items (turn % length items))
    ∙ ap (λ (n : ℕ). slice_get values (turn % n)) (sym (length-map items item_value))
    ∙ sym (ap (λ (b : Bool). if b then slice_get values (turn % length values) else None)
    (eq-eqb (c.args.number % 3) 0 c.if-number-ne0.false))
