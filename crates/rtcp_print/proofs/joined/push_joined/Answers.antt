use Rattle.std.proofs.Common.{◌∙◌, subst, ap}
use Rattle.rtcp_print.specs.declared.page.Page.{Page}
use Rattle.rtcp_print.specs.Pages.{Adds}
use Rattle.rtcp_print.proofs.Pieces.{first_piece, is_none-push, next_piece}
use Rattle.rtcp_print.proofs.joined.push_joined.Goals as goal
use Rattle.rtcp_print.proofs.joined.push_joined.Goals.{then-not-is_first, else-not-is_first}

pub loop-value-preserved : goal.loop-value-preserved
loop-value-preserved g c =
    let text = g.I.Item.Shown.text in
    let given = c.loop-value.yielded in
    let so_far = c.loop-value.invariant in
    let value = c.in-Some.value in
    record {
      same = elim c.if-not-is_first.branch [
        | then-not-is_first w ↦ c.push_text.ensures.same ∙ ap (λ (p : Page). p.room.ghost_name) w.page-is
            ∙ w.push.ensures.same ∙ so_far.same
        | else-not-is_first w ↦ c.push_text.ensures.same ∙ ap (λ (p : Page). p.room.ghost_name) w.page-is ∙ so_far.same
      ];
      first = is_none-push given value;
      adds = elim c.if-not-is_first.branch [
        | then-not-is_first w ↦
            next_piece c.args.separator text value given (cc (w.if-not-is_first.true)) w.push.ensures.adds
            (subst (λ (p : Page). Adds p c.push_text.new.page (text value)) w.page-is c.push_text.ensures.adds)
            so_far.adds
        | else-not-is_first w ↦
            first_piece c.args.separator text value given (cc (w.if-not-is_first.false))
            (subst (λ (p : Page). Adds p c.push_text.new.page (text value)) w.page-is c.push_text.ensures.adds)
            so_far.adds
      ];
    }
