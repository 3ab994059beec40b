use Rattle.rtcp_text.proofs.Joined.{is_none-push, first_piece, next_piece}
use Rattle.rtcp_text.proofs.text.joined.push_joined.Goals as goal
use Rattle.rtcp_text.proofs.text.joined.push_joined.Goals.{then-not-is_first+in_ok-push, else-not-is_first}

pub loop-value-preserved : goal.loop-value-preserved
loop-value-preserved g c =
    let text = g.I.Item.Shown.text in
    let given = c.loop-value.yielded in
    let so_far = c.loop-value.invariant in
    record {
      first = is_none-push given c.in-Some.value;
      written = elim c.if-not-is_first.branch [
        | then-not-is_first+in_ok-push w ↦
            next_piece c.args.separator text c.in-Some.value _ _ _ given c.if-not-is_first.out.items
            (cc (w.if-not-is_first.true)) (rw w.out-is w.in_ok-push.ensures.items) c.in_ok-push_text.ensures
            so_far.written
        | else-not-is_first w ↦
            first_piece c.args.separator text c.in-Some.value _ _ _ given (cc (w.if-not-is_first.false))
            (rw w.out-is at c.in_ok-push_text.ensures) so_far.written
      ];
    }
