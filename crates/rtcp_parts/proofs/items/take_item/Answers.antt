use Rattle.std.proofs.Common.{◌≤◌, ◌+◌, length, refl, arith}
use Rattle.std.proofs.lemmas.Bool.Decides.{nat_tests}
use Rattle.rtcp_parts.proofs.Calls.{none_taken, within_is}
use Rattle.rtcp_parts.proofs.ItemWalks.{item_taken, item_fits, text_fits}
use Rattle.rtcp_parts.proofs.items.take_item.Goals as goal

pub returns-in_err-text-clause-takes : goal.returns-in_err-text-clause-takes
returns-in_err-text-clause-takes c =
    none_taken c.args.datagram.now c.args.cursor.now c.from_residual-in_err-text.result c.requires
    c.from_residual-in_err-text.ensures
    (λ parts h. absurd (omega (
      arith,
      text_fits c.args.datagram.now c.args.cursor.now parts c.rest.result.now c.in_ok-head.head.now
          c.in_ok-head.texts.now c.requires c.rest.ensures.rest c.in_ok-head.ensures.cases.1
          c.in_ok-head.ensures.cases.2 c.if-head-eq0.false c.if-cursor-eq0.false h,
      c.in_err-text.ensures.cases,
    )))

pub returns-clause-takes : goal.returns-clause-takes
returns-clause-takes c =
    let w = within_is (length c.args.datagram.now) c.args.cursor.now c.requires in
    let fits =
    item_fits c.from.result c.rest.result.now c.in_ok-head.texts.now c.in_ok-text.text.now c.in_ok-head.ensures.cases.0
    c.in_ok-head.ensures.cases.2 c.in_ok-text.ensures.cases.0 c.in_ok-text.ensures.cases.1 in
    let place : c.args.cursor.now.place + (2 + length c.in_ok-text.text.now) ≤ c.args.cursor.now.end =
    omega (arith, c.rest.ensures.size) in
    record {
      takes = λ parts h.
          item_taken c.args.datagram.now c.args.cursor.now parts c.rest.result.now c.in_ok-head.head.now
          c.in_ok-head.texts.now c.requires c.rest.ensures.rest c.in_ok-head.ensures.cases.1
          c.in_ok-head.ensures.cases.2 c.if-head-eq0.false c.if-cursor-eq0.false h c.in_ok-text.text.now _
          (cc (c.in_ok-text.ensures.cases.1, c.from.ensures)) refl refl refl refl refl;
      none = λ none. absurd cc;
      within = grind (arith, nat_tests);
      next = refl;
      further = (c.if-cursor-eq0.false, omega arith);
    }
