-- By whose the source is, one more is counted or not.
use Rattle.std.proofs.Common.{◌≡◌, ◌==◌, nat_lt, true, false, Some, ℕ, length, arith, sym, ap, ◌∙◌}
use Rattle.std.proofs.lemmas.Bool.Decides.{nat_tests}
use Rattle.rtcp_guard.specs.Tables.{TableValue}
use Rattle.rtcp_guard.proofs.Expecting.{may_keep, may_move, may_join, may_not_join}
use Rattle.rtcp_guard.proofs.guard.may_put.Goals as goal

pub returns-then-owner-origin-clause-result : goal.returns-then-owner-origin-clause-result
returns-then-owner-origin-clause-result c = λ moment.
    let is : c.in-Some.owner == c.args.origin ≡ true = grind (arith, nat_tests, c.if-owner-origin.true) in
    is ∙ sym (may_keep c.args.limit c.args.room c.args.origin moment c.args.ssrc c.args.claims.now.items
    c.requires.rising (sym c.in-Some.ensures ∙ ap (λ (o : ℕ). Some o) c.if-owner-origin.true) c.requires.few
    c.requires.within)

pub returns-else-owner-origin-clause-result : goal.returns-else-owner-origin-clause-result
returns-else-owner-origin-clause-result c = λ moment.
    ap (λ n. nat_lt n c.args.limit) c.count.ensures.count
    ∙ sym (may_move c.args.limit c.args.room c.args.origin moment c.args.ssrc c.args.claims.now.items
    c.requires.rising c.in-Some.owner (sym c.in-Some.ensures) c.if-owner-origin.false c.requires.within)

pub returns-then-count-limit-clause-result : goal.returns-then-count-limit-clause-result
returns-then-count-limit-clause-result c = λ moment.
    ap (λ n. nat_lt n c.args.room)
    (c.len.ensures ∙ ap (λ (t : TableValue). length t.items) c.count-in-None.ensures.kept)
    ∙ sym (may_join c.args.limit c.args.room c.args.origin moment c.args.ssrc c.args.claims.now.items
    c.requires.rising (sym c.in-None.ensures) (omega (arith, c.if-count-limit.true, c.count-in-None.ensures.count)))

pub returns-else-count-limit-clause-result : goal.returns-else-count-limit-clause-result
returns-else-count-limit-clause-result c = λ moment.
    let is : nat_lt c.count-in-None.result c.args.limit ≡ false = grind (arith, nat_tests, c.if-count-limit.false) in
    is ∙ sym (may_not_join c.args.limit c.args.room c.args.origin moment c.args.ssrc c.args.claims.now.items
    c.requires.rising (sym c.in-None.ensures) (omega (arith, c.if-count-limit.false, c.count-in-None.ensures.count)))
