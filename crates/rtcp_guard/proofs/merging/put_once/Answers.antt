-- A name that comes to its rank leaves the names rising, and was not among them.
use Rattle.std.proofs.Common.{◌+◌, cond, get_or, length, arith, sym, ap, subst, ◌∙◌}
use Rattle.std.proofs.lemmas.List.Edits.{length-insert}
use Rattle.rtcp_guard.specs.Claims.{is_named}
use Rattle.rtcp_guard.specs.Tables.{AreRisingNames}
use Rattle.rtcp_guard.proofs.Newcomers.{greater_from, named_anywhere, not_among, rise_insert}
use Rattle.rtcp_guard.proofs.merging.put_once.Goals as goal
use Rattle.rtcp_guard.proofs.merging.put_once.Goals.{else-rank-len-via-then-rank-len+else-deref-rank, else-rank-len-via-else-rank-len}

pub returns-clause-rising : goal.returns-clause-rising
returns-clause-rising g c =
    let names = c.args.names.now.items in
    let rank = c.rank_of-rank.result in
    let same = c.as_slice.ensures.value in
    subst AreRisingNames (sym c.insert.ensures.items)
    (rise_insert names rank c.args.name c.requires.rising
    (λ k early within.
    let less = c.rank_of-rank.ensures.lesser k early in
    let its = ap (λ ns. get_or ns k 0) same in
    omega (arith, less, its))
    (greater_from names rank c.args.name c.requires.rising
    (λ k late within.
    let from = c.rank_of-rank.ensures.rest k late (omega (arith, within, ap length same)) in
    let its = ap (λ ns. get_or ns k 0) same in
    omega (arith, from, its))
    (λ within is. elim c.else-rank-len.branch [
      | else-rank-len-via-then-rank-len+else-deref-rank w ↦ w.if-deref-rank.false
          (ap (λ ns. get_or ns rank 0) w.deref.ensures.0 ∙ is)
      | else-rank-len-via-else-rank-len w ↦ absurd (omega (arith, within, w.if-rank-len.false, c.len.ensures.value))
    ])))

pub returns-clause-named : goal.returns-clause-named
returns-clause-named g c = λ ssrc. ap (is_named ssrc) c.insert.ensures.items
    ∙ named_anywhere ssrc c.args.names.now.items c.rank_of-rank.result c.args.name

pub returns-clause-once : goal.returns-clause-once
returns-clause-once g c =
    let names = c.args.names.now.items in
    let rank = c.rank_of-rank.result in
    let same = c.as_slice.ensures.value in
    let none = not_among names rank c.args.name
    (λ k early within.
    let less = c.rank_of-rank.ensures.lesser k early in
    let its = ap (λ ns. get_or ns k 0) same in
    omega (arith, less, its))
    (greater_from names rank c.args.name c.requires.rising
    (λ k late within.
    let from = c.rank_of-rank.ensures.rest k late (omega (arith, within, ap length same)) in
    let its = ap (λ ns. get_or ns k 0) same in
    omega (arith, from, its))
    (λ within is. elim c.else-rank-len.branch [
      | else-rank-len-via-then-rank-len+else-deref-rank w ↦ w.if-deref-rank.false
          (ap (λ ns. get_or ns rank 0) w.deref.ensures.0 ∙ is)
      | else-rank-len-via-else-rank-len w ↦ absurd (omega (arith, within, w.if-rank-len.false, c.len.ensures.value))
    ])) in
    ap length c.insert.ensures.items
    ∙ length-insert names rank c.args.name (omega (arith, c.rank_of-rank.ensures.within, ap length same))
    ∙ ap (λ b. length names + cond b 0 1) (sym none)
