-- One more is at its place: the last of the cells that are left, or the last of the names.
use Rattle.std.proofs.Common.{◌≡◌, ◌+◌, ◌-◌, ℕ, List, refl, get_or, slice_index_or, take, arith, sym, ap, ◌∙◌}
use Rattle.std.proofs.lemmas.List.{get_or-take, take-set-le, take-take}
use Rattle.rtcp_guard.specs.declared.cells.Cell.{Cell}
use Rattle.rtcp_guard.specs.Tables.{no_cell}
use Rattle.rtcp_guard.proofs.Newcomers.{all_merged, below_taken, cell_merged, is_there, merged, name_merged}
use Rattle.rtcp_guard.proofs.merging.merge.Goals as goal

pub cells-preserved-then-is_after : goal.cells-preserved-then-is_after
cells-preserved-then-is_after c =
    let cells = c.cells.cells in
    let first = c.args.cells.now in
    let names = c.args.names.now in
    let from = c.cells.from - 1 in
    let left = c.cells.left in
    let inv = c.cells.invariant in
    let is = c.if-is_after.ensures.after refl in
    let some = is.0 in
    let one_more : c.cells.from ≡ from + 1 = omega (arith, some) in
    let kept : take (from + 1) cells ≡ take (from + 1) first = ap (λ n. take n cells) (sym one_more)
    ∙ inv.kept ∙ ap (λ n. take n first) one_more in
    record {
      within = omega (arith, inv.within);
      few = inv.few;
      kept = take-set-le from cells (from + left) (slice_index_or cells from no_cell) (omega arith)
          ∙ fewer cells first from kept;
      goes_on = cell_merged c.args.origin c.args.t names cells first c.requires.names from left c.cells-test.true
          inv.few
          (omega (arith, some, inv.within, inv.few, c.requires.room, c.cells.auto.cells))
          (omega (arith, some, inv.within, c.requires.room)) kept is.1
          ∙ ap (λ n. merged c.args.origin c.args.t names cells first c.requires.names n left cells) (sym one_more)
          ∙ inv.goes_on;
    }
  where
    fewer : (cells first : List Cell) (n : ℕ) → take (n + 1) cells ≡ take (n + 1) first → take n cells ≡ take n first
    fewer cells first n same = sym (take-take n (n + 1) cells (omega arith)) ∙ ap (take n) same
        ∙ take-take n (n + 1) first (omega arith)

pub cells-preserved : goal.cells-preserved
cells-preserved c =
    let cells = c.cells.cells in
    let first = c.args.cells.now in
    let names = c.args.names.now in
    let from = c.cells.from in
    let left = c.cells.left - 1 in
    let inv = c.cells.invariant in
    let some = c.cells-test.true in
    let one_more : left + 1 ≡ c.cells.left = omega (arith, some) in
    record {
      within = inv.within;
      few = omega (arith, inv.few);
      kept = take-set-le from cells (from + left) c.of.result (omega arith) ∙ inv.kept;
      goes_on = name_merged c.args.origin c.args.t names cells first c.requires.names from left c.of.result
          (omega (arith, some, inv.few))
          (omega (arith, some, inv.within, inv.few, c.requires.room, c.cells.auto.cells))
          (below_taken (get_or names left 0) first c.args.count from inv.within (omega (arith, c.requires.room))
          c.requires.rising (c.requires.new (get_or names left 0) (is_there names left (omega (arith, some, inv.few))))
          (λ there.
          let until = c.if-is_after.ensures.until refl there in
          let its = ap (λ (cell : Cell). cell.ssrc) (sym (get_or-take from cells (from - 1) no_cell (omega arith))
          ∙ ap (λ cs. slice_index_or cs (from - 1) no_cell) inv.kept
          ∙ get_or-take from first (from - 1) no_cell (omega arith)) in
          omega (arith, until, its)))
          c.of.ensures
          ∙ ap (λ n. merged c.args.origin c.args.t names cells first c.requires.names from n cells) one_more
          ∙ inv.goes_on;
    }

pub returns : goal.returns
returns c =
    let cells = c.cells.cells in
    let first = c.args.cells.now in
    let names = c.args.names.now in
    let none : 0 ≡ c.cells.left = omega (arith, c.cells-test.false) in
    all_merged c.args.origin c.args.t names cells first c.requires.names c.cells.from c.cells.invariant.kept
    ∙ ap (λ n. merged c.args.origin c.args.t names cells first c.requires.names c.cells.from n cells) none
    ∙ c.cells.invariant.goes_on
