-- One more cell is counted.
use Rattle.std.proofs.Common.{◌≡◌, ◌≤◌, ◌+◌, ◌==◌, Bool, true, false, cond, slice_index_or, arith, ap, ◌∙◌}
use Rattle.std.proofs.lemmas.List.{take_all}
use Rattle.rtcp_guard.specs.Claims.{goodbyes_of, held}
use Rattle.rtcp_guard.specs.Tables.{claims_in, no_cell}
use Rattle.rtcp_guard.proofs.Putting.{one_if}
use Rattle.rtcp_guard.proofs.Rows.{goodbyes_more, goodbyes_part, held_more}
use Rattle.rtcp_guard.proofs.cells.count.Goals as goal

few_more : (b : Bool) → one_if b ≤ 1
few_more true = omega arith
few_more false = omega arith

pub overflow_add-goodbyes : goal.overflow_add-goodbyes
overflow_add-goodbyes c =
    let k = c.cells.cell-index in
    let cells = c.args.cells.now in
    let more = goodbyes_more c.args.origin cells k no_cell c.cells-test.true in
    let is : c.if_own-goodbyes.result
    ≡ cond ((slice_index_or cells k no_cell).origin == c.args.origin) (slice_index_or cells k no_cell).goodbyes 0 =
    c.if_own-goodbyes.ensures in
    let part = goodbyes_part c.args.origin cells (k + 1) in
    let few = c.requires.leaving c.args.origin in
    omega (arith, more, is, part, few, c.cells.invariant.said)

pub cells-preserved : goal.cells-preserved
cells-preserved c =
    let k = c.cells.cell-index in
    let cells = c.args.cells.now in
    let more = held_more c.args.origin cells k no_cell c.cells-test.true in
    let is : c.one_if-count.result ≡ one_if ((slice_index_or cells k no_cell).origin == c.args.origin) =
    c.one_if-count.ensures in
    let one = few_more ((slice_index_or cells k no_cell).origin == c.args.origin) in
    let said = goodbyes_more c.args.origin cells k no_cell c.cells-test.true in
    let counts : c.if_own-goodbyes.result
    ≡ cond ((slice_index_or cells k no_cell).origin == c.args.origin) (slice_index_or cells k no_cell).goodbyes 0 =
    c.if_own-goodbyes.ensures in
    record {
      counted = omega (arith, more, is, c.cells.invariant.counted);
      said = omega (arith, said, counts, c.cells.invariant.said);
      few = omega (arith, is, one, c.cells.invariant.few);
    }

pub returns-clause-tally : goal.returns-clause-tally
returns-clause-tally c = record {
  count = c.cells.invariant.counted
      ∙ ap (λ cells. held c.args.origin (claims_in cells))
      (take_all c.cells.cell-index c.args.cells.now c.cells-test.false);
  goodbyes = c.cells.invariant.said
      ∙ ap (λ cells. goodbyes_of c.args.origin (claims_in cells))
      (take_all c.cells.cell-index c.args.cells.now c.cells-test.false);
}
