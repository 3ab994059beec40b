-- One more cell is read.
use Rattle.std.proofs.Common.{take, slice_index_or, arith, sym, subst}
use Rattle.std.proofs.lemmas.List.{take_all}
use Rattle.rtcp_guard.specs.Tables.{AreSince, claim_in, claims_in, no_cell}
use Rattle.rtcp_guard.proofs.Ages.{since_earlier, since_push}
use Rattle.rtcp_guard.proofs.Rows.{claims_more}
use Rattle.rtcp_guard.proofs.cells.oldest.Goals as goal

pub cells-preserved : goal.cells-preserved
cells-preserved c =
    let k = c.cells.cell-index in
    let cells = c.args.cells.now in
    let least = c.min-oldest.ensures in
    subst (AreSince c.min-oldest.result) (sym (claims_more cells k no_cell c.cells-test.true))
    (since_push c.min-oldest.result (claims_in (take k cells)) (claim_in (slice_index_or cells k no_cell))
    (since_earlier c.cells.oldest c.min-oldest.result (claims_in (take k cells)) (omega (arith, least))
    c.cells.invariant) (omega (arith, least)))

pub returns : goal.returns
returns c = subst (λ cells. AreSince c.cells.oldest (claims_in cells))
    (take_all c.cells.cell-index c.args.cells.now c.cells-test.false) c.cells.invariant
