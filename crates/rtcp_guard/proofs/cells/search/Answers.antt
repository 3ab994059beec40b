-- The cells before the rank are lesser, and the one there is another's.
use Rattle.std.proofs.Common.{rules, arith, nat_lt, ap, ◌∙◌}
use Rattle.std.proofs.lemmas.List.{get_or_default}
use Rattle.std.proofs.lemmas.List.Sorted.{IsPartitionPoint-from_clause, IsPartitionedBy-ltb}
use Rattle.rtcp_guard.specs.declared.cells.Cell.{Cell}
use Rattle.rtcp_guard.specs.Tables.{no_cell}
use Rattle.rtcp_guard.proofs.Rows.{falls_nowhere, gap_parted}
use Rattle.rtcp_guard.proofs.cells.search.Goals as goal
use Rattle.rtcp_guard.proofs.cells.search.Goals.{else-rank-cells-via-then-rank-cells+else-cells-rank, else-rank-cells-via-else-rank-cells}

pub returns : goal.returns
returns c =
    let cells = c.args.cells.now in
    let at = c.partition_point-rank.result in
    gap_parted c.args.ssrc cells at c.partition_point-rank.ensures.bound
    (IsPartitionPoint-from_clause (λ (cell : Cell). nat_lt cell.ssrc c.args.ssrc) cells at
    c.partition_point-rank.ensures.partitioned
    (IsPartitionedBy-ltb (λ (cell : Cell). cell.ssrc) cells c.args.ssrc (falls_nowhere cells c.requires))
    (λ a r f called. (search rules, search rules)))
    (λ d within is. elim c.else-rank-cells.branch [
      | else-rank-cells-via-then-rank-cells+else-cells-rank w ↦ absurd (w.if-cells-rank.false
          (ap (λ (cell : Cell). cell.ssrc) (get_or_default cells at no_cell d within) ∙ is))
      | else-rank-cells-via-else-rank-cells w ↦ absurd (omega (arith, within, w.if-rank-cells.false))
    ])
