-- Which of the pending sources a report is of, and with which blocks, by their stays.
use Rattle.std.proofs.Common.{◌≡◌, ℕ, List, length, map, take, Option, sym, ap, ◌∙◌}
use Rattle.std.proofs.lemmas.List.{length-map}
use Rattle.rtcp_members.specs.Traces.{TraceStep}
use Rattle.rtcp_members.specs.Pending.{EntryRow, blocks_of, pending_rows_at}
use Rattle.rtcp_members.specs.News.{blocks_at, pending_at}
use Rattle.rtcp_members.proofs.LawLemmas.{rows_are_of_stays-all, rows_are_of_stays-sources, rows_are_of_stays-blocks}
use Rattle.rtcp_report.specs.Reports.{Reporter, fitting}
use Rattle.rtcp_report.specs.Sizes.{block_count}

module _ (reporter : Reporter) (limit : ℕ) (last : Option ℕ) (capacity : ℕ) (trace : List TraceStep) where
  abbrev ssrcs_of : List EntryRow → List ℕ
  ssrcs_of rows = map (λ (row : EntryRow). row.0) rows

  as_many : length (pending_rows_at last capacity trace) ≡ length (pending_at last capacity trace)
  as_many =
      sym (length-map (pending_rows_at last capacity trace) (λ (row : EntryRow). row.0))
      ∙ ap (λ (ssrcs : List ℕ). length ssrcs) (rows_are_of_stays-all last capacity trace)

  chosen_rows : fitting reporter limit (pending_rows_at last capacity trace)
      ≡ take (block_count reporter limit (length (pending_at last capacity trace)))
      (pending_rows_at last capacity trace)
  chosen_rows = ap (λ (n : ℕ). take (block_count reporter limit n) (pending_rows_at last capacity trace)) as_many

  pub sources_fit : ssrcs_of (fitting reporter limit (pending_rows_at last capacity trace))
      ≡ fitting reporter limit (pending_at last capacity trace)
  sources_fit =
      ap ssrcs_of chosen_rows
      ∙ rows_are_of_stays-sources (block_count reporter limit (length (pending_at last capacity trace)))
      last capacity trace

pub blocks_fit : (reporter : Reporter) (limit t : ℕ) (last : Option ℕ) (capacity : ℕ) (trace : List TraceStep) →
    blocks_of t (fitting reporter limit (pending_rows_at last capacity trace))
    ≡ blocks_at t capacity trace (fitting reporter limit (pending_at last capacity trace))
blocks_fit reporter limit t last capacity trace =
    ap (blocks_of t) (chosen_rows reporter limit last capacity trace)
    ∙ rows_are_of_stays-blocks t (block_count reporter limit (length (pending_at last capacity trace)))
    last capacity trace
