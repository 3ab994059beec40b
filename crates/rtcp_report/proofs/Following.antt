-- A table after the blocks of a report.
use Rattle.std.proofs.Common.{◌≡◌, ℕ, List, [], ◌∷◌, ◌++◌, Option, Some, IsTrue, drop, length, map, sym}
use Rattle.std.proofs.lemmas.List.{take-append-drop}
use Rattle.rtcp_members.specs.Traces.{TraceStep, block_made_of, with_blocks}
use Rattle.rtcp_members.specs.Tables.{TableValue, StandsAt, HasFew}
use Rattle.rtcp_members.specs.Pending.{EntryRow, is_due_at, pending, after_block, after_blocks}
use Rattle.rtcp_members.proofs.LawLemmas.{first_is_due-due, others_stay_pending, tables_follow_traces-block, packets_are_few-block}
use Rattle.rtcp_report.specs.Reports.{Reporter}
use Rattle.rtcp_report.specs.Sizes.{block_count, reported_rows}

-- Blocks give no packet.
pub few_after_blocks : (packets : ℕ) (rows : List EntryRow) (table : TableValue) → HasFew packets table →
    HasFew packets (after_blocks rows table)
few_after_blocks packets [] table few = few
few_after_blocks packets (row ∷ rows) table few = few_after_blocks packets rows (after_block row.0 table)
    (packets_are_few-block packets table row.0 few)

-- A prefix of the pending sources is reported, one after the other.
stands_after_rows : (rows rest : List EntryRow) (last : Option ℕ) (table : TableValue) (trace : List TraceStep) →
    pending last table ≡ rows ++ rest → StandsAt table trace →
    StandsAt (after_blocks rows table) (with_blocks (map (λ (row : EntryRow). row.0) rows) trace)
stands_after_rows [] rest last table trace wait stands = stands
stands_after_rows (row ∷ rows) rest last table trace wait stands =
    let due : IsTrue (is_due_at row.0 table) = first_is_due-due last table row (rows ++ rest) wait in
    stands_after_rows rows rest (Some row.0) (after_block row.0 table) (block_made_of row.0 ∷ trace)
    (others_stay_pending last table row (rows ++ rest) wait)
    (tables_follow_traces-block table trace row.0 due stands)

pub stands_after : (reporter : Reporter) (limit : ℕ) (last : Option ℕ) (table : TableValue) (trace : List TraceStep) →
    StandsAt table trace
    → StandsAt (after_blocks (reported_rows reporter limit last table) table)
    (with_blocks (map (λ (row : EntryRow). row.0) (reported_rows reporter limit last table)) trace)
stands_after reporter limit last table trace stands =
    let count : ℕ = block_count reporter limit (length (pending last table)) in
    stands_after_rows (reported_rows reporter limit last table) (drop count (pending last table)) last table trace
    (sym (take-append-drop count (pending last table))) stands
