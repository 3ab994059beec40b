-- Which sources a report block is due of, and in which turn (RFC 3550, 6.4).
use Rattle.std.specs.Prelude.{ℕ, ◌&&◌, Bool, not, List, [], ◌∷◌, ◌++◌, filter, filter_map, Option, Some, None, is_none, option_and_then}
use Rattle.std.specs.FinMap as finite
use Rattle.rtcp_wire.specs.Values.{ReportBlock}
use Rattle.rtcp_source.specs.Blocks.{block_for, news_of}
use Rattle.rtcp_source.specs.Steps.{after_block_made}
use Rattle.rtcp_members.specs.Entries.{EntryValue, is_such}
use Rattle.rtcp_members.specs.Tables.{TableValue, row_at}
use Rattle.rtcp_members.specs.News.{is_after, pending_at}
use Rattle.rtcp_members.specs.Traces.{TraceStep}

-- an SSRC, and the entry of its source
abbrev pub EntryRow : Type 0
EntryRow = ℕ × EntryValue

-- ---- Pending sources

-- A block of a source is due where the source has no mark, and some packet of it was counted since its last
-- block, or at all if none was made.
abbrev pub is_due : EntryValue → Bool
is_due entry = is_none entry.mark && news_of entry.source.run

abbrev pub is_due_at : (ssrc : ℕ) → TableValue → Bool
is_due_at ssrc table = is_such is_due (finite.get table.entries ssrc)

-- by rising SSRC, as the map has its entries
abbrev pub due_rows : TableValue → List EntryRow
due_rows table = filter (λ row. is_due row.1) (finite.entries table.entries)

abbrev pub is_above : (last : Option ℕ) → EntryRow → Bool
is_above last row = is_after last row.0

-- rows in cyclic turn: those above the last SSRC, and then the others
abbrev pub in_turn : (last : Option ℕ) → List EntryRow → List EntryRow
in_turn last rows = filter (is_above last) rows ++ filter (λ row. not (is_above last row)) rows

-- The sources that a block is due of, in the turn in which they are reported after the last one that was, if
-- there was one.
abbrev pub pending : (last : Option ℕ) → TableValue → List EntryRow
pending last table = in_turn last (due_rows table)

abbrev pub first_ssrc : List EntryRow → Option ℕ
first_ssrc [] = None
first_ssrc (row ∷ rows) = Some row.0

-- ---- Blocks

-- the block of a row's source at the moment `t`, if some packet of it was counted
abbrev pub block_of_row : (t : ℕ) → EntryRow → Option ReportBlock
block_of_row t row = block_for row.0 t row.1.source

abbrev pub block_at : (ssrc t : ℕ) → TableValue → Option ReportBlock
block_at ssrc t table =
    option_and_then (λ entry. block_for ssrc t entry.source) (finite.get table.entries ssrc)

abbrev pub reported_entry : EntryValue → EntryValue
reported_entry entry = record entry { source = after_block_made entry.source }

abbrev pub with_reported : (ssrc : ℕ) → TableValue → Option EntryValue → TableValue
with_reported ssrc table None = table
with_reported ssrc table (Some entry) =
    record table { entries = finite.insert table.entries ssrc (reported_entry entry) }

-- The table once a block of a source was made.
abbrev pub after_block : (ssrc : ℕ) → TableValue → TableValue
after_block ssrc table = with_reported ssrc table (finite.get table.entries ssrc)

-- ---- Several blocks, in turn

abbrev pub blocks_of : (t : ℕ) → List EntryRow → List ReportBlock
blocks_of t rows = filter_map (block_of_row t) rows

abbrev pub after_blocks : List EntryRow → TableValue → TableValue
after_blocks [] table = table
after_blocks (row ∷ rows) table = after_blocks rows (after_block row.0 table)

-- the last SSRC that was reported, after these rows
abbrev pub last_reported : (last : Option ℕ) → List EntryRow → Option ℕ
last_reported last [] = last
last_reported last (row ∷ rows) = last_reported (Some row.0) rows

-- The same sources, each with its entry.
abbrev pub pending_rows_at : (last : Option ℕ) (capacity : ℕ) → List TraceStep → List EntryRow
pending_rows_at last capacity trace =
    filter_map (row_at capacity trace) (pending_at last capacity trace)
