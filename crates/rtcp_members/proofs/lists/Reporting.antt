-- A block that is made of an entry of a list.
use Rattle.std.proofs.Common.{◌≡◌, ℕ, List, set, Option, slice_index_or, option_and_then, sym, ap, ◌∙◌}
use Rattle.std.specs.FinMap as finite
use Rattle.rtcp_wire.specs.Values.{ReportBlock}
use Rattle.rtcp_source.specs.Blocks.{block_for}
use Rattle.rtcp_members.specs.declared.entry.Entry.{Entry}
use Rattle.rtcp_members.specs.Entries.{EntryValue}
use Rattle.rtcp_members.specs.Tables.{TableValue, IsApart}
use Rattle.rtcp_members.specs.Pending.{block_at, reported_entry, with_reported, after_block}
use Rattle.rtcp_members.specs.ListViews.{entry_value, rows_of, map_of, table_of, IsRankOf}
use Rattle.rtcp_members.proofs.lists.Listing.{map_set}
use Rattle.rtcp_members.proofs.lists.Applying.{read_there}

pub block_reported : (ssrc t : ℕ) (entries : List Entry) (at : ℕ) (d : Entry) (block : Option ReportBlock) →
    IsRankOf ssrc entries at
    → block ≡ block_for (slice_index_or entries at d).ssrc t (slice_index_or entries at d).source
    → (capacity : ℕ) → block ≡ block_at ssrc t (table_of capacity entries)
block_reported ssrc t entries at d block place is capacity =
    is ∙ ap (λ (y : Entry). block_for y.ssrc t y.source) (read_there ssrc entries at d place)
    ∙ ap (λ s. block_for s t place.entry.source) place.its_ssrc
    ∙ ap (option_and_then (λ (entry : EntryValue). block_for ssrc t entry.source)) (sym place.found)

pub table_reported : (ssrc : ℕ) (entries : List Entry) (at : ℕ) (d next : Entry) → IsApart (rows_of entries) →
    IsRankOf ssrc entries at
    → next.ssrc ≡ (slice_index_or entries at d).ssrc →
    entry_value next ≡ reported_entry (entry_value (slice_index_or entries at d))
    → (capacity : ℕ) → table_of capacity (set entries at next) ≡ after_block ssrc
    (table_of capacity entries)
table_reported ssrc entries at d next apart place same value capacity =
    let there = read_there ssrc entries at d place in
    let table : TableValue = table_of capacity entries in
    ap (λ m. record table { entries = m })
    (map_set entries at place.entry next apart place.stands (same ∙ ap (λ (y : Entry). y.ssrc) there)
    ∙ (λ i. finite.insert (map_of entries) (place.its_ssrc i)
    ((value ∙ ap (λ (y : Entry). reported_entry (entry_value y)) there) i)))
    ∙ ap (with_reported ssrc table) (sym place.found)
