-- A block is made of the source of a rank, and the table over the list is the one after it.
use Rattle.std.proofs.Common.{◌≡◌, ℕ, List, Some, arith, ap, ◌∙◌}
use Rattle.rtcp_wire.specs.Values.{ReportBlock}
use Rattle.rtcp_members.specs.declared.bounds.Bounds.{Bounds}
use Rattle.rtcp_members.specs.declared.entry.Entry.{Entry}
use Rattle.rtcp_members.specs.storage.Heaps.{no_entry}
use Rattle.rtcp_members.specs.storage.Shelves.{MakesBlock}
use Rattle.rtcp_members.specs.storage.Standing.{IsKept}
use Rattle.rtcp_members.specs.ListViews.{table_of, IsRankOf}
use Rattle.rtcp_members.specs.Pending.{after_block, block_at, reported_entry}
use Rattle.rtcp_members.specs.Tables.{TableValue}
use Rattle.rtcp_members.specs.storage.SortedViews.{IsRising}
use Rattle.rtcp_members.proofs.lists.Reporting.{block_reported, table_reported}
use Rattle.rtcp_members.proofs.sorted.Edits.{sorted_edited, stand_edited}
use Rattle.rtcp_members.proofs.sorted.Rising.{rising_apart}

module _ (ssrc t : ℕ) (items next : List Entry) (at : ℕ) (value : ReportBlock) (place : IsRankOf ssrc items at)
    (made : MakesBlock t items next at value) where
  pub block_made : (capacity : ℕ) (table : TableValue) → table_of capacity items ≡ table →
      Some value ≡ block_at ssrc t table
  block_made capacity table is =
      block_reported ssrc t items at no_entry (Some value) place (made.block no_entry) capacity
      ∙ ap (block_at ssrc t) is

  pub table_after : (capacity : ℕ) (table : TableValue) → IsRising items → table_of capacity items ≡ table →
      table_of capacity next ≡ after_block ssrc table
  table_after capacity table rising is =
      ap (table_of capacity) made.changed.items
      ∙ table_reported ssrc items at no_entry made.changed.entry (rising_apart items rising) place
      (made.changed.ssrc no_entry) (made.changed.value no_entry) capacity
      ∙ ap (after_block ssrc) is

  pub kept_reported : (capacity room new_room : ℕ) (bounds : Bounds) → new_room ≡ room →
      IsKept capacity room bounds items → IsKept capacity new_room bounds next
  kept_reported capacity room new_room bounds same so = record {
    sorted = sorted_edited ssrc items next at reported_entry place made.changed capacity so.sorted;
    roomy = omega (arith, so.roomy, same);
    standing = stand_edited ssrc items next at reported_entry place made.changed bounds (λ value stands. stands)
        so.standing;
  }
