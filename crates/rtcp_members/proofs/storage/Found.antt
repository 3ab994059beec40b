-- What the slots in use say of a source holds of the entries in order.
use Rattle.std.proofs.Common.{◌≡◌, ◌<◌, ◌≤◌, ℕ, List, length, take, slice_index_or, Result, Ok, Err, arith, sym, ap, ◌∙◌}
use Rattle.std.proofs.lemmas.List.{length-map, get_or-map}
use Rattle.rtcp_members.specs.declared.cells.Cell.{Cell}
use Rattle.rtcp_members.specs.declared.cells.Slot.{Slot}
use Rattle.rtcp_members.specs.declared.entry.Entry.{Entry}
use Rattle.rtcp_members.specs.storage.Heaps.{no_entry, no_slot, entries_in, entry_in, in_order, IsIndexed}
use Rattle.rtcp_members.specs.storage.Index.{AreRising, Finds, ssrc_in}
use Rattle.rtcp_members.specs.storage.SortedViews.{Locates}
use Rattle.rtcp_members.proofs.sorted.Rising.{rises}
use Rattle.rtcp_members.proofs.sorted.Searching.{ssrc_found}

module _ (cells : List Cell) (slots : List Slot) (used : ℕ) (index : IsIndexed cells slots used) where
  abbrev row : List Slot
  row = take used slots

  abbrev items : List Entry
  items = in_order cells slots used

  length_items : length items ≡ length row
  length_items = length-map row (entry_in (entries_in cells))

  -- The SSRC of a slot is that of its entry.
  its_ssrc : (rank : ℕ) → rank < length row → (d : Entry) → ssrc_in row rank ≡ (slice_index_or items rank d).ssrc
  its_ssrc rank within d =
      index.heap.keyed rank no_slot within
      ∙ ap (λ (e : Entry). e.ssrc) (sym (get_or-map (entry_in (entries_in cells)) row rank no_slot d within))

  pub rising_row : AreRising row
  rising_row i j before within = omega (
    arith,
    its_ssrc i (omega (arith, before, within)) no_entry,
    its_ssrc j within no_entry,
    rises items index.rising i j no_entry before (omega (arith, within, length_items)),
  )

  pub located : (ssrc : ℕ) (found : Result ℕ ℕ) → Finds ssrc row found → Locates ssrc items found
  located ssrc (Ok rank) finds = ssrc_found ssrc items rank (ssrc_in row rank) index.rising
      (omega (arith, finds.0, length_items)) (λ d. its_ssrc rank finds.0 d) finds.1
  located ssrc (Err gap) finds = record {
    in_range = omega (arith, finds.within, length_items);
    lesser = λ i d before. below i d before (omega (arith, before, finds.within));
    greater = λ i d from within. above i d from (omega (arith, within, length_items));
  }
    where
      below : (i : ℕ) (d : Entry) → i < gap → i < length row → (slice_index_or items i d).ssrc < ssrc
      below i d before within = omega (arith, its_ssrc i within d, finds.lesser i before)

      above : (i : ℕ) (d : Entry) → gap ≤ i → i < length row → ssrc < (slice_index_or items i d).ssrc
      above i d from within = omega (arith, its_ssrc i within d, finds.greater i from within)
