-- An entry of a sorted list is changed, and the table over it.
use Rattle.std.proofs.Common.{◌≡◌, ◌<◌, ℕ, List, length, arith, sym, ap, subst, ◌∙◌}
use Rattle.std.proofs.Math.ListN.{length-set}
use Rattle.std.proofs.lemmas.Option.{slice_get_within}
use Rattle.rtcp_wire.specs.declared.fact.Fact.{Fact}
use Rattle.rtcp_wire.specs.Facts.{subject}
use Rattle.rtcp_members.specs.declared.bounds.Bounds.{Bounds}
use Rattle.rtcp_members.specs.declared.entry.Entry.{Entry}
use Rattle.rtcp_members.specs.Entries.{EntryValue}
use Rattle.rtcp_members.specs.Tables.{after_fact, entry_with_fact}
use Rattle.rtcp_members.specs.ListViews.{entry_value, table_of, IsRankOf}
use Rattle.rtcp_members.specs.storage.Shelves.{IsChanged}
use Rattle.rtcp_members.specs.storage.SortedViews.{IsRising, IsSortedTable}
use Rattle.rtcp_members.specs.storage.Standing.{AllStandBy, IsUpTo, StandsBy}
use Rattle.rtcp_members.proofs.lists.Applying.{read_there, table_applied}
use Rattle.rtcp_members.proofs.sorted.Rising.{rising_apart, rising_set}
use Rattle.rtcp_members.proofs.lists.BoundLemmas.{all_set, stands_after, stands_there}

module _ (ssrc : ℕ) (entries next : List Entry) (at : ℕ) (change : EntryValue
    → EntryValue) (place : IsRankOf ssrc entries at) (made : IsChanged change entries next at) where
  pub within : at < length entries
  within = slice_get_within entries at place.entry place.stands

  pub as_many : length next ≡ length entries
  as_many = ap (λ (xs : List Entry). length xs) made.items ∙ length-set entries at made.entry

  pub still_rising : IsRising entries → IsRising next
  still_rising rising =
      subst IsRising (sym made.items)
      (rising_set entries at place.entry made.entry rising place.stands (made.ssrc place.entry
      ∙ ap (λ (e : Entry). e.ssrc) (read_there ssrc entries at place.entry place)))

  pub sorted_edited : (capacity : ℕ) → IsSortedTable capacity entries → IsSortedTable capacity next
  sorted_edited capacity sorted = record {
    rising = still_rising sorted.rising;
    within = omega (arith, as_many, sorted.within);
    room = sorted.room;
  }

  -- Where what the change makes of an entry stands by bounds, all do.
  pub stand_edited : (bounds : Bounds) → ((value : EntryValue) → StandsBy bounds value
      → StandsBy bounds (change value)) → AllStandBy bounds entries → AllStandBy bounds next
  stand_edited bounds stays all =
      let read = entry_value place.entry in
      subst (AllStandBy bounds) (sym made.items)
      (all_set bounds entries at made.entry all (subst (StandsBy bounds) (sym (made.value place.entry)) (stays _
      (stands_there bounds entries at place.entry ssrc place all))))

module _ (fact : Fact) (t : ℕ) (entries next : List Entry) (at : ℕ) (place : IsRankOf (subject fact) entries at)
    (made : IsChanged (entry_with_fact fact t) entries next at) where
  pub table_edited : IsRising entries → (capacity : ℕ) → table_of capacity next ≡ after_fact fact t
      (table_of capacity entries)
  table_edited rising capacity =
      ap (table_of capacity) made.items
      ∙ table_applied entries at fact t place.entry made.entry (rising_apart entries rising) place
      (made.ssrc place.entry) (made.value place.entry) capacity

  pub stand_with_fact : (bounds : Bounds) → IsUpTo bounds fact t → AllStandBy bounds entries → AllStandBy bounds next
  stand_with_fact bounds up = stand_edited (subject fact) entries next at
      (entry_with_fact fact t) place made bounds (λ value. stands_after bounds fact t value up)
