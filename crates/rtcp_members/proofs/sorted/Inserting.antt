-- An entry that is added to a sorted list, in its gap.
use Rattle.std.proofs.Common.{◌≡◌, ◌<◌, ℕ, false, List, length, cond, Some, nat_cmp, arith, sym, ap, subst, ◌∙◌}
use Rattle.std.specs.List.{insert}
use Rattle.std.specs.Ordering.{eq_by_cmp}
use Rattle.std.specs.Cmp.{nat_cmp_total}
use Rattle.std.specs.FinMap as finite
use Rattle.std.specs.FinMap.{nat_cmp-IsAntisymmetric}
use Rattle.std.specs.FinMap.Entries.{find-put}
use Rattle.std.proofs.lemmas.List.Edits.{length-insert}
use Rattle.rtcp_wire.specs.declared.fact.Fact.{Fact}
use Rattle.rtcp_wire.specs.Facts.{subject, is_gone}
use Rattle.rtcp_members.specs.declared.counts.Counts.{Counts}
use Rattle.rtcp_members.specs.declared.table.Place.TheVariants.{Added}
use Rattle.rtcp_members.specs.declared.entry.Entry.{Entry}
use Rattle.rtcp_members.specs.Entries.{is_member, is_sender}
use Rattle.rtcp_members.specs.Tables.{new_entry, entry_after, placed, after_fact}
use Rattle.rtcp_members.specs.ListViews.{entry_value, rows_of, map_of, table_of}
use Rattle.rtcp_members.specs.storage.SortedViews.{IsRising, IsSortedTable, IsGapFor}
use Rattle.rtcp_members.specs.Pending.{is_due}
use Rattle.rtcp_members.specs.storage.Standing.{AreCounts, IsOneMore}
use Rattle.rtcp_members.proofs.lists.Admitting.{admitted}
use Rattle.rtcp_members.proofs.sorted.Searching.{none_in_gap}
use Rattle.rtcp_members.proofs.lists.Listing.{get_rows}
use Rattle.rtcp_members.proofs.sorted.Rising.{put_in_gap, rising_apart, rising_insert}
use Rattle.rtcp_members.proofs.lists.Weights.{tally_insert}

map_in_gap : (entries : List Entry) (at : ℕ) (e : Entry) → IsGapFor e.ssrc entries at →
    map_of (insert entries at e) ≡ finite.insert (map_of entries) e.ssrc (entry_value e)
map_in_gap entries at e gap =
    finite.same_map nat_cmp_total nat_cmp-IsAntisymmetric _ _ (λ q. get_rows (insert entries at e) q
    ∙ ap (finite.find nat_cmp q) (put_in_gap entries at e gap)
    ∙ find-put nat_cmp nat_cmp_total q e.ssrc (entry_value e) (rows_of entries)
    ∙ ap (cond (eq_by_cmp nat_cmp q e.ssrc) (Some (entry_value e))) (sym (get_rows entries q))
    ∙ sym (finite.get-insert nat_cmp_total (map_of entries) e.ssrc (entry_value e) q))

gap_of : (ssrc : ℕ) (entries : List Entry) (at : ℕ) (e : Entry) → IsGapFor ssrc entries at → e.ssrc ≡ ssrc →
    IsGapFor e.ssrc entries at
gap_of ssrc entries at e gap is = subst (λ s. IsGapFor s entries at) (sym is) gap

map_inserted : (entries : List Entry) (at : ℕ) (fact : Fact) (t : ℕ) (e : Entry) →
    IsGapFor (subject fact) entries at → e.ssrc ≡ subject fact → entry_value e ≡ entry_after fact t new_entry
    → map_of (insert entries at e) ≡ finite.insert (map_of entries) (subject fact) (entry_after fact t new_entry)
map_inserted entries at fact t e gap its_ssrc its_value =
    map_in_gap entries at e (gap_of (subject fact) entries at e gap its_ssrc)
    ∙ (λ i. finite.insert (map_of entries) (its_ssrc i) (its_value i))

-- What the fact makes of the table.
pub inserted : (capacity : ℕ) (entries : List Entry) (at : ℕ) (fact : Fact) (t : ℕ) (e : Entry) →
    IsRising entries → IsGapFor (subject fact) entries at → is_gone fact ≡ false → length entries < capacity →
    e.ssrc ≡ subject fact → entry_value e ≡ entry_after fact t new_entry
    → (Added ≡ placed (table_of capacity entries) fact)
    × (table_of capacity (insert entries at e) ≡ after_fact fact t (table_of capacity entries))
inserted capacity entries at fact t e rising gap stays room its_ssrc its_value =
    admitted capacity entries (insert entries at e) fact t (rising_apart entries rising)
    (none_in_gap (subject fact) entries at gap) stays room
    (map_inserted entries at fact t e gap its_ssrc its_value)

pub sorted_insert : (capacity : ℕ) (entries : List Entry) (at : ℕ) (e : Entry) (ssrc : ℕ) →
    IsSortedTable capacity entries → IsGapFor ssrc entries at → e.ssrc ≡ ssrc → length entries < capacity →
    IsSortedTable capacity (insert entries at e)
sorted_insert capacity entries at e ssrc sorted gap its_ssrc room = record {
  rising = rising_insert entries at e sorted.rising (gap_of ssrc entries at e gap its_ssrc);
  within = omega (arith, room, length-insert entries at e gap.in_range);
  room = sorted.room;
}

pub counted_insert : (counts next : Counts) (entries : List Entry) (at : ℕ) (e : Entry) → AreCounts counts entries →
    IsOneMore e counts next → AreCounts next (insert entries at e)
counted_insert counts next entries at e so more = record {
  members = omega (arith, so.members, more.members, tally_insert is_member entries at e);
  senders = omega (arith, so.senders, more.senders, tally_insert is_sender entries at e);
  due = omega (arith, so.due, more.due, tally_insert is_due entries at e);
}
