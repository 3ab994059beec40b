-- A fact that comes to an entry of a list.
use Rattle.std.proofs.Common.{◌≡◌, ℕ, Bool, true, false, cond, List, set, if◌then◌else◌, Some, is_some, slice_index_or, unwrap_or, nat_cmp, refl, sym, ap, ◌∙◌}
use Rattle.std.specs.Ordering.{eq_by_cmp}
use Rattle.std.specs.Cmp.{nat_cmp_total}
use Rattle.std.proofs.lemmas.Option.{get_or_from_slice_get}
use Rattle.std.specs.FinMap as finite
use Rattle.std.specs.FinMap.{nat_cmp-IsAntisymmetric}
use Rattle.rtcp_wire.specs.declared.fact.Fact.{Fact}
use Rattle.rtcp_members.specs.declared.entry.Entry.{Entry}
use Rattle.rtcp_members.specs.declared.table.Place.{Place}
use Rattle.rtcp_members.specs.declared.table.Place.TheVariants.{Kept, Ignored, Left}
use Rattle.rtcp_wire.specs.Facts.{subject, is_gone}
use Rattle.rtcp_members.specs.Entries.{EntryValue}
use Rattle.rtcp_members.specs.Tables.{EntryMap, TableValue, IsApart, new_entry, entry_after, entry_with_fact, place_of, changes, placed, counted, counted_of, after_fact, has_room}
use Rattle.rtcp_members.specs.ListViews.{entry_value, rows_of, map_of, table_of, IsRankOf}
use Rattle.rtcp_members.proofs.lists.Listing.{map_set, apart_set, tied_key}

-- what is read at a place is the entry there
pub read_there : (ssrc : ℕ) (entries : List Entry) (at : ℕ) (d : Entry) → (place : IsRankOf ssrc entries at) →
    slice_index_or entries at d ≡ place.entry
read_there ssrc entries at d place = get_or_from_slice_get entries at place.entry d place.stands

-- To put what is there changes nothing.
insert_same : (entries : EntryMap) (key : ℕ) (value : EntryValue) → finite.get entries key ≡ Some value →
    finite.insert entries key value ≡ entries
insert_same entries key value found =
    finite.same_map nat_cmp_total nat_cmp-IsAntisymmetric _ _ (λ q. finite.get-insert nat_cmp_total entries key value q
    ∙ elim (eq_by_cmp nat_cmp q key) as (λ b. eq_by_cmp nat_cmp q key ≡ b →
    cond b (Some value) (finite.get entries q) ≡ finite.get entries q) [
      | true ↦ λ tied. sym found ∙ ap (finite.get entries) (sym (tied_key q key tied))
      | false ↦ λ tied. refl
    ] refl)

abbrev table_with : (capacity : ℕ) → EntryMap → TableValue
table_with capacity entries = record { capacity = capacity; entries = entries }

put_after : (capacity : ℕ) (fact : Fact) (t : ℕ) (entries : EntryMap) (value : EntryValue) (room : Bool) →
    finite.get entries (subject fact) ≡ Some value
    → table_with capacity (finite.insert entries (subject fact) (entry_with_fact fact t value))
    ≡ (if changes (place_of fact (Some value) room) then table_with capacity
    (finite.insert entries (subject fact) (entry_after fact t value)) else table_with capacity entries)
put_after capacity fact t entries value room found =
    elim (is_some value.mark) as (λ marked. table_with capacity
    (finite.insert entries (subject fact) (if marked then value else entry_after fact t value))
    ≡ (if changes (if marked then Ignored else (if is_gone fact then Left else Kept)) then table_with capacity
    (finite.insert entries (subject fact) (entry_after fact t value)) else table_with capacity
    entries)) [
      | true ↦ ap (table_with capacity) (insert_same entries (subject fact) value found)
      | false ↦ elim (is_gone fact) as (λ gone. table_with capacity
          (finite.insert entries (subject fact) (entry_after fact t value))
          ≡ (if changes (if gone then Left else Kept) then table_with capacity
          (finite.insert entries (subject fact) (entry_after fact t value)) else table_with capacity
          entries)) [ true ↦ refl | false ↦ refl ]
    ]

found_after : (capacity : ℕ) (fact : Fact) (t : ℕ) (entries : EntryMap) (value : EntryValue) →
    finite.get entries (subject fact) ≡ Some value
    → table_with capacity (finite.insert entries (subject fact) (entry_with_fact fact t value)) ≡ after_fact
    fact t (table_with capacity entries)
found_after capacity fact t entries value found =
    let table : TableValue = table_with capacity entries in
    put_after capacity fact t entries value (has_room table) found
    ∙ ap (λ o. if changes (place_of fact o (has_room table)) then table_with capacity
    (finite.insert entries (subject fact) (entry_after fact t (unwrap_or o new_entry))) else table_with
    capacity entries) (sym found)

pub table_applied : (entries : List Entry) (at : ℕ) (fact : Fact) (t : ℕ) (d next : Entry) →
    IsApart (rows_of entries) → IsRankOf (subject fact) entries at
    → next.ssrc ≡ (slice_index_or entries at d).ssrc →
    entry_value next ≡ entry_with_fact fact t (entry_value (slice_index_or entries at d))
    → (capacity : ℕ) → table_of capacity (set entries at next) ≡ after_fact fact t (table_of capacity entries)
table_applied entries at fact t d next apart place same value capacity =
    let there = read_there (subject fact) entries at d place in
    let its_ssrc : next.ssrc ≡ place.entry.ssrc = same ∙ ap (λ (y : Entry). y.ssrc) there in
    ap (table_with capacity) (map_set entries at place.entry next apart place.stands its_ssrc
    ∙ (λ i. finite.insert (map_of entries) (place.its_ssrc i)
    ((value ∙ ap (λ (y : Entry). entry_with_fact fact t (entry_value y)) there) i)))
    ∙ found_after capacity fact t (map_of entries) (entry_value place.entry) place.found

pub apart_applied : (ssrc : ℕ) (entries : List Entry) (at : ℕ) (d next : Entry) → IsApart (rows_of entries) →
    IsRankOf ssrc entries at → next.ssrc ≡ (slice_index_or entries at d).ssrc → IsApart (rows_of (set entries at next))
apart_applied ssrc entries at d next apart place same =
    apart_set entries at place.entry next apart place.stands
    (same ∙ ap (λ (y : Entry). y.ssrc) (read_there ssrc entries at d place))

pub place_applied : (entries : List Entry) (at : ℕ) (fact : Fact) (d : Entry) (its : Place) →
    IsRankOf (subject fact) entries at
    → ((room : Bool) → its ≡ place_of fact (Some (entry_value (slice_index_or entries at d))) room) → (capacity : ℕ) →
    its ≡ placed (table_of capacity entries) fact
place_applied entries at fact d its place says capacity =
    says (has_room (table_of capacity entries))
    ∙ ap (λ o. place_of fact o (has_room (table_of capacity entries)))
    (ap (λ (y : Entry). Some (entry_value y)) (read_there (subject fact) entries at d place) ∙ sym place.found)

pub counted_applied : (entries : List Entry) (at : ℕ) (fact : Fact) (d : Entry) (its : Bool) →
    IsRankOf (subject fact) entries at
    → its ≡ counted_of fact (Some (entry_value (slice_index_or entries at d))) → (capacity : ℕ) →
    its ≡ counted (table_of capacity entries) fact
counted_applied entries at fact d its place says capacity =
    says ∙ ap (counted_of fact) (ap (λ (y : Entry). Some (entry_value y)) (read_there (subject fact) entries at d place)
    ∙ sym place.found)
