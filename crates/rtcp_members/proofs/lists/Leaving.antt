-- An entry that leaves a list, wherever it stands.
use Rattle.std.proofs.Common.{◌≡◌, ◌<◌, ◌≤◌, ◌+◌, ◌++◌, ℕ, zero, suc, Bool, true, false, T, cond, if◌then◌else◌, List, [], ◌∷◌, length, take, drop, set, Option, Some, None, not, slice_get, slice_index_or, is_some, is_none, nat_cmp, is_lt, arith, refl, sym, ap, ◌∙◌}
use Rattle.std.specs.List.{remove}
use Rattle.std.specs.Ordering.{eq_by_cmp}
use Rattle.std.specs.Cmp.{nat_cmp_total}
use Rattle.std.specs.FinMap as finite
use Rattle.std.specs.FinMap.{nat_cmp-IsAntisymmetric}
use Rattle.std.specs.FinMap.Entries.{below_all, is_sorted}
use Rattle.std.proofs.lemmas.List.{drop-set-lt, take-set-le}
use Rattle.std.proofs.lemmas.List.Edits.{length-remove}
use Rattle.std.proofs.lemmas.List.Elements.{All-append, All-take, All-drop}
use Rattle.std.proofs.lemmas.List.Sums.{sum_by-remove}
use Rattle.std.proofs.lemmas.Option.{slice_get_within, get_or_from_slice_get}
use Rattle.rtcp_members.specs.declared.bounds.Bounds.{Bounds}
use Rattle.rtcp_members.specs.declared.counts.Counts.{Counts}
use Rattle.rtcp_members.specs.declared.entry.Entry.{Entry}
use Rattle.rtcp_members.specs.Entries.{EntryValue, is_member, is_sender, is_such}
use Rattle.rtcp_members.specs.Tables.{IsApart, TableValue, after_forgetting, is_unmarked}
use Rattle.rtcp_members.specs.ListViews.{entry_value, mark_in, rows_of, map_of, table_of, tally_of, weight_of, IsListed, IsRankOf}
use Rattle.rtcp_members.specs.storage.SortedViews.{IsRising, IsSortedTable}
use Rattle.rtcp_members.specs.Pending.{is_due}
use Rattle.rtcp_members.specs.storage.Standing.{AllStandBy, AreCounts, IsOneMore}
use Rattle.rtcp_members.proofs.lists.BoundLemmas.{stands}
use Rattle.rtcp_members.proofs.turns.LeastDue.{joined}
use Rattle.rtcp_members.proofs.lists.Listing.{get_rows, same_entry, other_source, in_turn, tied_key}
use Rattle.rtcp_members.proofs.maps.Updated.{both_hold}
use Rattle.rtcp_members.proofs.lists.Weights.{tally_sum}

-- ---- The rows

find_removed : (entries : List Entry) (at : ℕ) (e : Entry) (q : ℕ) → IsApart (rows_of entries) →
    slice_get entries at ≡ Some e
    → finite.find nat_cmp q (rows_of (remove entries at)) ≡ cond (eq_by_cmp nat_cmp q e.ssrc) None
    (finite.find nat_cmp q (rows_of entries))
find_removed [] at e q apart is = absurd cc
find_removed (x ∷ xs) zero e q apart is =
    elim (eq_by_cmp nat_cmp q x.ssrc) as (λ b. eq_by_cmp nat_cmp q x.ssrc ≡ b → finite.find nat_cmp q (rows_of xs)
    ≡ cond b None (cond b (Some (entry_value x)) (finite.find nat_cmp q (rows_of xs)))) [
      | true ↦ λ tied. ap (λ k. finite.find nat_cmp k (rows_of xs)) (tied_key q x.ssrc tied) ∙ apart.0
      | false ↦ λ _. refl
    ] refl
    ∙ ap (λ (y : Entry). cond (eq_by_cmp nat_cmp q y.ssrc) None
    (cond (eq_by_cmp nat_cmp q x.ssrc) (Some (entry_value x)) (finite.find nat_cmp q (rows_of xs))))
    (same_entry x e is)
find_removed (x ∷ xs) (suc at) e q apart is =
    ap (cond (eq_by_cmp nat_cmp q x.ssrc) (Some (entry_value x))) (find_removed xs at e q apart.1 is)
    ∙ in_turn (eq_by_cmp nat_cmp q x.ssrc) (eq_by_cmp nat_cmp q e.ssrc) (Some (entry_value x)) None
    (finite.find nat_cmp q (rows_of xs))
    (λ a b. other_source x xs at e apart is (omega (arith, tied_key q x.ssrc a, tied_key q e.ssrc b)))

map_removed : (entries : List Entry) (at : ℕ) (e : Entry) → IsApart (rows_of entries) → slice_get entries at ≡ Some e →
    map_of (remove entries at) ≡ finite.remove (map_of entries) e.ssrc
map_removed entries at e apart is =
    finite.same_map nat_cmp_total nat_cmp-IsAntisymmetric _ _ (λ q. get_rows (remove entries at) q
    ∙ find_removed entries at e q apart is
    ∙ ap (cond (eq_by_cmp nat_cmp q e.ssrc) None) (sym (get_rows entries q))
    ∙ sym (finite.get-remove nat_cmp_total (map_of entries) e.ssrc q))

apart_removed : (entries : List Entry) (at : ℕ) (e : Entry) → IsApart (rows_of entries) →
    slice_get entries at ≡ Some e → IsApart (rows_of (remove entries at))
apart_removed [] at e apart is = absurd cc
apart_removed (x ∷ xs) zero e apart is = apart.1
apart_removed (x ∷ xs) (suc at) e apart is = (
  find_removed xs at e x.ssrc apart.1 is
      ∙ elim (eq_by_cmp nat_cmp x.ssrc e.ssrc) as (λ b. cond b None (finite.find nat_cmp x.ssrc (rows_of xs)) ≡ None)
      [ true ↦ refl | false ↦ apart.0 ],
  apart_removed xs at e apart.1 is,
)

-- ---- The order

below_removed : (key : ℕ) (entries : List Entry) (at : ℕ) → at < length entries →
    T (below_all nat_cmp key (rows_of entries)) → T (below_all nat_cmp key (rows_of (remove entries at)))
below_removed key [] at within below = absurd (omega arith)
below_removed key (x ∷ xs) zero within below =
    (both_hold (is_lt (nat_cmp key x.ssrc)) (below_all nat_cmp key (rows_of xs)) below).1
below_removed key (x ∷ xs) (suc at) within below =
    let halves = both_hold (is_lt (nat_cmp key x.ssrc)) (below_all nat_cmp key (rows_of xs)) below in
    joined (is_lt (nat_cmp key x.ssrc)) (below_all nat_cmp key (rows_of (remove xs at))) halves.0
    (below_removed key xs at (omega arith) halves.1)

pub rising_removed : (entries : List Entry) (at : ℕ) → at < length entries → IsRising entries →
    IsRising (remove entries at)
rising_removed [] at within rising = absurd (omega arith)
rising_removed (x ∷ xs) zero within rising =
    (both_hold (below_all nat_cmp x.ssrc (rows_of xs)) (is_sorted nat_cmp (rows_of xs)) rising).1
rising_removed (x ∷ xs) (suc at) within rising =
    let halves = both_hold (below_all nat_cmp x.ssrc (rows_of xs)) (is_sorted nat_cmp (rows_of xs)) rising in
    joined (below_all nat_cmp x.ssrc (rows_of (remove xs at))) (is_sorted nat_cmp (rows_of (remove xs at)))
    (below_removed x.ssrc xs at (omega arith) halves.0) (rising_removed xs at (omega arith) halves.1)

-- ---- Counts and bounds

tally_removed : (test : EntryValue → Bool) (entries : List Entry) (at : ℕ) (e : Entry) → at < length entries →
    e ≡ slice_index_or entries at e → weight_of test e + tally_of test (remove entries at) ≡ tally_of test entries
tally_removed test entries at e within read = omega (
  arith,
  tally_sum test entries,
  tally_sum test (remove entries at),
  sum_by-remove (weight_of test) entries at e within,
  ap (weight_of test) read,
)

pub counted_removed : (counts next : Counts) (entries : List Entry) (at : ℕ) (e : Entry) → at < length entries →
    e ≡ slice_index_or entries at e → AreCounts counts entries → IsOneMore e next counts →
    AreCounts next (remove entries at)
counted_removed counts next entries at e within read so fewer = record {
  members = omega (arith, so.members, fewer.members, tally_removed is_member entries at e within read);
  senders = omega (arith, so.senders, fewer.senders, tally_removed is_sender entries at e within read);
  due = omega (arith, so.due, fewer.due, tally_removed is_due entries at e within read);
}

pub stand_removed : (bounds : Bounds) (entries : List Entry) (at : ℕ) → AllStandBy bounds entries →
    AllStandBy bounds (remove entries at)
stand_removed bounds entries at all = All-append (stands bounds) (take at entries) (drop (suc at) entries)
    (All-take (stands bounds) at entries all) (All-drop (stands bounds) (suc at) entries all)

-- ---- The table over the list

module _ (ssrc : ℕ) (entries : List Entry) (at : ℕ) (place : IsRankOf ssrc entries at) where
  within : at < length entries
  within = slice_get_within entries at place.entry place.stands

  fewer : length (remove entries at) ≤ length entries
  fewer = omega (arith, length-remove entries at within)

  pub listed_removed : (capacity : ℕ) → IsListed capacity entries → IsListed capacity (remove entries at)
  listed_removed capacity listed = record {
    apart = apart_removed entries at place.entry listed.apart place.stands;
    within = omega (arith, listed.within, fewer);
    room = listed.room;
  }

  pub sorted_removed : (capacity : ℕ) → IsSortedTable capacity entries → IsSortedTable capacity (remove entries at)
  sorted_removed capacity sorted = record {
    rising = rising_removed entries at within sorted.rising;
    within = omega (arith, sorted.within, fewer);
    room = sorted.room;
  }

  -- by whether it has a mark
  pub found_unmarked : (d : Entry) (marked : Bool) → marked ≡ is_some (mark_in (slice_index_or entries at d)) →
      not marked ≡ is_such is_unmarked (finite.get (map_of entries) ssrc)
  found_unmarked d marked is =
      ap not is
      ∙ ap (λ (e : Entry). not (is_some (mark_in e))) (get_or_from_slice_get entries at place.entry d place.stands)
      ∙ isnt_some (mark_in place.entry)
      ∙ ap (is_such is_unmarked) (sym place.found)
    where
      isnt_some : (mark : Option ℕ) → not (is_some mark) ≡ is_none mark
      isnt_some None = refl
      isnt_some (Some moment) = refl

  abbrev table : (capacity : ℕ) → TableValue
  table capacity = table_of capacity entries

  abbrev next_by : (capacity : ℕ) → Bool → TableValue
  next_by capacity unmarked =
      if unmarked then record (table capacity) { entries = finite.remove (map_of entries) ssrc } else table capacity

  pub table_removed : (capacity : ℕ) → IsApart (rows_of entries) →
      true ≡ is_such is_unmarked (finite.get (map_of entries) ssrc) →
      table_of capacity (remove entries at) ≡ after_forgetting ssrc (table_of capacity entries)
  table_removed capacity apart unmarked =
      ap (λ m. record (table capacity) { entries = m }) (map_removed entries at place.entry apart place.stands
      ∙ ap (finite.remove (map_of entries)) place.its_ssrc)
      ∙ ap (next_by capacity) unmarked

-- A source without an entry changes nothing.
pub none_forgotten : (ssrc : ℕ) (table : TableValue) → finite.get table.entries ssrc ≡ None →
    (false ≡ is_such is_unmarked (finite.get table.entries ssrc)) × (table ≡ after_forgetting ssrc table)
none_forgotten ssrc table none =
    let not_there : false ≡ is_such is_unmarked (finite.get table.entries ssrc) = ap (is_such is_unmarked)
    (sym none) in (
      not_there,
      ap (λ b. if b then record table { entries = finite.remove table.entries ssrc } else table) not_there,
    )

-- What is written in its place first does not stay.
pub leaves_written : (xs : List Entry) (at : ℕ) (e : Entry) → remove (set xs at e) at ≡ remove xs at
leaves_written xs at e = λ i. take-set-le at xs at e (omega arith) i ++ drop-set-lt (suc at) xs at e (omega arith) i
