-- A sorted table after a check.
use Rattle.std.proofs.Common.{◌≡◌, ◌-◌, ℕ, true, false, Bool, T, cond, not, List, [], ◌∷◌, if◌then◌else◌, Option, Some, None, option_map, filter_map, nat_cmp, is_lt, arith, refl, sym, ap, subst, ◌∙◌}
use Rattle.std.proofs.lemmas.Bool.{and_parts}
use Rattle.std.specs.List.{list_all, cons_option}
use Rattle.std.specs.FinMap.Entries.{below_all, is_sorted}
use Rattle.rtcp_members.specs.declared.entry.Entry.{Entry}
use Rattle.rtcp_members.specs.Traces.{Horizons}
use Rattle.rtcp_members.specs.Entries.{EntryValue, is_sender}
use Rattle.rtcp_members.specs.Tables.{TableValue, updated_row, entry_after_check, after_check, dropped_entries, dropped_senders, senders_in}
use Rattle.rtcp_members.specs.ListViews.{rows_of, table_of, lapses, lapsed, outlasts, checked, is_left, IsListed}
use Rattle.rtcp_members.specs.storage.SortedViews.{IsRising, IsSortedTable}
use Rattle.rtcp_members.specs.declared.bounds.Bounds.{Bounds}
use Rattle.rtcp_members.specs.declared.counts.Counts.{Counts}
use Rattle.rtcp_members.specs.storage.Standing.{AreCounts, RulesOut}
use Rattle.rtcp_members.proofs.lists.BoundLemmas.{all_left}
use Rattle.rtcp_members.proofs.lists.Changing.{rows_checked}
use Rattle.rtcp_members.proofs.maps.Updated.{both_hold}
use Rattle.rtcp_members.proofs.turns.LeastDue.{joined}
use Rattle.rtcp_members.proofs.sorted.Rising.{rising_apart}
use Rattle.rtcp_members.proofs.lists.Tallies.{counted_at, fewer_checked, listed_checked, table_checked, dropped_checked, senders_checked}

pub listed_of : (capacity : ℕ) (entries : List Entry) → IsSortedTable capacity entries → IsListed capacity entries
listed_of capacity entries sorted = record {
  apart = rising_apart entries sorted.rising;
  within = sorted.within;
  room = sorted.room;
}

-- ---- A check that changes nothing

isnt : (b : Bool) → not b ≡ true → b ≡ false
isnt true e = absurd cc
isnt false e = refl

pub left_alone : (horizons : Horizons) (entries : List Entry) → list_all (is_left horizons) entries ≡ true →
    entries ≡ checked horizons entries
left_alone horizons [] all = refl
left_alone horizons (e ∷ entries) all =
    let halves = and_parts (is_left horizons e) (list_all (is_left horizons) entries) all in
    let its = and_parts (not (lapses horizons.idle e)) (outlasts horizons e) halves.0 in
    let rest = left_alone horizons entries halves.1 in
    let as_it_was : lapsed horizons.idle e ≡ e = ap (λ b. if b then record e { sends = false } else e)
    (isnt (lapses horizons.idle e) its.0) in
    sym (λ i. cond (its.1 i) (as_it_was i ∷ sym rest i) (checked horizons entries))

-- A check that the bounds rule out drops nothing.
pub nothing_dropped : (horizons : Horizons) (capacity : ℕ) (entries : List Entry) (bounds : Bounds)
    (table : TableValue) → table_of capacity entries ≡ table → IsSortedTable capacity entries →
    RulesOut horizons entries bounds → (0 ≡ dropped_entries horizons table) × (0 ≡ dropped_senders horizons table)
    × (table_of capacity entries ≡ after_check horizons table)
nothing_dropped horizons capacity entries bounds table view sorted out =
    let same = left_alone horizons entries (all_left bounds horizons entries out) in
    let listed = listed_of capacity entries sorted in
    let count : ℕ = senders_in table in (
      omega (arith, dropped_checked horizons entries entries same capacity table view listed),
      omega (
        arith,
        senders_checked horizons entries entries same capacity table view listed count count refl
            (ap senders_in (sym view)),
      ),
      table_checked horizons entries entries same capacity table view listed,
    )

-- One that drops some leaves so many senders fewer.
pub senders_dropped : (horizons : Horizons) (entries next : List Entry) → next ≡ checked horizons entries →
    (capacity : ℕ) (table : TableValue) → table_of capacity entries ≡ table →
    IsSortedTable capacity entries → (old new : Counts) → AreCounts old entries → AreCounts new next →
    old.senders - new.senders ≡ dropped_senders horizons table
senders_dropped horizons entries next is capacity table view sorted old new counts counts_left =
    let listed = listed_of capacity entries sorted in
    let left = listed_checked horizons entries next is capacity table view listed in
    senders_checked horizons entries next is capacity table view listed old.senders new.senders
    (counted_at is_sender capacity entries table old.senders listed.apart view counts.senders)
    (counted_at is_sender capacity next (table_of capacity next) new.senders left.apart refl
    counts_left.senders)

-- ---- Still in order

below_updated : (key : ℕ) (step : EntryValue → Option EntryValue) (rows : List (ℕ × EntryValue)) →
    T (below_all nat_cmp key rows) → T (below_all nat_cmp key (filter_map (updated_row step) rows))
below_updated key step [] below = tt
below_updated key step (row ∷ rows) below =
    let halves = both_hold (is_lt (nat_cmp key row.0)) (below_all nat_cmp key rows) below in
    let rest = below_updated key step rows halves.1 in
    elim (step row.1) as (λ o. T (below_all nat_cmp key
    (cons_option (option_map (λ entry. (row.0, entry)) o) (filter_map (updated_row step) rows)))) [
      | None ↦ rest
      | Some value ↦ joined (is_lt (nat_cmp key row.0)) (below_all nat_cmp key (filter_map (updated_row step) rows))
          halves.0 rest
    ]

sorted_updated : (step : EntryValue → Option EntryValue) (rows : List (ℕ × EntryValue)) → T (is_sorted nat_cmp rows) →
    T (is_sorted nat_cmp (filter_map (updated_row step) rows))
sorted_updated step [] sorted = tt
sorted_updated step (row ∷ rows) sorted =
    let halves = both_hold (below_all nat_cmp row.0 rows) (is_sorted nat_cmp rows) sorted in
    let rest = sorted_updated step rows halves.1 in
    elim (step row.1) as (λ o. T (is_sorted nat_cmp
    (cons_option (option_map (λ entry. (row.0, entry)) o) (filter_map (updated_row step) rows)))) [
      | None ↦ rest
      | Some value ↦ joined (below_all nat_cmp row.0 (filter_map (updated_row step) rows))
          (is_sorted nat_cmp (filter_map (updated_row step) rows)) (below_updated row.0 step rows halves.0) rest
    ]

pub rising_checked : (horizons : Horizons) (entries next : List Entry) →
    next ≡ checked horizons entries → IsRising entries → IsRising next
rising_checked horizons entries next is rising =
    subst (λ rows. T (is_sorted nat_cmp rows)) (sym (ap rows_of is ∙ rows_checked horizons entries))
    (sorted_updated (entry_after_check horizons) (rows_of entries) rising)

pub sorted_checked : (horizons : Horizons) (entries next : List Entry) → next ≡ checked horizons entries →
    (capacity : ℕ) → IsSortedTable capacity entries → IsSortedTable capacity next
sorted_checked horizons entries next is capacity sorted = record {
  rising = rising_checked horizons entries next is sorted.rising;
  within = omega (arith, fewer_checked horizons entries next is, sorted.within);
  room = sorted.room;
}
