-- How an edit of a list changes how many of its entries pass a test.
use Rattle.std.proofs.Common.{◌≡◌, ◌≤◌, ◌+◌, ℕ, zero, suc, Bool, List, [], ◌∷◌, length, set, take, Some, slice_get, arith, ap}
use Rattle.std.specs.List.{insert, sum_by}
use Rattle.std.proofs.lemmas.List.{length-take-le}
use Rattle.std.proofs.lemmas.List.Sums.{length-filter}
use Rattle.std.proofs.lemmas.List.Sums.{sum_by-insert, sum_by-set, count_by-le-length}
use Rattle.std.proofs.lemmas.Option.{slice_get_within, get_or_from_slice_get}
use Rattle.rtcp_members.specs.declared.entry.Entry.{Entry}
use Rattle.rtcp_members.specs.Entries.{EntryValue}
use Rattle.rtcp_members.specs.ListViews.{entry_value, tally_of, weight_of}
use Rattle.rtcp_members.proofs.lists.Tallies.{one_more}

pub tally_sum : (test : EntryValue → Bool) (entries : List Entry) →
    tally_of test entries ≡ sum_by (weight_of test) entries
tally_sum test entries = length-filter (λ (x : Entry). test (entry_value x)) entries

pub tally_insert : (test : EntryValue → Bool) (entries : List Entry) (at : ℕ) (e : Entry) →
    tally_of test (insert entries at e) ≡ weight_of test e + tally_of test entries
tally_insert test entries at e = omega (
  arith,
  tally_sum test (insert entries at e),
  tally_sum test entries,
  sum_by-insert (weight_of test) entries at e,
)

pub tally_set : (test : EntryValue → Bool) (entries : List Entry) (at : ℕ) (e next : Entry) →
    slice_get entries at ≡ Some e
    → weight_of test e + tally_of test (set entries at next) ≡ weight_of test next + tally_of test entries
tally_set test entries at e next is = omega (
  arith,
  tally_sum test (set entries at next),
  tally_sum test entries,
  sum_by-set (weight_of test) entries at next e (slice_get_within entries at e is),
  ap (weight_of test) (get_or_from_slice_get entries at e e is),
)

-- an entry of the list is counted in it
pub weight_within : (test : EntryValue → Bool) (entries : List Entry) (at : ℕ) (e : Entry) →
    slice_get entries at ≡ Some e → weight_of test e ≤ tally_of test entries
weight_within test [] at e is = absurd cc
weight_within test (x ∷ xs) zero e is =
    let same : x ≡ e = cc in
    omega (arith, one_more test x xs, ap (weight_of test) same)
weight_within test (x ∷ xs) (suc at) e is = omega (arith, one_more test x xs, weight_within test xs at e is)

pub tally_at_most : (test : EntryValue → Bool) (entries : List Entry) → tally_of test entries ≤ length entries
tally_at_most test entries = omega (
  arith,
  length-filter (λ (x : Entry). test (entry_value x)) entries,
  count_by-le-length (λ (x : Entry). test (entry_value x)) entries,
)

-- No more pass than stand before the index.
pub few_before : (test : EntryValue → Bool) (entries : List Entry) (index : ℕ) → index ≤ length entries →
    tally_of test (take index entries) ≤ index
few_before test entries index within =
    omega (arith, length-take-le index entries within, tally_at_most test (take index entries))
