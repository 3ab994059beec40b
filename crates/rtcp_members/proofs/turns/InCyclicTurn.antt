-- The pending rows of a sorted list: those from a place on, and then those before it.
use Rattle.std.proofs.Common.{◌≡◌, ◌<◌, ◌≤◌, ◌+◌, ℕ, zero, suc, Bool, true, false, cond, not, ◌&&◌, List, [], ◌∷◌, ◌++◌, filter, length, take, drop, slice_index_or, nat_lt, if◌then◌else◌, Option, Some, None, is_some, nat_cmp, inl, inr, arith, refl, sym, ap, subst, ◌∙◌, le_of_eq}
use Rattle.std.specs.Cmp.{nat_cmp_total}
use Rattle.std.specs.FinMap as finite
use Rattle.std.specs.FinMap.{nat_cmp-IsAntisymmetric}
use Rattle.std.specs.FinMap.Entries.{same_entries}
use Rattle.std.proofs.lemmas.Bool.{cases_lt}
use Rattle.std.proofs.lemmas.Option.{slice_get_within}
use Rattle.std.proofs.lemmas.Bool.Decides.{nat_tests}
use Rattle.rtcp_members.specs.declared.entry.Entry.{Entry}
use Rattle.rtcp_members.specs.Tables.{TableValue}
use Rattle.rtcp_members.specs.ListViews.{entry_value, row_of, rows_of, map_of, table_of, tally_of, IsRankOf}
use Rattle.rtcp_members.specs.storage.SortedViews.{CutsAbove, IsFirstDue, IsRising, IsGapFor, RanksFirst}
use Rattle.rtcp_members.specs.Pending.{EntryRow, due_rows, in_turn, first_ssrc, is_above, is_due, pending}
use Rattle.rtcp_members.proofs.lists.Listing.{get_rows}
use Rattle.rtcp_members.proofs.turns.LeastDue.{filter_twice, none_first, some_first}
use Rattle.rtcp_members.proofs.lists.Applying.{read_there}
use Rattle.rtcp_members.proofs.sorted.Rising.{rises}

-- ---- Cut in two

-- Where the rows that pass a test are those from `n` on, the filters cut the list there.
cut_at : (test : EntryRow → Bool) (entries : List Entry) (n : ℕ) →
    ((k : ℕ) (d : Entry) → k < n → k < length entries → test (row_of (slice_index_or entries k d)) ≡ false)
    → ((k : ℕ) (d : Entry) → n ≤ k → k < length entries → test (row_of (slice_index_or entries k d)) ≡ true)
    → (filter test (rows_of entries) ≡ rows_of (drop n entries))
    × (filter (λ (row : EntryRow). not (test row)) (rows_of entries) ≡ rows_of (take n entries))
cut_at test [] zero before from = (refl, refl)
cut_at test [] (suc n) before from = (refl, refl)
cut_at test (x ∷ xs) zero before from =
    let here = from 0 x (omega arith) (omega arith) in
    let rest = cut_at test xs zero (λ k d less within. absurd (omega arith))
    (λ k d _ within. from (suc k) d (omega arith) (omega arith)) in (
      λ i. cond (here i) (row_of x ∷ rest.0 i) (rest.0 i),
      λ i. cond (not (here i)) (row_of x ∷ rest.1 i) (rest.1 i),
    )
cut_at test (x ∷ xs) (suc n) before from =
    let here = before 0 x (omega arith) (omega arith) in
    let rest = cut_at test xs n (λ k d less within. before (suc k) d (omega arith) (omega arith))
    (λ k d least within. from (suc k) d (omega arith) (omega arith)) in (
      λ i. cond (here i) (row_of x ∷ rest.0 i) (rest.0 i),
      λ i. cond (not (here i)) (row_of x ∷ rest.1 i) (rest.1 i),
    )

no_more : (y a : ℕ) → y ≤ a → nat_lt a y ≡ false
no_more y a le = grind (arith, nat_tests)

more : (y a : ℕ) → a < y → nat_lt a y ≡ true
more y a lt = grind (arith, nat_tests)

cut_above : (last : Option ℕ) (entries : List Entry) (n : ℕ) → n ≤ length entries →
    ((k : ℕ) (d : Entry) → k < n → is_above last (row_of (slice_index_or entries k d)) ≡ false)
    → ((k : ℕ) (d : Entry) → n ≤ k → k < length entries → is_above last (row_of (slice_index_or entries k d)) ≡ true)
    → CutsAbove last entries n
cut_above last entries n bound before from =
    let cut = cut_at (is_above last) entries n (λ k d less within. before k d less) from in
    record { bound = bound; rest = cut.0; before = cut.1 }

-- The rows above a source without an entry begin where that would stand.
pub cut_gap : (entries : List Entry) (a n : ℕ) (above : Option ℕ) → above ≡ Some a → IsGapFor a entries n →
    CutsAbove above entries n
cut_gap entries a n above is gap =
    subst (λ o. CutsAbove o entries n) (sym is)
    (cut_above (Some a) entries n gap.in_range (λ k d before. no_more _ a (omega (arith, gap.lesser k d before)))
    (λ k d from within. more _ a (gap.greater k d from within)))

-- The rows above a source begin after its entry.
pub cut_after : (entries : List Entry) (a at : ℕ) (above : Option ℕ) → above ≡ Some a → IsRising entries →
    IsRankOf a entries at → CutsAbove above entries (at + 1)
cut_after entries a at above is rising place =
    subst (λ o. CutsAbove o entries (at + 1)) (sym is)
    (cut_above (Some a) entries (at + 1) (omega (arith, stands_within)) (λ k d before. no_more _ a (up_to k d before))
    (λ k d from within. more _ a (from_then k d from within)))
  where
    here : (d : Entry) → (slice_index_or entries at d).ssrc ≡ a
    here d = ap (λ (e : Entry). e.ssrc) (read_there a entries at d place) ∙ place.its_ssrc

    stands_within : at < length entries
    stands_within = slice_get_within entries at place.entry place.stands

    up_to : (k : ℕ) (d : Entry) → k < at + 1 → (slice_index_or entries k d).ssrc ≤ a
    up_to k d before = elim (cases_lt k at) [
      | inl less ↦ omega (arith, rises entries rising k at d less stands_within, here d)
      | inr least ↦
          let same : k ≡ at = omega arith in
          le_of_eq (ap (λ k. (slice_index_or entries k d).ssrc) same ∙ here d)
    ]

    from_then : (k : ℕ) (d : Entry) → at + 1 ≤ k → k < length entries → a < (slice_index_or entries k d).ssrc
    from_then k d from within = omega (arith, rises entries rising at k d (omega arith) within, here d)

pub cut_nowhere : (entries : List Entry) (above : Option ℕ) → above ≡ None → CutsAbove above entries 0
cut_nowhere entries above is =
    subst (λ o. CutsAbove o entries 0) (sym is)
    (cut_above None entries 0 (omega arith) (λ k d before. absurd (omega arith)) (λ k d from within. refl))

-- ---- In turn

pub entries_of_rising : (entries : List Entry) → IsRising entries → finite.entries (map_of entries) ≡ rows_of entries
entries_of_rising entries rising =
    same_entries nat_cmp nat_cmp_total nat_cmp-IsAntisymmetric (finite.entries (map_of entries)) (rows_of entries)
    (finite.entries_sorted (map_of entries)) rising
    (λ q. sym (finite.get-entries (map_of entries) q) ∙ get_rows entries q)

no_due_rows : (entries : List Entry) → tally_of is_due entries ≡ 0 →
    filter (λ (row : EntryRow). is_due row.1) (rows_of entries) ≡ []
no_due_rows [] none = refl
no_due_rows (e ∷ entries) none =
    elim (is_due (entry_value e)) as (λ b. length
    (if b then e ∷ filter (λ (x : Entry). is_due (entry_value x)) entries else filter
    (λ (x : Entry). is_due (entry_value x)) entries) ≡ 0
    → (if b then row_of e ∷ filter (λ (row : EntryRow). is_due row.1) (rows_of entries) else filter
    (λ (row : EntryRow). is_due row.1) (rows_of entries)) ≡ []) [
      | true ↦ λ none. absurd (omega (arith, none))
      | false ↦ λ none. no_due_rows entries none
    ] none

-- Where no entry is due, no source is pending.
pub none_pending : (last : Option ℕ) (capacity : ℕ) (entries : List Entry) (table : TableValue) →
    table_of capacity entries ≡ table → IsRising entries → tally_of is_due entries ≡ 0 →
    None ≡ first_ssrc (pending last table)
none_pending last capacity entries table is rising none =
    let rows : due_rows table ≡ [] = ap due_rows (sym is) ∙ ap (filter (λ (row : EntryRow). is_due row.1))
    (entries_of_rising entries rising) ∙ no_due_rows entries none in
    sym (ap (λ (rows : List EntryRow). first_ssrc (in_turn last rows)) rows)

either_way : (a b : Bool) → (a && b) ≡ (b && a)
either_way true true = refl
either_way true false = refl
either_way false true = refl
either_way false false = refl

filter_in_turn : (p q : EntryRow → Bool) (rows : List EntryRow) → filter q (filter p rows) ≡ filter p (filter q rows)
filter_in_turn p q rows = filter_twice p q rows ∙ (λ i. filter (λ row. either_way (p row) (q row) i) rows)
    ∙ sym (filter_twice q p rows)

first_of_both : (xs ys : List EntryRow) (first : Option ℕ) → first ≡ first_ssrc xs →
    (if is_some first then first else first_ssrc ys) ≡ first_ssrc (xs ++ ys)
first_of_both xs ys (Some ssrc) is = sym (some_first xs ys ssrc is)
first_of_both xs ys None is = ap (λ rows. first_ssrc (rows ++ ys)) (sym (none_first xs (sym is)))

module _ (last : Option ℕ) (capacity : ℕ) (entries : List Entry) (n : ℕ) (table : TableValue)
    (is : table_of capacity entries ≡ table) (rising : IsRising entries) (cut : CutsAbove last entries n) where
  abbrev due_of : List Entry → List EntryRow
  due_of xs = filter (λ (row : EntryRow). is_due row.1) (rows_of xs)

  pending_in : due_of (drop n entries) ++ due_of (take n entries) ≡ pending last table
  pending_in =
      let due = λ (row : EntryRow). is_due row.1 in
      (λ i. filter due (sym cut.rest i) ++ filter due (sym cut.before i))
      ∙ (λ i. filter_in_turn (is_above last) due (rows_of entries) i ++ filter_in_turn
      (λ (row : EntryRow). not (is_above last row)) due (rows_of entries) i)
      ∙ ap (λ rows. filter (is_above last) (filter due rows) ++ filter (λ (row : EntryRow). not (is_above last row))
      (filter due rows)) (sym (entries_of_rising entries rising))
      ∙ ap (pending last) is

  pub first_pending : (first second : Option ℕ) → first ≡ first_ssrc (due_of (drop n entries)) →
      second ≡ first_ssrc (due_of (take n entries)) → (if is_some first then first else second) ≡ first_ssrc
      (pending last table)
  first_pending first second finds finds_before =
      ap (λ o. if is_some first then first else o) finds_before ∙ first_of_both (due_of (drop n entries))
      (due_of (take n entries)) first finds ∙ ap first_ssrc pending_in

  -- The rank of the first that is due from the place on is that of the first pending source.
  pub ranked_from : (at : ℕ) → IsFirstDue (due_of (drop n entries)) entries at →
      IsFirstDue (pending last table) entries at
  ranked_from at found = record {
    ssrc = found.ssrc;
    first = first_pending (Some found.ssrc) (first_ssrc (due_of (take n entries))) found.first refl;
    place = found.place;
    due = found.due;
  }

  -- Where none is, it is that of the first before the place, if there is one.
  pub ranked_before : None ≡ first_ssrc (due_of (drop n entries)) → (found : Option ℕ) →
      RanksFirst (due_of (take n entries)) entries found → RanksFirst (pending last table) entries found
  ranked_before none None nowhere = first_pending None None none nowhere
  ranked_before none (Some at) found = record {
    ssrc = found.ssrc;
    first = first_pending None (Some found.ssrc) none found.first;
    place = found.place;
    due = found.due;
  }
