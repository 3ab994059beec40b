-- Lists of entries by rising SSRC, and what an edit in its place leaves.
use Rattle.std.proofs.Common.{◌≡◌, ◌<◌, ℕ, zero, suc, T, List, [], ◌∷◌, length, set, Some, slice_get, slice_index_or, nat_cmp, is_lt, Less, Equal, Greater, arith, refl, sym, ap, subst, ◌∙◌}
use Rattle.std.specs.List.{insert}
use Rattle.std.specs.Cmp.{nat_cmp_total, nat_cmp_is}
use Rattle.std.specs.FinMap.Entries.{put, by_order, below_all, is_sorted, is_sorted-put}
use Rattle.rtcp_members.specs.declared.entry.Entry.{Entry}
use Rattle.rtcp_members.specs.Tables.{IsApart}
use Rattle.rtcp_members.specs.ListViews.{entry_value, row_of, rows_of}
use Rattle.rtcp_members.specs.storage.SortedViews.{IsRising, IsGapFor}
use Rattle.rtcp_members.proofs.maps.Updated.{both_hold, apart_where_sorted}
use Rattle.rtcp_members.proofs.turns.LeastDue.{less_than}

pub rising_apart : (entries : List Entry) → IsRising entries → IsApart (rows_of entries)
rising_apart entries rising = apart_where_sorted (rows_of entries) rising

-- ---- The order

above_at : (key : ℕ) (entries : List Entry) (k : ℕ) (d : Entry) → T (below_all nat_cmp key (rows_of entries)) →
    k < length entries → key < (slice_index_or entries k d).ssrc
above_at key [] k d below within = absurd (omega arith)
above_at key (x ∷ xs) zero d below within =
    less_than key x.ssrc (both_hold (is_lt (nat_cmp key x.ssrc)) (below_all nat_cmp key (rows_of xs)) below).0
above_at key (x ∷ xs) (suc k) d below within =
    above_at key xs k d (both_hold (is_lt (nat_cmp key x.ssrc)) (below_all nat_cmp key (rows_of xs)) below).1
    (omega arith)

pub rises : (entries : List Entry) → IsRising entries → (i j : ℕ) (d : Entry) → i < j → j < length entries →
    (slice_index_or entries i d).ssrc < (slice_index_or entries j d).ssrc
rises [] rising i j d less within = absurd (omega arith)
rises (x ∷ xs) rising i zero d less within = absurd (omega arith)
rises (x ∷ xs) rising zero (suc j) d less within =
    above_at x.ssrc xs j d (both_hold (below_all nat_cmp x.ssrc (rows_of xs)) (is_sorted nat_cmp (rows_of xs)) rising).0
    (omega arith)
rises (x ∷ xs) rising (suc i) (suc j) d less within =
    rises xs (both_hold (below_all nat_cmp x.ssrc (rows_of xs)) (is_sorted nat_cmp (rows_of xs)) rising).1 i j d
    (omega arith) (omega arith)

-- ---- An entry in its gap

gap_behind : (ssrc : ℕ) (x : Entry) (xs : List Entry) (at : ℕ) → IsGapFor ssrc (x ∷ xs) (suc at) → IsGapFor ssrc xs at
gap_behind ssrc x xs at gap =
    record {
      in_range = omega (arith, gap.in_range);
      lesser = λ i d before. gap.lesser (suc i) d (omega arith);
      greater = λ i d from within. gap.greater (suc i) d (omega arith) (omega arith);
    }

-- An entry that stands in its gap is the one that the map puts.
pub put_in_gap : (entries : List Entry) (at : ℕ) (e : Entry) → IsGapFor e.ssrc entries at →
    rows_of (insert entries at e) ≡ put nat_cmp e.ssrc (entry_value e) (rows_of entries)
put_in_gap [] zero e gap = refl
put_in_gap [] (suc at) e gap = refl
put_in_gap (x ∷ xs) zero e gap =
    ap (λ o. by_order o (row_of e ∷ row_of x ∷ rows_of xs) ((x.ssrc, entry_value e) ∷ rows_of xs)
    (row_of x ∷ put nat_cmp e.ssrc (entry_value e) (rows_of xs)))
    (nat_cmp_is e.ssrc x.ssrc Less (gap.greater 0 e (omega arith) (omega arith)))
put_in_gap (x ∷ xs) (suc at) e gap =
    ap (λ rows. row_of x ∷ rows) (put_in_gap xs at e (gap_behind e.ssrc x xs at gap))
    ∙ ap (λ o. by_order o (row_of e ∷ row_of x ∷ rows_of xs) ((x.ssrc, entry_value e) ∷ rows_of xs)
    (row_of x ∷ put nat_cmp e.ssrc (entry_value e) (rows_of xs)))
    (nat_cmp_is e.ssrc x.ssrc Greater (gap.lesser 0 e (omega arith)))

pub rising_insert : (entries : List Entry) (at : ℕ) (e : Entry) → IsRising entries → IsGapFor e.ssrc entries at →
    IsRising (insert entries at e)
rising_insert entries at e rising gap =
    subst (λ rows. T (is_sorted nat_cmp rows)) (sym (put_in_gap entries at e gap))
    (is_sorted-put nat_cmp nat_cmp_total e.ssrc (entry_value e) (rows_of entries) rising)

-- ---- An entry in its place

-- An entry of the same source, in the place of another, is the one that the map puts.
pub put_in_place : (entries : List Entry) (at : ℕ) (e next : Entry) → IsRising entries → slice_get entries at ≡ Some e →
    next.ssrc ≡ e.ssrc
    → rows_of (set entries at next) ≡ put nat_cmp next.ssrc (entry_value next) (rows_of entries)
put_in_place [] at e next rising is same = absurd cc
put_in_place (x ∷ xs) zero e next rising is same =
    let its : next.ssrc ≡ x.ssrc = cc in
    (λ i. (its i, entry_value next) ∷ rows_of xs)
    ∙ ap (λ o. by_order o (row_of next ∷ row_of x ∷ rows_of xs) ((x.ssrc, entry_value next) ∷ rows_of xs)
    (row_of x ∷ put nat_cmp next.ssrc (entry_value next) (rows_of xs)))
    (nat_cmp_is next.ssrc x.ssrc Equal its)
put_in_place (x ∷ xs) (suc at) e next rising is same =
    let halves = both_hold (below_all nat_cmp x.ssrc (rows_of xs)) (is_sorted nat_cmp (rows_of xs)) rising in
    let above : x.ssrc < e.ssrc = stands_above x.ssrc xs at e halves.0 is in
    ap (λ rows. row_of x ∷ rows) (put_in_place xs at e next halves.1 is same)
    ∙ ap (λ o. by_order o (row_of next ∷ row_of x ∷ rows_of xs) ((x.ssrc, entry_value next) ∷ rows_of xs)
    (row_of x ∷ put nat_cmp next.ssrc (entry_value next) (rows_of xs)))
    (nat_cmp_is next.ssrc x.ssrc Greater (omega (arith, above, same)))
  where
    stands_above : (key : ℕ) (ys : List Entry) (k : ℕ) (y : Entry) → T (below_all nat_cmp key (rows_of ys)) →
        slice_get ys k ≡ Some y → key < y.ssrc
    stands_above key [] k y below stands = absurd cc
    stands_above key (z ∷ zs) zero y below stands =
        let its : z.ssrc ≡ y.ssrc = cc in
        omega (
          arith,
          its,
          less_than key z.ssrc
              (both_hold (is_lt (nat_cmp key z.ssrc)) (below_all nat_cmp key (rows_of zs)) below).0,
        )
    stands_above key (z ∷ zs) (suc k) y below stands = stands_above key zs k y
        (both_hold (is_lt (nat_cmp key z.ssrc)) (below_all nat_cmp key (rows_of zs)) below).1 stands

pub rising_set : (entries : List Entry) (at : ℕ) (e next : Entry) → IsRising entries → slice_get entries at ≡ Some e →
    next.ssrc ≡ e.ssrc → IsRising (set entries at next)
rising_set entries at e next rising is same =
    subst (λ rows. T (is_sorted nat_cmp rows)) (sym (put_in_place entries at e next rising is same))
    (is_sorted-put nat_cmp nat_cmp_total next.ssrc (entry_value next) (rows_of entries) rising)
