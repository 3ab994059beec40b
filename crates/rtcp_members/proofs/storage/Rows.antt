-- Lists of cells and of slots: what is read and written in them.
use Rattle.std.proofs.Common.{◌≡◌, ◌<◌, ◌≤◌, ◌+◌, ◌-◌, ◌++◌, ℕ, zero, suc, List, [], ◌∷◌, length, take, drop, set, slice_index_or, arith, refl, sym, ap, ◌∙◌}
use Rattle.std.specs.List.{insert, remove}
use Rattle.std.proofs.lemmas.List.{append-nil, append_assoc, length-drop, length-map, length-set, length-take-le, map-set, set-append_left, take-append-drop, take_at, take-append-le, take-take, take-set-le, take_more_set, drop_all, drop-append-le, drop-set-add, drop-set-lt, drop-take, length_push}
use Rattle.std.proofs.lemmas.Slice.{take-put_mid, drop-put_mid}
use Rattle.std.proofs.Math.Seq.{drop-append_seam}
use borrow.Rule.Slice.PartMut.{put_mid}
use Rattle.std.proofs.lemmas.List.Edits.{length-insert, insert-append_left}
use Rattle.rtcp_members.specs.declared.cells.Cell.{Cell}
use Rattle.rtcp_members.specs.storage.Heaps.{entries_in}

-- ---- Cells

-- Writing what is no entry leaves the entries.
pub entries_same : (cells : List Cell) (k : ℕ) (d cell : Cell) → cell.entry ≡ (slice_index_or cells k d).entry →
    entries_in (set cells k cell) ≡ entries_in cells
entries_same [] k d cell same = refl
entries_same (x ∷ cells) zero d cell same = ap (λ e. e ∷ entries_in cells) same
entries_same (x ∷ cells) (suc k) d cell same = ap (λ es. x.entry ∷ es) (entries_same cells k d cell same)

pub entry_written : (cells : List Cell) (place : ℕ) (cell : Cell) →
    entries_in (set cells place cell) ≡ set (entries_in cells) place cell.entry
entry_written cells place cell = map-set (λ (c : Cell). c.entry) cells place cell

-- What is read of a cell is read of it again.
pub read_again : (cells : List Cell) (place : ℕ) (d : Cell) → slice_index_or cells place d ≡ slice_index_or cells place
    (slice_index_or cells place d)
read_again [] place d = refl
read_again (cell ∷ cells) zero d = refl
read_again (cell ∷ cells) (suc place) d = read_again cells place d

pub as_many : (cells next : List Cell) → entries_in next ≡ entries_in cells → length next ≡ length cells
as_many cells next same = sym (length-map next (λ (c : Cell). c.entry)) ∙ ap length same
    ∙ length-map cells (λ (c : Cell). c.entry)

-- ---- Lists

pub take_inserted : {X : Type 0} (xs : List X) (m at : ℕ) (x : X) → at ≤ m → m ≤ length xs →
    take (m + 1) (insert xs at x) ≡ insert (take m xs) at x
take_inserted xs m at x in_range within =
    ap (λ ys. take (m + 1) (insert ys at x)) (sym (take-append-drop m xs))
    ∙ ap (take (m + 1)) (insert-append_left (take m xs) (drop m xs) at x
    (omega (arith, in_range, length-take-le m xs within)))
    ∙ take_at (insert (take m xs) at x) (drop m xs) (m + 1)
    (length-insert (take m xs) at x (omega (arith, in_range, length-take-le m xs within))
    ∙ ap (λ n. n + 1) (length-take-le m xs within))

-- what follows one of a list
pub behind : {X : Type 0} (front : List X) (x : X) (back : List X) →
    drop (suc (length front)) (front ++ x ∷ back) ≡ back
behind [] x back = refl
behind (y ∷ front) x back = behind front x back

pub take_written : {X : Type 0} (xs : List X) (n i : ℕ) (x : X) → i < n → n ≤ length xs →
    take n (set xs i x) ≡ set (take n xs) i x
take_written xs n i x early within =
    let as_long = length-take-le n xs within in
    ap (λ ys. take n (set ys i x)) (sym (take-append-drop n xs))
    ∙ ap (take n) (set-append_left (take n xs) (drop n xs) i x (omega (arith, early, as_long)))
    ∙ take_at (set (take n xs) i x) (drop n xs) n (length-set (take n xs) i x ∙ as_long)

-- The last goes.
pub remove_pushed : {X : Type 0} (xs : List X) (n : ℕ) (x : X) → n ≡ length xs → remove (xs ++ x ∷ []) n ≡ xs
remove_pushed xs n x last =
    (λ i. take_at xs (x ∷ []) n (sym last) i ++ drop_all (suc n) (xs ++ x ∷ []) (omega
    (arith, last, length_push xs x)) i)
    ∙ append-nil xs

-- The last of a part comes to its front.
module _ {X : Type 0} (xs : List X) (at end : ℕ) (x : X) (order : at ≤ end) (within : end < length xs) where
  abbrev between : List X
  between = take (end - at) (drop at xs)

  part : take (end + 1 - at) (drop at (set xs end x)) ≡ between ++ x ∷ []
  part =
      let ahead : end ≡ at + (end - at) = omega (arith, order) in
      let as_many : end + 1 - at ≡ end - at + 1 = omega (arith, order) in
      (λ i. take (as_many i) (drop at (set xs (ahead i) x)))
      ∙ ap (take (end - at + 1)) (drop-set-add at xs (end - at) x)
      ∙ take_more_set (drop at xs) (end - at) x (omega (arith, length-drop at xs, order, within))

  turned : (ys mid : List X) → mid ≡ between ++ x ∷ [] →
      ys ≡ drop (length mid - 1) mid ++ take (length mid - 1) mid → ys ≡ x ∷ between
  turned ys mid is made =
      let last : length (between ++ x ∷ []) - 1 ≡ length between = omega (arith, length_push between x) in
      made ∙ (λ i. drop (length (is i) - 1) (is i) ++ take (length (is i) - 1) (is i))
      ∙ (λ i. drop (last i) (between ++ x ∷ []) ++ take (last i) (between ++ x ∷ []))
      ∙ (λ i. drop-append_seam between (x ∷ []) i ++ take_at between (x ∷ []) (length between) refl i)

  pub shifted_in : (ys : List X) (k : ℕ) → k ≡ end + 1 - at →
      ys ≡ drop (length (take k (drop at (set xs end x))) - 1) (take k (drop at (set xs end x)))
      ++ take (length (take k (drop at (set xs end x))) - 1) (take k (drop at (set xs end x)))
      → put_mid at k (set xs end x) ys ≡ insert (remove xs end) at x
  shifted_in ys k so_many made =
      let set_xs : List X = set xs end x in
      let long : length set_xs ≡ length xs = length-set xs end x in
      let is : ys ≡ x ∷ between = turned ys (take k (drop at set_xs)) (ap (λ n. take n (drop at set_xs)) so_many ∙ part)
      made in
      let front : length between ≡ end - at = length-take-le (end - at) (drop at xs)
      (omega (arith, length-drop at xs, order, within)) in
      let many : length ys ≡ k = ap length is ∙ omega (arith, front, so_many, order) in
      let next : at + k ≡ suc end = omega (arith, so_many, order) in
      let ends : length (take end xs) ≡ end = length-take-le end xs (omega (arith, within)) in
      let ahead : end ≡ at + (end - at) = omega (arith, order) in
      sym (take-append-drop (at + k) (put_mid at k set_xs ys))
      ∙ (λ i. take-put_mid at k set_xs ys (at + k) (omega (arith, many)) (omega (arith, long, order, within)) i
      ++ drop-put_mid at k set_xs ys (at + k) (omega arith) (omega (arith, long, order, within)) many i)
      ∙ (λ i. (take-set-le at xs end x order i ++ is i) ++ drop (next i) set_xs)
      ∙ ap (λ back. (take at xs ++ x ∷ between) ++ back) (drop-set-lt (suc end) xs end x (omega arith))
      ∙ append_assoc (take at xs) (x ∷ between) (drop (suc end) xs)
      ∙ sym ((λ i. take-append-le at (take end xs) (drop (suc end) xs) (omega (arith, ends, order)) i
      ++ x ∷ drop-append-le at (take end xs) (drop (suc end) xs) (omega (arith, ends, order)) i)
      ∙ (λ i. take-take at end xs order i ++ x ∷ (drop at (take (ahead i) xs) ++ drop (suc end) xs))
      ∙ ap (λ mid. take at xs ++ x ∷ (mid ++ drop (suc end) xs)) (drop-take at (end - at) xs))
