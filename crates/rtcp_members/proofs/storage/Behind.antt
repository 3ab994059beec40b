-- The slot of a rank comes behind the others in use, which come one rank down from there on.
use Rattle.std.proofs.Common.{◌≡◌, ◌<◌, ◌≤◌, ◌+◌, ◌-◌, ◌++◌, ℕ, List, [], ◌∷◌, length, take, drop, slice_index_or, arith, sym, ap, subst, ◌∙◌}
use Rattle.std.specs.List.{remove}
use Rattle.std.specs.List.Sorted.{IsPermutation}
use Rattle.std.proofs.lemmas.List.{append-nil, drop_all, drop-take, get_or_default, length-drop, length-take-le, take-take, take_at}
use Rattle.std.proofs.lemmas.List.Edits.{length-remove}
use Rattle.std.proofs.lemmas.List.Sorted.{All-permutation, IsPermutation-put_mid, IsPermutation-remove, IsPermutation-sym, IsPermutation-to_front, IsPermutation-trans, length_permutation, sum_by-IsPermutation}
use Rattle.std.proofs.lemmas.Slice.{put_mid-rotated, take-put_mid}
use borrow.Rule.Slice.PartMut.{mid_of, put_mid}
use Rattle.rtcp_members.specs.declared.entry.Entry.{Entry}
use Rattle.rtcp_members.specs.declared.cells.Slot.{Slot}
use Rattle.rtcp_members.specs.storage.Heaps.{no_slot, IsHeap, IsKeyed, IsMovedBehind}
use Rattle.rtcp_members.proofs.storage.Ranked.{has_place}

module _ (slots ys : List Slot) (used at k : ℕ) (stands : at < used) (in_use : used ≤ length slots)
    (many : k ≡ used - at) (permuted : IsPermutation (mid_of at k slots) ys)
    (turned : ys ≡ drop 1 (mid_of at k slots) ++ take 1 (mid_of at k slots)) where
  abbrev row : List Slot
  row = take used slots

  abbrev next : List Slot
  next = put_mid at k slots ys

  abbrev its : Slot
  its = slice_index_or row at no_slot

  as_long : length row ≡ used
  as_long = length-take-le used slots in_use

  part : mid_of at k row ≡ mid_of at k slots
  part =
      let ends : used ≡ at + k = omega (arith, many, stands) in
      (λ i. take k (drop at (take (ends i) slots))) ∙ ap (take k) (drop-take at k slots)
      ∙ take-take k k (drop at slots) (omega arith)

  in_row : put_mid at k row ys ≡ take at slots ++ ys
  in_row =
      (λ i. take-take at used slots (omega (arith, stands)) i
      ++ (ys ++ drop_all k (drop at row) (omega (arith, length-drop at row, as_long, many)) i))
      ∙ ap (λ zs. take at slots ++ zs) (append-nil ys)

  first : take used next ≡ remove row at ++ its ∷ []
  first =
      take-put_mid at k slots ys used (omega (
        arith,
        length_permutation (mid_of at k slots) ys permuted,
        length-take-le k (drop at slots) (omega (arith, length-drop at slots, in_use, many, stands)),
        many,
        stands,
      )) (omega (arith, stands, in_use))
      ∙ sym in_row
      ∙ put_mid-rotated at k row ys no_slot (omega (arith, as_long, stands)) (omega (arith, as_long, many))
      (turned ∙ (λ i. drop 1 (sym part i) ++ take 1 (sym part i)))

  moved : IsPermutation slots next
  moved = IsPermutation-put_mid at k slots ys permuted

  row_moved : IsPermutation row (take used next)
  row_moved = subst (IsPermutation row) (sym first) (IsPermutation-trans row (its ∷ remove row at)
      (remove row at ++ its ∷ []) (IsPermutation-remove row at its (omega (arith, as_long, stands))
      (get_or_default row at no_slot its (omega (arith, as_long, stands))))
      (IsPermutation-sym (remove row at ++ its ∷ []) (its ∷ remove row at)
      (IsPermutation-to_front (remove row at) its)))

  still_heap : (entries : List Entry) → IsHeap entries slots used → IsHeap entries next used
  still_heap entries heap =
      let same_length : length next ≡ length slots = length_permutation slots next moved in
      record {
        places = record {
          within = All-permutation (λ (slot : Slot). slot.place < length entries) slots next moved heap.places.within;
          apart = λ place. fewer (sum_by-IsPermutation (has_place place) slots next moved) (heap.places.apart place);
        };
        in_use = omega (arith, same_length, heap.in_use);
        all = same_length ∙ heap.all;
        keyed = All-permutation (IsKeyed entries) row (take used next) row_moved heap.keyed;
        few = heap.few;
      }
    where
      fewer : {m n : ℕ} → m ≡ n → n ≤ 1 → m ≤ 1
      fewer same most = omega (arith, same, most)

  pub moved_behind : IsMovedBehind slots next used at
  moved_behind = record {
    as_many = length_permutation slots next moved;
    others = sym (sym (take-take (used - 1) used next (omega arith)) ∙ ap (take (used - 1)) first
        ∙ take_at (remove row at) (its ∷ []) (used - 1) (omega (
          arith,
          length-remove row at
              (omega (arith, as_long, stands)),
          as_long,
        )));
    heap = still_heap;
  }
