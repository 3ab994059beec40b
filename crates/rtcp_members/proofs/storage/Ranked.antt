-- What is read and written at the places of a heap of entries.
use Rattle.std.specs.Prelude.{ℕ, suc, ◌≡◌, ◌<◌, ◌≤◌, ◌+◌, ◌==◌, true, false, cond, Bool, Some, slice_get, List, [], ◌∷◌, ◌++◌, length, take, drop, set, All, slice_index_or, refl}
use Rattle.std.specs.List.{count_by, remove, sum_by}
use Rattle.std.proofs.Common.{inl, inr, arith, sym, ap, subst, ◌∙◌}
use Rattle.std.proofs.lemmas.Bool.{cases_eq}
use Rattle.std.proofs.lemmas.Bool.Decides.{nat_tests}
use Rattle.std.proofs.lemmas.List.{length-set, length-map, length-take-le, map-append, take-map, drop-map, take-take, map-set, get_or-take, get_or-map, get_or-set_same, get_or-set_other, get_or_default, get_or_read, same_lists}
use Rattle.std.proofs.lemmas.List.Edits.{swap_is}
use Rattle.std.proofs.lemmas.List.Sorted.{IsPermutation-swap, sum_by-IsPermutation}
use Rattle.std.specs.List.Sorted.{IsPermutation}
use Rattle.std.proofs.lemmas.List.Sums.{sum_by-set}
use Rattle.std.proofs.lemmas.List.Elements.{All-head, All-tail, All-set, All-take, All-weaker, All-from_get_or}
use Rattle.rtcp_members.specs.declared.entry.Entry.{Entry}
use Rattle.rtcp_members.specs.declared.cells.Cell.{Cell}
use Rattle.rtcp_members.specs.declared.cells.Slot.{Slot}
use Rattle.rtcp_members.specs.storage.Heaps.{no_slot, no_entry, no_cell, entries_in, entry_in, exchanged, picked, in_order, place_at, IsKeyed, IsHeap, IsIndexed}
use Rattle.rtcp_members.specs.declared.counts.Counts.{Counts}
use Rattle.rtcp_members.specs.Entries.{EntryValue, is_member, is_sender}
use Rattle.rtcp_members.specs.ListViews.{entry_value, tally_of, weight_of}
use Rattle.rtcp_members.specs.Pending.{is_due}
use Rattle.rtcp_members.specs.storage.Standing.{AreCounts, AreRecounted, IsAmong}
use Rattle.rtcp_members.proofs.lists.Weights.{tally_at_most, tally_set, weight_within}
use Rattle.rtcp_members.specs.storage.Shelves.{IsChanged}
use Rattle.rtcp_members.specs.storage.SortedViews.{IsRising}
use Rattle.rtcp_members.proofs.storage.Rows.{take_written, entry_written, read_again}
use Rattle.rtcp_members.proofs.sorted.Rising.{rising_set}
use Rattle.std.proofs.lemmas.Option.{slice_get_read}

-- ---- Places

abbrev pub has_place : ℕ → Slot → ℕ
has_place place slot = cond (slot.place == place) 1 0

itself : (place : ℕ) → ◌≡◌ {A = ℕ} (cond (place == place) 1 0) 1
itself place =
    let same : (place == place) ≡ true = grind (arith, nat_tests) in
    ap {B = ℕ} (λ b. cond b 1 0) same

other : (place : ℕ) → ◌≡◌ {A = ℕ} (cond (suc place == place) 1 0) 0
other place =
    let differ : (suc place == place) ≡ false = grind (arith, nat_tests) in
    ap {B = ℕ} (λ b. cond b 1 0) differ

-- Two slots have different places.
pub places_differ : (slots : List Slot) (i j : ℕ) →
    ((place : ℕ) → count_by (λ (slot : Slot). slot.place == place) slots ≤ 1) → (j ≡ i → ⊥) → i < length slots →
    j < length slots → place_at slots j ≡ place_at slots i → ⊥
places_differ slots i j apart unlike below_i below_j same =
    let p : ℕ = place_at slots i in
    let elsewhere : Slot = record { ssrc = 0; place = suc p } in
    let rest : List Slot = set slots i elsewhere in
    let in_rest : j < length rest = omega (arith, length-set slots i elsewhere) in
    let first : sum_by (has_place p) rest + has_place p (slice_index_or slots i no_slot) ≡ sum_by (has_place p)
    slots + has_place p elsewhere = sum_by-set (has_place p) slots i elsewhere no_slot below_i in
    let second : sum_by (has_place p) (set rest j elsewhere) + has_place p (slice_index_or rest j no_slot) ≡ sum_by
    (has_place p) rest + has_place p elsewhere = sum_by-set (has_place p) rest j elsewhere no_slot in_rest in
    let at_i : has_place p (slice_index_or slots i no_slot) ≡ 1 = itself p in
    let away : has_place p elsewhere ≡ 0 = other p in
    let at_j : has_place p (slice_index_or rest j no_slot) ≡ 1 =
    ap (has_place p) (get_or-set_other slots i j elsewhere no_slot unlike) ∙ ap {B = ℕ} (λ q. cond (q == p) 1 0) same
    ∙ itself p in
    let most : sum_by (has_place p) slots ≤ 1 = apart p in
    absurd (omega (arith, first, second, at_i, away, at_j, most))

-- What is read where nothing was written is as it was.
pub picked_same : (entries next : List Entry) (slots : List Slot) →
    All (λ (slot : Slot). entry_in next slot ≡ entry_in entries slot) slots → picked next slots ≡ picked entries slots
picked_same entries next [] all = refl
picked_same entries next (slot ∷ slots) all =
    λ i. All-head (λ (slot : Slot). entry_in next slot ≡ entry_in entries slot) slot slots all i ∷ picked_same entries
    next slots (All-tail (λ (slot : Slot). entry_in next slot ≡ entry_in entries slot) slot slots all) i

-- The entry of a rank is that of its slot.
picked_read : (entries : List Entry) (slots : List Slot) (used k : ℕ) (d : Entry) → used ≤ length slots → k < used →
    slice_index_or (picked entries (take used slots)) k d ≡ entry_in entries (slice_index_or slots k no_slot)
picked_read entries slots used k d in_use less =
    get_or-map (entry_in entries) (take used slots) k no_slot d
    (omega (arith, less, length-take-le used slots in_use))
    ∙ ap (entry_in entries) (get_or-take used slots k no_slot less)

-- There are as many entries as ranks in use.
length_picked : (entries : List Entry) (slots : List Slot) (used : ℕ) → IsHeap entries slots used →
    length (picked entries (take used slots)) ≡ used
length_picked entries slots used heap = length-map (take used slots) (entry_in entries)
    ∙ length-take-le used slots heap.in_use

module _ (entries : List Entry) (slots : List Slot) (used at : ℕ) (heap : IsHeap entries slots used)
    (early : at < used) where
  pub place_within : place_at slots at < length entries
  place_within = heap.places.within at no_slot (omega (arith, early, heap.in_use))

  pub read_at : (d : Entry) → slice_index_or entries (place_at slots at) d ≡ slice_index_or
      (picked entries (take used slots)) at d
  read_at d =
      get_or_default entries (place_at slots at) d no_entry place_within
      ∙ sym (picked_read entries slots used at d heap.in_use early)

  module _ (e : Entry) where
    abbrev next : List Entry
    next = set entries (place_at slots at) e

    here : entry_in next (slice_index_or slots at no_slot) ≡ e
    here = get_or-set_same entries (place_at slots at) e no_entry place_within

    elsewhere_same : (k : ℕ) → (k ≡ at → ⊥) → k < used →
        entry_in next (slice_index_or slots k no_slot) ≡ entry_in entries (slice_index_or slots k no_slot)
    elsewhere_same k unlike less =
        get_or-set_other entries (place_at slots at) (place_at slots k) e no_entry
        (places_differ slots at k heap.places.apart unlike (omega (arith, early, heap.in_use))
        (omega (arith, less, heap.in_use)))

    pub set_picked : picked next (take used slots) ≡ set (picked entries (take used slots)) at e
    set_picked =
        same_lists (picked next (take used slots)) (set (picked entries (take used slots)) at e)
        (length-map (take used slots) (entry_in next)
        ∙ sym (length-set (picked entries (take used slots)) at e
        ∙ length-map (take used slots) (entry_in entries)))
        (λ k d within. by_rank k d (omega (
          arith,
          within,
          length-map (take used slots) (entry_in next),
          length-take-le used slots heap.in_use,
        )))
      where
        by_rank : (k : ℕ) (d : Entry) → k < used → slice_index_or (picked next (take used slots)) k d ≡ slice_index_or
            (set (picked entries (take used slots)) at e) k d
        by_rank k d less = elim (cases_eq k at) [
          | inl same ↦ picked_read next slots used k d heap.in_use less
              ∙ ap (λ n. entry_in next (slice_index_or slots n no_slot)) same ∙ here
              ∙ sym (get_or-set_same (picked entries (take used slots)) at e d
              (omega (arith, early, length_picked entries slots used heap)))
              ∙ ap (λ n. slice_index_or (set (picked entries (take used slots)) at e) n d) (sym same)
          | inr unlike ↦ picked_read next slots used k d heap.in_use less ∙ elsewhere_same k unlike less
              ∙ sym (picked_read entries slots used k d heap.in_use less)
              ∙ sym (get_or-set_other (picked entries (take used slots)) at k e d unlike)
        ]

    keyed_at : (d : Entry) → e.ssrc ≡ (slice_index_or (picked entries (take used slots)) at d).ssrc →
        All (IsKeyed next) (take used slots)
    keyed_at d same = All-from_get_or (IsKeyed next) (take used slots) no_slot
        (λ k within. by_rank k (omega (arith, within, length-take-le used slots heap.in_use)))
      where
        was : (k : ℕ) → k < used → (slice_index_or slots k no_slot).ssrc
            ≡ (entry_in entries (slice_index_or slots k no_slot)).ssrc
        was k less = subst (IsKeyed entries) (get_or-take used slots k no_slot less)
            (heap.keyed k no_slot (omega (arith, less, length-take-le used slots heap.in_use)))

        is : (k : ℕ) → k < used → IsKeyed next (slice_index_or slots k no_slot)
        is k less = elim (cases_eq k at) [
          | inl equal ↦ was k less ∙ ap (λ n. (entry_in entries (slice_index_or slots n no_slot)).ssrc) equal
              ∙ ap (λ (x : Entry). x.ssrc) (get_or_default entries (place_at slots at) no_entry d place_within
              ∙ read_at d) ∙ sym same ∙ ap (λ (x : Entry). x.ssrc) (sym here)
              ∙ ap (λ n. (entry_in next (slice_index_or slots n no_slot)).ssrc) (sym equal)
          | inr unlike ↦ was k less ∙ ap (λ (x : Entry). x.ssrc) (sym (elsewhere_same k unlike less))
        ]

        by_rank : (k : ℕ) → k < used → IsKeyed next (slice_index_or (take used slots) k no_slot)
        by_rank k less = subst (IsKeyed next) (sym (get_or-take used slots k no_slot less)) (is k less)

    pub heap_at : (d : Entry) → e.ssrc ≡ (slice_index_or (picked entries (take used slots)) at d).ssrc →
        IsHeap next slots used
    heap_at d same =
        let same_length = length-set entries (place_at slots at) e in
        record {
          places = record {
            within = All-weaker (λ (slot : Slot). slot.place < length entries)
                (λ (slot : Slot). slot.place < length next)
                (λ slot less. omega (arith, less, same_length)) slots heap.places.within;
            apart = heap.places.apart;
          };
          in_use = heap.in_use;
          all = heap.all ∙ sym same_length;
          keyed = keyed_at d same;
          few = omega (arith, heap.few, same_length);
        }

-- ---- The entry of a rank, among cells

-- What is read as the cell of a rank.
pub record IsAtRank (cells : List Cell) (slots : List Slot) (used at : ℕ) (slot : Slot) (cell : Cell) : Type 0 where
  pub heap : IsHeap (entries_in cells) slots used
  pub early : at < used
  pub its : slot ≡ slice_index_or slots at no_slot
  pub read : cell ≡ slice_index_or cells slot.place cell

pub at_rank : (cells : List Cell) (slots : List Slot) (used at : ℕ) (slot : Slot) (d : Cell) →
    IsHeap (entries_in cells) slots used →
    at < used → slot ≡ slice_index_or slots at no_slot → IsAtRank cells slots used at slot
    (slice_index_or cells slot.place d)
at_rank cells slots used at slot d heap early its =
    record { heap = heap; early = early; its = its; read = read_again cells slot.place d }

pub length_ranked : (cells : List Cell) (slots : List Slot) (used : ℕ) → IsHeap (entries_in cells) slots used →
    length (in_order cells slots used) ≡ used
length_ranked cells slots used heap = length_picked (entries_in cells) slots used heap

module _ {cells : List Cell} {slots : List Slot} {used at : ℕ} {slot : Slot} {cell : Cell}
    (so : IsAtRank cells slots used at slot cell) where
  heap : IsHeap (entries_in cells) slots used
  heap = so.heap

  pub stands : at < length (in_order cells slots used)
  stands = omega (arith, so.early, length_ranked cells slots used heap)

  its_place : slot.place ≡ place_at slots at
  its_place = ap (λ (s : Slot). s.place) so.its

  pub in_cells : slot.place < length cells
  in_cells = omega (
    arith,
    its_place,
    place_within (entries_in cells) slots used at heap so.early,
    length-map cells (λ (c : Cell). c.entry),
  )

  -- What is read there is the entry of the rank.
  pub read_ranked : (d : Entry) → cell.entry ≡ slice_index_or (in_order cells slots used) at d
  read_ranked d =
      ap (λ (c : Cell). c.entry) (get_or_read cells slot.place cell in_cells so.read no_cell)
      ∙ sym (get_or-map (λ (c : Cell). c.entry) cells slot.place no_cell d in_cells)
      ∙ ap (λ n. slice_index_or (entries_in cells) n d) its_place
      ∙ read_at (entries_in cells) slots used at heap so.early d

  got : slice_get (in_order cells slots used) at ≡ Some cell.entry
  got = slice_get_read (in_order cells slots used) (length (in_order cells slots used)) at cell.entry refl stands
      (read_ranked cell.entry)

  counted_within : (test : EntryValue → Bool) → weight_of test cell.entry ≤ tally_of test (in_order cells slots used)
  counted_within test = weight_within test (in_order cells slots used) at cell.entry got

  pub among_ranked : (counts : Counts) → AreCounts counts (in_order cells slots used) → IsAmong cell.entry counts
  among_ranked counts counted = record {
    members = omega (arith, counted_within is_member, counted.members);
    senders = omega (arith, counted_within is_sender, counted.senders);
    due = omega (arith, counted_within is_due, counted.due);
  }

  pub few_counted : (test : EntryValue → Bool) → tally_of test (in_order cells slots used) ≤ 1024
  few_counted test = omega (
    arith,
    tally_at_most test (in_order cells slots used),
    length_ranked cells slots used heap,
    heap.in_use,
    heap.all,
    heap.few,
  )

  -- What is written there, of the same source, is the entry of the rank.
  module _ (e : Entry) (same : e.ssrc ≡ cell.entry.ssrc) where
    abbrev after : List Cell
    after = set cells slot.place (record cell { entry = e })

    entries_after : entries_in after ≡ set (entries_in cells) (place_at slots at) e
    entries_after = entry_written cells slot.place (record cell { entry = e })
        ∙ ap (λ place. set (entries_in cells) place e) its_place

    pub written_ranked : in_order after slots used ≡ set (in_order cells slots used) at e
    written_ranked =
        ap (λ es. picked es (take used slots)) entries_after ∙ set_picked (entries_in cells)
        slots used at heap so.early e

    its_ssrc : (d : Entry) → e.ssrc ≡ (slice_index_or (in_order cells slots used) at d).ssrc
    its_ssrc d = same ∙ ap (λ (x : Entry). x.ssrc) (read_ranked d)

    pub heap_written : IsHeap (entries_in after) slots used
    heap_written = subst (λ es. IsHeap es slots used) (sym entries_after)
        (heap_at (entries_in cells) slots used at heap so.early e cell.entry (its_ssrc cell.entry))

    pub still_indexed : IsRising (in_order cells slots used) → IsIndexed after slots used
    still_indexed rising = record {
      heap = heap_written;
      rising = subst IsRising (sym written_ranked)
          (rising_set (in_order cells slots used) at cell.entry e rising got same);
    }

    pub changed_ranked : (change : EntryValue → EntryValue) → entry_value e ≡ change (entry_value cell.entry)
        → IsChanged change (in_order cells slots used) (in_order after slots used) at
    changed_ranked change value =
        record {
          entry = e;
          items = written_ranked;
          ssrc = its_ssrc;
          value = λ d. value
              ∙ ap (λ (x : Entry). change (entry_value x)) (read_ranked d);
        }

    one_recounted : (test : EntryValue → Bool) (old new : ℕ) → old ≡ tally_of test (in_order cells slots used)
        → new + weight_of test cell.entry ≡ old + weight_of test e → new ≡ tally_of test (in_order after slots used)
    one_recounted test old new was moved =
        omega (
          arith,
          was,
          moved,
          tally_set test (in_order cells slots used) at cell.entry e got,
          ap (tally_of test) written_ranked,
        )

    pub recounted_ranked : (counts next : Counts) → AreCounts counts (in_order cells slots used)
        → AreRecounted cell.entry e counts next → AreCounts next (in_order after slots used)
    recounted_ranked counts next so made =
        record {
          members = one_recounted is_member counts.members next.members so.members made.members;
          senders = one_recounted is_sender counts.senders next.senders so.senders made.senders;
          due = one_recounted is_due counts.due next.due so.due made.due;
        }

-- ---- The ranks of cells

pub length_exchanged : (slots : List Slot) (one other : ℕ) → length (exchanged slots one other) ≡ length slots
length_exchanged slots one other =
    length-set (set slots one (slice_index_or slots other no_slot)) other (slice_index_or slots one no_slot)
    ∙ length-set slots one (slice_index_or slots other no_slot)

-- Fewer ranks may be in use: those that are kept.
module _ (cells : List Cell) (slots : List Slot) (used kept : ℕ) (heap : IsHeap (entries_in cells) slots used)
    (fewer : kept ≤ used) where
  pub first_ranked : take kept (in_order cells slots used) ≡ in_order cells slots kept
  first_ranked = take-map (entry_in (entries_in cells)) kept (take used slots)
      ∙ ap (picked (entries_in cells)) (take-take kept used slots fewer)

  pub heap_first : IsHeap (entries_in cells) slots kept
  heap_first = record {
    places = heap.places;
    in_use = omega (arith, fewer, heap.in_use);
    all = heap.all;
    keyed = subst (All (IsKeyed (entries_in cells))) (take-take kept used slots fewer)
        (All-take (IsKeyed (entries_in cells)) kept (take used slots) heap.keyed);
    few = heap.few;
  }

-- The entries without that of a slot.
pub picked_removed : (entries : List Entry) (slots : List Slot) (at : ℕ) →
    picked entries (remove slots at) ≡ remove (picked entries slots) at
picked_removed entries slots at =
    map-append (entry_in entries) (take at slots) (drop (suc at) slots)
    ∙ (λ i. sym (take-map (entry_in entries) at slots) i ++ sym (drop-map (entry_in entries) (suc at) slots) i)

-- The first slots, where two of them are exchanged.
pub taken_exchanged : (slots : List Slot) (used one other : ℕ) → used ≤ length slots → one < used → other < used →
    take used (exchanged slots one other) ≡ exchanged (take used slots) one other
taken_exchanged slots used one other in_use low high =
    let first : Slot = slice_index_or slots one no_slot in
    let second : Slot = slice_index_or slots other no_slot in
    take_written (set slots one second) used other first high (omega (arith, in_use, length-set slots one second))
    ∙ ap (λ xs. set xs other first) (take_written slots used one second low in_use)
    ∙ (λ i. set (set (take used slots) one (sym (get_or-take used slots other no_slot high) i)) other
    (sym (get_or-take used slots one no_slot low) i))

-- The slots of two ranks are exchanged.
module _ (entries : List Entry) (slots : List Slot) (used one other : ℕ) (heap : IsHeap entries slots used)
    (low : one < used) (high : other < used) where
  abbrev first : Slot
  first = slice_index_or slots one no_slot

  abbrev second : Slot
  second = slice_index_or slots other no_slot

  abbrev swapped : List Slot
  swapped = exchanged slots one other

  in_used : take used swapped ≡ exchanged (take used slots) one other
  in_used = taken_exchanged slots used one other heap.in_use low high

  -- So are their entries.
  pub exchanged_ranked : (d : Entry) → picked entries (take used swapped)
      ≡ set (set (picked entries (take used slots)) one (slice_index_or (picked entries (take used slots)) other d))
      other (slice_index_or (picked entries (take used slots)) one d)
  exchanged_ranked d =
      let row : List Slot = take used slots in
      let within : (k : ℕ) → k < used → k < length row = λ k less. omega
      (arith, less, length-take-le used slots heap.in_use) in
      ap (picked entries) in_used
      ∙ map-set (entry_in entries) (set row one (slice_index_or row other no_slot)) other
      (slice_index_or row one no_slot)
      ∙ ap (λ xs. set xs other (entry_in entries (slice_index_or row one no_slot))) (map-set (entry_in entries) row one
      (slice_index_or row other no_slot))
      ∙ (λ i. set (set (picked entries row) one
      (sym (get_or-map (entry_in entries) row other no_slot d (within other high)) i)) other
      (sym (get_or-map (entry_in entries) row one no_slot d (within one low)) i))

  moved : IsPermutation slots swapped
  moved =
      let one_in : one < length slots = omega (arith, low, heap.in_use) in
      let other_in : other < length slots = omega (arith, high, heap.in_use) in
      IsPermutation-swap slots swapped one other one_in other_in (swap_is slots one other no_slot one_in other_in)

  pub heap_exchanged : IsHeap entries swapped used
  heap_exchanged =
      let within = heap.places.within in
      let P : Slot → Type 0 = λ slot. slot.place < length entries in
      let same_length : length swapped ≡ length slots = length_exchanged slots one other in
      record {
        places = record {
          within = All-set P (set slots one second) other first (within one no_slot (omega (arith, low, heap.in_use)))
              (All-set P slots one second (within other no_slot (omega (arith, high, heap.in_use))) within);
          apart = λ p. fewer p (sum_by-IsPermutation (has_place p) slots swapped moved) (heap.places.apart p);
        };
        in_use = omega (arith, same_length, heap.in_use);
        all = same_length ∙ heap.all;
        keyed = subst (All (IsKeyed entries)) (sym in_used)
            (All-set (IsKeyed entries) (set (take used slots) one (slice_index_or (take used slots) other no_slot))
            other (slice_index_or (take used slots) one no_slot) (keyed_read one low)
            (All-set (IsKeyed entries) (take used slots) one (slice_index_or (take used slots) other no_slot)
            (keyed_read other high) heap.keyed));
        few = heap.few;
      }
    where
      keyed_read : (k : ℕ) → k < used → IsKeyed entries (slice_index_or (take used slots) k no_slot)
      keyed_read k less = heap.keyed k no_slot (omega (arith, less, length-take-le used slots heap.in_use))

      fewer : (p : ℕ) → sum_by (has_place p) swapped ≡ sum_by (has_place p) slots → sum_by (has_place p) slots ≤ 1 →
          sum_by (has_place p) swapped ≤ 1
      fewer p same most = omega (arith, same, most)
