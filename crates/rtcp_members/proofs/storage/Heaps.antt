-- A heap of entries into which an entry is put.
use Rattle.std.proofs.Common.{◌≡◌, ◌<◌, ◌≤◌, ◌+◌, ◌==◌, ◌++◌, ℕ, suc, true, false, cond, List, [], ◌∷◌, length, take, drop, set, slice_index_or, inl, inr, arith, refl, sym, ap, subst, ◌∙◌}
use Rattle.std.specs.List.{All, insert, sum_by}
use Rattle.std.proofs.lemmas.Bool.{cases_eq}
use Rattle.std.proofs.lemmas.Bool.Decides.{nat_tests}
use Rattle.std.proofs.lemmas.List.{length-set, length_push, length-append, take-map, drop-map, map-append, take_at, take-append-le, get_or-set_same, get_or-set_other, get_or_append_left, get_or_at, get_or_push}
use Rattle.std.proofs.lemmas.List.Sums.{sum_by-cons, sum_by-append, sum_by-insert}
use Rattle.std.proofs.lemmas.List.Elements.{All-nil, All-head, All-tail, All-cons, All-append, All-take, All-drop, All-weaker, All-same}
use Rattle.std.proofs.lemmas.List.Edits.{length-insert}
use Rattle.rtcp_members.specs.declared.entry.Entry.{Entry}
use Rattle.rtcp_members.specs.declared.cells.Slot.{Slot}
use Rattle.rtcp_members.proofs.storage.Rows.{take_inserted, behind}
use Rattle.rtcp_members.specs.storage.Heaps.{no_slot, no_entry, entry_in, picked, IsKeyed, IsHeap, IsPut}
use Rattle.rtcp_members.proofs.storage.Ranked.{has_place, picked_same}

-- ---- An entry at a new place

below_none : (slots : List Slot) (place : ℕ) → All (λ (slot : Slot). slot.place < place) slots →
    sum_by (has_place place) slots ≡ 0
below_none [] place below = refl
below_none (slot ∷ slots) place below =
    let here : slot.place < place = All-head (λ (slot : Slot). slot.place < place) slot slots below in
    let differs : (slot.place == place) ≡ false = grind (arith, nat_tests, here) in
    let none : has_place place slot ≡ 0 = ap {B = ℕ} (λ b. cond b 1 0) differs in
    omega (
      arith,
      sum_by-cons (has_place place) slot slots,
      none,
      below_none slots place (All-tail (λ (slot : Slot). slot.place < place) slot slots below),
    )

pub put_behind : (entries : List Entry) (slots : List Slot) (used : ℕ) (e : Entry) (next : List Entry) (place : ℕ) →
    IsHeap entries slots used → next ≡ entries ++ e ∷ [] → place ≡ length entries
    → IsPut entries next slots slots used place e
put_behind entries slots used e next place heap is at_end =
    let longer : length next ≡ length entries + 1 = ap length is ∙ length_push entries e in
    record {
      same = λ k d within. ap (λ xs. entry_in xs (slice_index_or slots k d)) is
          ∙ get_or_append_left entries (e ∷ []) no_entry (slice_index_or slots k d).place
          (heap.places.within k d within);
      there = (λ i. slice_index_or (is i) (at_end i) no_entry) ∙ get_or_push entries e no_entry (length entries) refl;
      places = record {
        within = All-weaker (λ (slot : Slot). slot.place < length entries) (λ (slot : Slot). slot.place < length next)
            (λ slot less. omega (arith, less, longer)) slots heap.places.within;
        apart = heap.places.apart;
      };
      within = omega (arith, longer, at_end);
      free = below_none slots place (subst (λ n. All (λ (slot : Slot). slot.place < n) slots) (sym at_end)
          heap.places.within);
      in_use = heap.in_use;
      all = omega (arith, longer, heap.all);
      taken = refl;
    }

away_from : (place : ℕ) (slots : List Slot) → sum_by (has_place place) slots ≡ 0 →
    All (λ (slot : Slot). slot.place ≡ place → ⊥) slots
away_from place [] none = All-nil (λ (slot : Slot). slot.place ≡ place → ⊥)
away_from place (slot ∷ slots) none =
    let sum : sum_by (has_place place) (slot ∷ slots) ≡ has_place place slot + sum_by (has_place place) slots =
    sum_by-cons (has_place place) slot slots in
    All-cons (λ (s : Slot). s.place ≡ place → ⊥) slot slots (λ same. here same (omega (arith, none, sum)))
    (away_from place slots (omega (arith, none, sum)))
  where
    here : slot.place ≡ place → has_place place slot ≡ 0 → ⊥
    here same zero =
        let equal : (slot.place == place) ≡ true = grind (arith, nat_tests, same) in
        let one : has_place place slot ≡ 1 = ap {B = ℕ} (λ b. cond b 1 0) equal in
        absurd (omega (arith, zero, one))

pub put_free : (entries : List Entry) (slots front back : List Slot) (used : ℕ) (free : Slot) (e : Entry) →
    IsHeap entries slots used → slots ≡ front ++ free ∷ back → used ≤ length front
    → IsPut entries (set entries free.place e) slots (front ++ back) used free.place e
put_free entries slots front back used free e heap is fewer =
    let longer : length slots ≡ length front + suc (length back) = ap length is ∙ length-append front (free ∷ back) in
    let others : length (front ++ back) ≡ length front + length back = length-append front back in
    let itself : (free.place == free.place) ≡ true = grind (arith, nat_tests) in
    let one : has_place free.place free ≡ 1 = ap {B = ℕ} (λ b. cond b 1 0) itself in
    let count : (p : ℕ) → sum_by (has_place p) slots ≡ sum_by (has_place p) (front ++ back) + has_place p free =
    λ p. counted p in
    let none : sum_by (has_place free.place) (front ++ back) ≡ 0 = none_left (count free.place) one
    (heap.places.apart free.place) in
    let within : All (λ (s : Slot). s.place < length entries) (front ++ free ∷ back) =
    subst (λ xs. All (λ (s : Slot). s.place < length entries) xs) is heap.places.within in
    let read : slice_index_or (front ++ free ∷ back) (length front) no_slot ≡ free = get_or_at front free back no_slot
    (length front) refl in
    let there : free.place < length entries = subst (λ (s : Slot). s.place < length entries) read
    (within (length front) no_slot (omega (arith, ap length is, longer))) in
    let same_length : length (set entries free.place e) ≡ length entries = length-set entries free.place e in
    record {
      same = All-weaker (λ (slot : Slot). slot.place ≡ free.place → ⊥)
          (λ (slot : Slot). entry_in (set entries free.place e) slot ≡ entry_in entries slot)
          (λ slot unlike. get_or-set_other entries free.place slot.place e no_entry unlike) (front ++ back)
          (away_from free.place (front ++ back) none);
      there = get_or-set_same entries free.place e no_entry there;
      places = record {
        within = All-weaker (λ (s : Slot). s.place < length entries)
            (λ (s : Slot). s.place < length (set entries free.place e)) (λ slot less. omega (arith, less, same_length))
            (front ++ back)
            (All-append (λ (s : Slot). s.place < length entries) front back
            (All-same (λ (s : Slot). s.place < length entries) front (take (length front) (front ++ free ∷ back))
            (sym (take_at front (free ∷ back) (length front) refl))
            (All-take (λ (s : Slot). s.place < length entries) (length front) (front ++ free ∷ back) within))
            (All-same (λ (s : Slot). s.place < length entries) back (drop (suc (length front)) (front ++ free ∷ back))
            (sym (behind front free back)) (All-drop (λ (s : Slot). s.place < length entries) (suc (length front))
            (front ++ free ∷ back) within)));
        apart = λ p. fewer_there p (count p) (heap.places.apart p);
      };
      within = omega (arith, there, same_length);
      free = none;
      in_use = omega (arith, fewer, others);
      all = omega (arith, longer, others, heap.all, same_length);
      taken = take-append-le used front back fewer
          ∙ sym (ap (take used) is ∙ take-append-le used front (free ∷ back) fewer);
    }
  where
    counted : (p : ℕ) → sum_by (has_place p) slots ≡ sum_by (has_place p) (front ++ back) + has_place p free
    counted p =
        let whole : sum_by (has_place p) slots ≡ sum_by (has_place p) front + sum_by (has_place p) (free ∷ back) =
        ap (sum_by (has_place p)) is ∙ sum_by-append (has_place p) front (free ∷ back) in
        let rest : sum_by (has_place p) (free ∷ back) ≡ has_place p free + sum_by (has_place p) back =
        sum_by-cons (has_place p) free back in
        let apart : sum_by (has_place p) (front ++ back) ≡ sum_by (has_place p) front + sum_by (has_place p) back =
        sum_by-append (has_place p) front back in
        omega (arith, whole, rest, apart)

    fewer_there : (p : ℕ) → sum_by (has_place p) slots ≡ sum_by (has_place p) (front ++ back) + has_place p free →
        sum_by (has_place p) slots ≤ 1 → sum_by (has_place p) (front ++ back) ≤ 1
    fewer_there p count most = omega (arith, count, most)

    none_left : sum_by (has_place free.place) slots ≡ sum_by (has_place free.place) (front ++ back) + has_place
        free.place free → has_place free.place free ≡ 1 → sum_by (has_place free.place) slots ≤ 1
        → sum_by (has_place free.place) (front ++ back) ≡ 0
    none_left count one most = omega (arith, count, one, most)

-- ---- Its slot

module _ (entries next : List Entry) (old_slots slots : List Slot) (used at : ℕ) (slot : Slot) (e : Entry)
    (heap : IsHeap entries old_slots used) (put : IsPut entries next old_slots slots used slot.place e)
    (its_ssrc : slot.ssrc ≡ e.ssrc) (in_range : at ≤ used) where
  cut : take (used + 1) (insert slots at slot) ≡ insert (take used slots) at slot
  cut = take_inserted slots used at slot in_range put.in_use

  as_before : picked next (take used slots) ≡ picked entries (take used old_slots)
  as_before =
      picked_same entries next (take used slots)
      (All-take (λ (s : Slot). entry_in next s ≡ entry_in entries s) used slots put.same)
      ∙ ap (picked entries) put.taken

  pub items_inserted : picked next (take (used + 1) (insert slots at slot)) ≡ insert
      (picked entries (take used old_slots)) at e
  items_inserted =
      ap (picked next) cut
      ∙ map-append (entry_in next) (take at (take used slots)) (slot ∷ drop at (take used slots))
      ∙ (λ i. sym (take-map (entry_in next) at (take used slots)) i ++ put.there i ∷ sym
      (drop-map (entry_in next) at (take used slots)) i)
      ∙ ap (λ xs. take at xs ++ e ∷ drop at xs) as_before

  keyed_as_before : All (IsKeyed next) (take used slots)
  keyed_as_before k d within =
      subst (λ xs. All (IsKeyed entries) xs) (sym put.taken) heap.keyed k d within
      ∙ ap (λ (x : Entry). x.ssrc) (sym
      (All-take (λ (s : Slot). entry_in next s ≡ entry_in entries s) used slots put.same k d within))

  counts : (p : ℕ) → sum_by (has_place p) slots ≤ 1 → sum_by (has_place slot.place) slots ≡ 0 →
      sum_by (has_place p) (insert slots at slot) ≡ sum_by (has_place p) slots + has_place p slot →
      sum_by (has_place p) (insert slots at slot) ≤ 1
  counts p most none joined = elim (cases_eq slot.place p) [
    | inl same ↦
        let empty : sum_by (has_place p) slots ≡ 0 = ap (λ q. sum_by (has_place q) slots) (sym same) ∙ none in
        omega (arith, joined, empty, one p)
    | inr unlike ↦ omega (arith, joined, most, elsewhere p unlike)
  ]
    where
      one : (p : ℕ) → has_place p slot ≤ 1
      one p = elim (slot.place == p) as (λ b. ◌≤◌ (cond b 1 0) 1) [ true ↦ omega arith | false ↦ omega arith ]

      elsewhere : (p : ℕ) → (slot.place ≡ p → ⊥) → has_place p slot ≡ 0
      elsewhere p unlike =
          let differs : (slot.place == p) ≡ false = grind (arith, nat_tests, unlike) in
          ap {B = ℕ} (λ b. cond b 1 0) differs

  pub heap_inserted : length next ≤ 1024 → IsHeap next (insert slots at slot) (used + 1)
  heap_inserted few =
      let within : at ≤ length slots = omega (arith, in_range, put.in_use) in
      record {
        places = record {
          within = All-append (λ (s : Slot). s.place < length next) (take at slots) (slot ∷ drop at slots)
              (All-take (λ (s : Slot). s.place < length next) at slots put.places.within)
              (All-cons (λ (s : Slot). s.place < length next) slot (drop at slots) put.within
              (All-drop (λ (s : Slot). s.place < length next) at slots put.places.within));
          apart = λ p. counts p (put.places.apart p) put.free (sum_by-insert (has_place p) slots at slot);
        };
        in_use = omega (arith, put.in_use, length-insert slots at slot within);
        all = length-insert slots at slot within ∙ put.all;
        keyed = All-same (IsKeyed next) (take (used + 1) (insert slots at slot)) (insert (take used slots) at slot) cut
            (All-append (IsKeyed next) (take at (take used slots)) (slot ∷ drop at (take used slots))
            (All-take (IsKeyed next) at (take used slots) keyed_as_before)
            (All-cons (IsKeyed next) slot (drop at (take used slots))
            (its_ssrc ∙ ap (λ (x : Entry). x.ssrc) (sym put.there))
            (All-drop (IsKeyed next) at (take used slots) keyed_as_before)));
        few = few;
      }
