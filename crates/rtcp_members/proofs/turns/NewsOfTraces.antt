-- The pending sources of a table, as a list over the names of its trace.
use Rattle.std.proofs.Common.{◌≡◌, ℕ, zero, suc, take, ◌<◌, Bool, true, false, T, cond, if◌then◌else◌, not, ◌||◌, ◌==◌, nat_lt, nat_cmp, is_lt, List, [], ◌∷◌, ◌++◌, filter, filter_map, map, Option, Some, None, is_some, option_map, option_and_then, append-nil, arith, refl, sym, ap, ◌∙◌}
use Rattle.std.proofs.lemmas.Bool.{or_parts}
use Rattle.std.proofs.lemmas.Bool.Decides.{nat_tests}
use Rattle.std.specs.List.{All, cons_option}
use Rattle.std.proofs.lemmas.List.{take-map}
use Rattle.std.proofs.lemmas.List.Elements.{All-nil, All-cons, All-head, All-tail, All-append, All-filter}
use Rattle.std.specs.Cmp.{nat_cmp_total}
use Rattle.std.specs.FinMap as finite
use Rattle.std.specs.FinMap.{nat_cmp-IsAntisymmetric}
use Rattle.std.specs.FinMap.Entries.{below_all}
use Rattle.rtcp_source.specs.Packets.{has_news_since}
use Rattle.rtcp_source.specs.ReportBlocks.{block_over}
use Rattle.rtcp_source.proofs.LawLemmas.{summary_suffices-block, summary_suffices-news}
use Rattle.rtcp_members.specs.Traces.{TraceStep, names}
use Rattle.rtcp_members.specs.Stays.{before_mark, is_before, stay_of}
use Rattle.rtcp_members.specs.Entries.{EntryValue, given_of, entry_of, entry_at, is_such}
use Rattle.rtcp_members.specs.Tables.{EntryMap, TableValue, StandsAt}
use Rattle.rtcp_members.specs.Pending.{EntryRow, is_due, due_rows, is_above, pending, blocks_of, pending_rows_at}
use Rattle.rtcp_members.specs.News.{is_due_by, blocks_at, put_rising, rising, pending_at, is_after}
use Rattle.rtcp_members.proofs.maps.Counting.{has, IsOnce}
use Rattle.rtcp_members.proofs.turns.LeastDue.{is_less, joined}
use Rattle.rtcp_members.proofs.stays.Naming.{names_are_once, present_is_named}
use Rattle.rtcp_members.proofs.standing.Following.{is_some_mapped}
use Rattle.rtcp_members.proofs.StepByStep.{either_way}
use Rattle.rtcp_members.proofs.stays.Staying.{such_by_stay}
use Rattle.rtcp_members.proofs.standing.TraceTables.{row_by, found_by, entry_if_named}

-- ---- Rising numbers

abbrev AreAbove : ℕ → List ℕ → Type 0
AreAbove x [] = Unit {0}
AreAbove x (y ∷ ys) = (x < y) × AreAbove x ys

abbrev AreRising : List ℕ → Type 0
AreRising [] = Unit {0}
AreRising (x ∷ xs) = AreAbove x xs × AreRising xs

has_put : (q x : ℕ) (ys : List ℕ) → has q (put_rising x ys) ≡ ((x == q) || has q ys)
has_put q x [] = refl
has_put q x (y ∷ ys) =
    elim (nat_lt x y) as (λ b. has q (if b then x ∷ y ∷ ys else y ∷ put_rising x ys)
    ≡ ((x == q) || ((y == q) || has q ys))) [
      | true ↦ refl
      | false ↦ ap (λ b. (y == q) || b) (has_put q x ys) ∙ either_way (y == q) (x == q) (has q ys)
    ]

has_rising : (q : ℕ) (xs : List ℕ) → has q (rising xs) ≡ has q xs
has_rising q [] = refl
has_rising q (x ∷ xs) = has_put q x (rising xs) ∙ ap (λ b. (x == q) || b) (has_rising q xs)

above_more : (low high : ℕ) (xs : List ℕ) → low < high → AreAbove high xs → AreAbove low xs
above_more low high [] less above = tt
above_more low high (x ∷ xs) less above = (omega (arith, less, above.0), above_more low high xs less above.1)

above_put : (low x : ℕ) (ys : List ℕ) → low < x → AreAbove low ys → AreAbove low (put_rising x ys)
above_put low x [] less above = (less, tt)
above_put low x (y ∷ ys) less above =
    elim (nat_lt x y) as (λ b. AreAbove low (if b then x ∷ y ∷ ys else y ∷ put_rising x ys)) [
      | true ↦ (less, above)
      | false ↦ (above.0, above_put low x ys less above.1)
    ]

rising_put : (x : ℕ) (ys : List ℕ) → has x ys ≡ false → AreRising ys → AreRising (put_rising x ys)
rising_put x [] new are = (tt, tt)
rising_put x (y ∷ ys) new are =
    let parts = or_parts (y == x) _ new in
    elim (nat_lt x y) as (λ b. nat_lt x y ≡ b → AreRising (if b then x ∷ y ∷ ys else y ∷ put_rising x ys)) [
      | true ↦ λ is. let less : x < y = grind (arith, nat_tests, is) in ((less, above_more x y ys less are.0), are)
      | false ↦ λ is. let less : y < x = grind (arith, nat_tests, is, parts.0) in
          (above_put y x ys less are.0, rising_put x ys parts.1 are.1)
    ] refl

are_rising : (xs : List ℕ) → IsOnce xs → AreRising (rising xs)
are_rising [] once = tt
are_rising (x ∷ xs) once = rising_put x (rising xs) (has_rising x xs ∙ once.0) (are_rising xs once.1)

-- ---- Their rows

module _ (entry : ℕ → Option EntryValue) where
  abbrev rows : List ℕ → List EntryRow
  rows ssrcs = filter_map (row_by entry) ssrcs

  below_rows : (x : ℕ) (xs : List ℕ) → AreAbove x xs → T (below_all nat_cmp x (rows xs))
  below_rows x [] above = tt
  below_rows x (y ∷ ys) above =
      let rest = below_rows x ys above.1 in
      elim (entry y) as (λ (o : Option EntryValue). T
      (below_all nat_cmp x (cons_option (option_map (λ e. (y, e)) o) (rows ys)))) [
        | None ↦ rest
        | Some e ↦ joined (is_lt (nat_cmp x y)) _ (is_less x y above.0) rest
      ]

  sorted_rows : (xs : List ℕ) → AreRising xs → T (finite.is_sorted nat_cmp (rows xs))
  sorted_rows [] are = tt
  sorted_rows (x ∷ xs) are =
      let rest = sorted_rows xs are.1 in
      elim (entry x) as (λ (o : Option EntryValue). T
      (finite.is_sorted nat_cmp (cons_option (option_map (λ e. (x, e)) o) (rows xs)))) [
        | None ↦ rest
        | Some e ↦ joined (below_all nat_cmp x (rows xs)) _ (below_rows x xs are.0) rest
      ]

  -- a test of rows, and one of SSRCs that says the same where there is an entry
  rows_kept : (test : EntryRow → Bool) (such : ℕ → Bool) →
      ((x : ℕ) (e : EntryValue) → entry x ≡ Some e → test (x, e) ≡ such x) → (xs : List ℕ) →
      filter test (rows xs) ≡ rows (filter such xs)
  rows_kept test such same [] = refl
  rows_kept test such same (x ∷ xs) =
      let rest = rows_kept test such same xs in
      elim (entry x) as (λ (o : Option EntryValue). entry x ≡ o →
      filter test (cons_option (option_map (λ e. (x, e)) o) (rows xs)) ≡ rows
      (cond (such x) (x ∷ filter such xs) (filter such xs))) [
        | None ↦ λ is. rest ∙ elim (such x) as (λ b. rows (filter such xs) ≡ rows
            (cond b (x ∷ filter such xs) (filter such xs))) [
              | true ↦ ap (λ (o : Option EntryValue). cons_option (option_map (λ e. (x, e)) o) (rows (filter such xs)))
                  (sym is)
              | false ↦ refl
            ]
        | Some e ↦ λ is.
            ap (λ b. cond b ((x, e) ∷ filter test (rows xs)) (filter test (rows xs))) (same x e is)
            ∙ elim (such x) as (λ b. cond b ((x, e) ∷ filter test (rows xs)) (filter test (rows xs)) ≡ rows
            (cond b (x ∷ filter such xs) (filter such xs))) [
              | true ↦ ap (λ (t : List EntryRow). (x, e) ∷ t) rest
                  ∙ ap (λ (o : Option EntryValue). cons_option (option_map (λ e. (x, e)) o) (rows (filter such xs)))
                  (sym is)
              | false ↦ rest
            ]
      ] refl

  rows_joined : (xs ys : List ℕ) → rows xs ++ rows ys ≡ rows (xs ++ ys)
  rows_joined [] ys = refl
  rows_joined (x ∷ xs) ys =
      let rest = rows_joined xs ys in
      elim (entry x) as (λ (o : Option EntryValue). cons_option (option_map (λ e. (x, e)) o) (rows xs) ++ rows ys
      ≡ cons_option (option_map (λ e. (x, e)) o) (rows (xs ++ ys))) [
        | None ↦ rest
        | Some e ↦ ap (λ (t : List EntryRow). (x, e) ∷ t) rest
      ]

  abbrev Has : ℕ → Type 0
  Has x = is_some (entry x) ≡ true

  ssrcs_of_rows : (xs : List ℕ) → All Has xs → map (λ (row : EntryRow). row.0) (rows xs) ≡ xs
  ssrcs_of_rows [] all = refl
  ssrcs_of_rows (x ∷ xs) all =
      let rest = ssrcs_of_rows xs (All-tail Has x xs all) in
      elim (entry x) as (λ (o : Option EntryValue). is_some o ≡ true →
      map (λ (row : EntryRow). row.0) (cons_option (option_map (λ e. (x, e)) o) (rows xs)) ≡ x ∷ xs) [
        | None ↦ λ h. absurd cc
        | Some e ↦ λ h. ap (λ (t : List ℕ). x ∷ t) rest
      ] (All-head Has x xs all)

  have_passing : (such : ℕ → Bool) → ((x : ℕ) → such x ≡ true → Has x) → (xs : List ℕ) → All Has (filter such xs)
  have_passing such some [] = All-nil Has
  have_passing such some (x ∷ xs) =
      let rest = have_passing such some xs in
      elim (such x) as (λ b. such x ≡ b → All Has (cond b (x ∷ filter such xs) (filter such xs))) [
        | true ↦ λ is. All-cons Has x (filter such xs) (some x is) rest
        | false ↦ λ _. rest
      ] refl

-- ---- The entries of a table, by the names of its trace

module _ (table : TableValue) (trace : List TraceStep) (stands : StandsAt table trace) where
  abbrev entry : ℕ → Option EntryValue
  entry = entry_at table.capacity trace

  abbrev ordered : List ℕ
  ordered = rising (names trace)

  present_is_ordered : (ssrc : ℕ) → is_some (entry ssrc) ≡ true → has ssrc ordered ≡ true
  present_is_ordered ssrc some =
      has_rising ssrc (names trace) ∙ present_is_named table.capacity trace ssrc
      (sym (is_some_mapped (entry_of ssrc) (stay_of table.capacity trace ssrc)) ∙ some)

  are_sorted : T (finite.is_sorted nat_cmp (rows entry ordered))
  are_sorted = sorted_rows entry ordered (are_rising (names trace) (names_are_once trace))

  ordered_map : EntryMap
  ordered_map = finite.from_sorted (rows entry ordered)

  found_in_order : (ssrc : ℕ) → finite.get ordered_map ssrc ≡ entry ssrc
  unfolding ordered_map
  found_in_order ssrc =
      finite.get-from_sorted nat_cmp (rows entry ordered) ssrc are_sorted
      ∙ found_by entry ordered ssrc
      ∙ entry_if_named (has ssrc ordered) (entry ssrc) (present_is_ordered ssrc)

  entries_in_order : finite.entries table.entries ≡ rows entry ordered
  unfolding ordered_map
  entries_in_order =
      ap finite.entries (finite.same_map nat_cmp_total nat_cmp-IsAntisymmetric table.entries ordered_map
      (λ ssrc. stands ssrc ∙ sym (found_in_order ssrc)))
      ∙ finite.entries-from_sorted nat_cmp (rows entry ordered) are_sorted

-- ---- News, by stays

pub due_at_trace : (capacity : ℕ) (trace : List TraceStep) (ssrc : ℕ) →
    is_such is_due (entry_at capacity trace ssrc) ≡ is_due_by capacity trace ssrc
due_at_trace capacity trace ssrc =
    such_by_stay is_due (λ ssrc stay. has_news_since (given_of ssrc stay)) ssrc
    (λ stay. summary_suffices-news (given_of ssrc stay)) (λ own mark. refl) capacity trace

-- ---- Turns

none_pass : (xs : List ℕ) → filter (λ _. false) xs ≡ []
none_pass [] = refl
none_pass (x ∷ xs) = none_pass xs

-- Where none was reported, none is below it or all are above it.
same_turn : (last : Option ℕ) (xs : List ℕ) → filter (is_after last) xs ++ filter (λ x. not (is_after last x)) xs
    ≡ filter (is_before last) xs ++ filter (λ x. not (is_before last x)) xs
same_turn (Some m) xs = refl
same_turn None xs = ap (λ (ys : List ℕ). filter (λ _. true) xs ++ ys) (none_pass xs)
    ∙ append-nil (filter (λ _. true) xs) ∙ ap (λ (ys : List ℕ). ys ++ filter (λ _. true) xs) (sym (none_pass xs))

module _ (last : Option ℕ) (table : TableValue) (trace : List TraceStep) (stands : StandsAt table trace) where
  abbrev entries : ℕ → Option EntryValue
  entries = entry_at table.capacity trace

  abbrev news : List ℕ
  news = filter (is_due_by table.capacity trace) (rising (names trace))

  due_are_news : due_rows table ≡ rows entries news
  due_are_news =
      ap (λ (t : List EntryRow). filter (λ (row : EntryRow). is_due row.1) t) (entries_in_order table trace stands)
      ∙ rows_kept entries (λ (row : EntryRow). is_due row.1) (is_due_by table.capacity trace)
      (λ ssrc e is. ap (is_such is_due) (sym is) ∙ due_at_trace table.capacity trace ssrc)
      (rising (names trace))

  pub pending_is_traced : pending last table ≡ pending_rows_at last table.capacity trace
  pending_is_traced =
      (λ i. filter (λ (row : EntryRow). is_after last row.0) (due_are_news i) ++ filter
      (λ (row : EntryRow). not (is_after last row.0)) (due_are_news i))
      ∙ (λ i. rows_kept entries (is_above last) (is_after last) (λ ssrc e is. refl) news i ++ rows_kept entries
      (λ row. not (is_above last row)) (λ ssrc. not (is_after last ssrc)) (λ ssrc e is. refl) news i)
      ∙ rows_joined entries (filter (is_after last) news) (filter (λ ssrc. not (is_after last ssrc)) news)
      ∙ ap (rows entries) (same_turn last news)

such_is_there : (test : EntryValue → Bool) (entry : Option EntryValue) → is_such test entry ≡ true →
    is_some entry ≡ true
such_is_there test None h = absurd cc
such_is_there test (Some e) h = refl

-- Each source that is pending has an entry, so the rows are those of all of them.
module _ (last : Option ℕ) (capacity : ℕ) (trace : List TraceStep) where
  pending_are_there : All (Has (entry_at capacity trace)) (pending_at last capacity trace)
  pending_are_there =
      let entry : ℕ → Option EntryValue = entry_at capacity trace in
      let all = have_passing entry (is_due_by capacity trace)
      (λ ssrc news. such_is_there is_due (entry ssrc) (due_at_trace capacity trace ssrc ∙ news))
      (rising (names trace)) in
      All-append (Has entry) _ _ (All-filter (is_before last) (Has entry) _ all)
      (All-filter (λ ssrc. not (is_before last ssrc)) (Has entry) _ all)

  pub pending_have_rows : map (λ (row : EntryRow). row.0) (pending_rows_at last capacity trace)
      ≡ pending_at last capacity trace
  pending_have_rows = ssrcs_of_rows (entry_at capacity trace) (pending_at last capacity trace) pending_are_there

-- ---- Their blocks

module _ (t capacity : ℕ) (trace : List TraceStep) where
  -- those of the first of the rows
  blocks_taken : (most : ℕ) (ssrcs : List ℕ) → All (Has (entry_at capacity trace)) ssrcs →
      blocks_of t (take most (rows (entry_at capacity trace) ssrcs)) ≡ blocks_at t capacity trace (take most ssrcs)
  blocks_taken zero ssrcs all = refl
  blocks_taken (suc most) [] all = refl
  blocks_taken (suc most) (ssrc ∷ ssrcs) all =
      let has_entry : ℕ → Type 0 = Has (entry_at capacity trace) in
      let rest = blocks_taken most ssrcs (All-tail has_entry ssrc ssrcs all) in
      let later : List EntryRow = rows (entry_at capacity trace) ssrcs in
      elim (stay_of capacity trace ssrc) as (λ stay. is_some (option_map (entry_of ssrc) stay) ≡ true →
      blocks_of t (take (suc most) (cons_option (option_map (λ e. (ssrc, e)) (option_map (entry_of ssrc) stay)) later))
      ≡ cons_option (option_and_then (λ stay. block_over ssrc t (given_of ssrc (before_mark ssrc stay))) stay)
      (blocks_at t capacity trace (take most ssrcs))) [
        | None ↦ λ h. absurd cc
        | Some stay ↦ λ h i. cons_option (summary_suffices-block (given_of ssrc (before_mark ssrc stay)) ssrc t i)
            (rest i)
      ] (All-head has_entry ssrc ssrcs all)

pub pending_blocks : (t most : ℕ) (last : Option ℕ) (capacity : ℕ) (trace : List TraceStep) →
    blocks_of t (take most (pending_rows_at last capacity trace))
    ≡ blocks_at t capacity trace (take most (pending_at last capacity trace))
pending_blocks t most last capacity trace = blocks_taken t capacity trace most (pending_at last capacity trace)
    (pending_are_there last capacity trace)

pub pending_taken : (most : ℕ) (last : Option ℕ) (capacity : ℕ) (trace : List TraceStep) →
    map (λ (row : EntryRow). row.0) (take most (pending_rows_at last capacity trace))
    ≡ take most (pending_at last capacity trace)
pending_taken most last capacity trace =
    sym (take-map (λ (row : EntryRow). row.0) most (pending_rows_at last capacity trace))
    ∙ ap (take most) (pending_have_rows last capacity trace)
