-- Pending sources: each that is due is pending once, and the others stay pending after the first one's block.
use Rattle.std.proofs.Common.{◌≡◌, ℕ, ◌+◌, ◌<◌, true, false, cond, not, ◌==◌, ◌&&◌, nat_cmp, Less, Equal, Greater, List, [], ◌∷◌, ◌++◌, filter, count_by, Option, Some, None, is_none, is_some, option_and_then, arith, refl, sym, ap, subst, ◌∙◌}
use Rattle.std.proofs.lemmas.Bool.{eqb-true}
use Rattle.std.proofs.lemmas.Bool.Decides.{nat_tests}
use Rattle.std.proofs.lemmas.Cmp.{ranked}
use Rattle.std.proofs.lemmas.List.{append-nil}
use Rattle.std.proofs.lemmas.List.Sums.{sum_by-append, sum_by-cons}
use Rattle.std.specs.Ordering.{eq_by_cmp}
use Rattle.std.specs.Cmp.{nat_cmp_total, unsigned_tied}
use Rattle.std.specs.FinMap as finite
use Rattle.std.specs.FinMap.Entries.{by_order, put}
use Rattle.rtcp_source.specs.Summary.{RunValue}
use Rattle.rtcp_source.specs.Blocks.{news_of}
use Rattle.rtcp_source.specs.Steps.{run_reported}
use Rattle.rtcp_members.specs.Entries.{EntryValue, is_such}
use Rattle.rtcp_members.specs.Tables.{TableValue}
use Rattle.rtcp_members.specs.Pending.{EntryRow, is_due, is_due_at, due_rows, in_turn, pending, reported_entry, with_reported, after_block, block_of_row, block_at}
use Rattle.rtcp_members.proofs.lists.Listing.{tied_itself}
use Rattle.rtcp_members.proofs.turns.TurnsRows.{AllAbove, AllBelow, IsRising, entries_rise, above_lower, above_filter, rising_filter, rising_around, without, without_above, without_middle, turn_after, cut_in_turn, itself_dropped, high_rows, low_rows}

abbrev due_of : List EntryRow → List EntryRow
due_of rows = filter (λ row. is_due row.1) rows

above_due : (ssrc : ℕ) (rows : List EntryRow) → AllAbove ssrc rows → AllAbove ssrc (due_of rows)
above_due ssrc rows h = above_filter (λ row. is_due row.1) ssrc rows h

-- ---- Keys in rows

abbrev pub found : ℕ → List EntryRow → Option EntryValue
found ssrc rows = finite.find nat_cmp ssrc rows

pub not_tied : (x y : ℕ) → (x == y) ≡ false → eq_by_cmp nat_cmp x y ≡ false
not_tied x y other = unsigned_tied x y ∙ other

pub found_above : (ssrc : ℕ) (rows : List EntryRow) → AllAbove ssrc rows → found ssrc rows ≡ None
found_above ssrc [] h = refl
found_above ssrc (row ∷ rows) h = ap (λ b. cond b (Some row.1) (found ssrc rows))
    (not_tied ssrc row.0 (grind (arith, nat_tests, h.0))) ∙ found_above ssrc rows h.1

pub found_middle : (front : List EntryRow) (row : EntryRow) (back : List EntryRow) → AllBelow row.0 front →
    found row.0 (front ++ row ∷ back) ≡ Some row.1
found_middle [] row back h = ap (λ b. cond b (Some row.1) (found row.0 back)) (tied_itself row.0)
found_middle (first ∷ front) row back h =
    ap (λ b. cond b (Some first.1) (found row.0 (front ++ row ∷ back)))
    (not_tied row.0 first.0 (grind (arith, nat_tests, h.0))) ∙ found_middle front row back h.1

abbrev if_due : EntryValue → Option EntryValue
if_due entry = cond (is_due entry) (Some entry) None

-- A due row is found among the due ones where it is found at all.
found_due : (ssrc : ℕ) (rows : List EntryRow) → IsRising rows → found ssrc (due_of rows) ≡ option_and_then if_due
    (found ssrc rows)
found_due ssrc [] h = refl
found_due ssrc (row ∷ rows) h =
    let rest = found_due ssrc rows h.1 in
    elim (eq_by_cmp nat_cmp ssrc row.0) as (λ t. eq_by_cmp nat_cmp ssrc row.0 ≡ t →
    found ssrc (cond (is_due row.1) (row ∷ due_of rows) (due_of rows)) ≡ option_and_then if_due
    (cond t (Some row.1) (found ssrc rows))) [
      | true ↦ λ tied.
          let same : ssrc ≡ row.0 = eqb-true ssrc row.0 (sym (unsigned_tied ssrc row.0) ∙ tied) in
          let none : found ssrc (due_of rows) ≡ None = ap (λ k. found k (due_of rows)) same
          ∙ found_above row.0 (due_of rows) (above_due row.0 rows h.0) in
          elim (is_due row.1) as (λ b. found ssrc (cond b (row ∷ due_of rows) (due_of rows)) ≡ cond b (Some row.1)
          None) [
            | true ↦ ap (λ b. cond b (Some row.1) (found ssrc (due_of rows))) tied
            | false ↦ none
          ]
      | false ↦ λ tied.
          elim (is_due row.1) as (λ b. found ssrc (cond b (row ∷ due_of rows) (due_of rows)) ≡ option_and_then if_due
          (found ssrc rows)) [
            | true ↦ ap (λ b. cond b (Some row.1) (found ssrc (due_of rows))) tied ∙ rest
            | false ↦ rest
          ]
    ] refl

found_if_due : (entry : Option EntryValue) (value : EntryValue) → option_and_then if_due entry ≡ Some value →
    (entry ≡ Some value) × (is_due value ≡ true)
found_if_due None value is = absurd (cc)
found_if_due (Some entry) value is =
    elim (is_due entry) as (λ b. is_due entry ≡ b → cond b (Some entry) None ≡ Some value →
    (Some entry ≡ Some value) × (is_due value ≡ true)) [
      | true ↦ λ due same. (same, cc)
      | false ↦ λ due same. absurd (cc)
    ] refl is

-- ---- The table after a block

not_news : (run : Option RunValue) → news_of (run_reported run) ≡ false
not_news None = refl
not_news (Some run) = grind (arith, nat_tests)

pub not_due : (entry : EntryValue) → is_due (reported_entry entry) ≡ false
not_due entry = ap (λ b. is_none entry.mark && b) (not_news entry.source.run)
    ∙ elim (is_none entry.mark) as (λ b. (b && false) ≡ false) [ true ↦ refl | false ↦ refl ]

-- A row in its place that is not due leaves the others due.
due_put : (ssrc : ℕ) (entry : EntryValue) (rows : List EntryRow) → IsRising rows → is_due entry ≡ false →
    due_of (put nat_cmp ssrc entry rows) ≡ without ssrc (due_of rows)
due_put ssrc entry [] h idle = ap (λ b. cond b ((ssrc, entry) ∷ []) []) idle
due_put ssrc entry (row ∷ rows) h idle =
    let rest = due_put ssrc entry rows h.1 idle in
    elim (nat_cmp ssrc row.0) as (λ o. nat_cmp ssrc row.0 ≡ o →
    due_of (by_order o ((ssrc, entry) ∷ row ∷ rows) ((row.0, entry) ∷ rows) (row ∷ put nat_cmp ssrc entry rows))
    ≡ without ssrc (due_of (row ∷ rows))) [
      | Less ↦ λ is.
          let less : ssrc < row.0 = ranked ssrc row.0 Less (sym is) in
          ap (λ b. cond b ((ssrc, entry) ∷ due_of (row ∷ rows)) (due_of (row ∷ rows))) idle
          ∙ sym (without_above ssrc (due_of (row ∷ rows))
          (above_due ssrc (row ∷ rows) (less, above_lower ssrc row.0 rows less h.0)))
      | Equal ↦ λ is.
          let same : ssrc ≡ row.0 = ranked ssrc row.0 Equal (sym is) in
          let kept : without ssrc (due_of rows) ≡ due_of rows = ap (λ k. without k (due_of rows)) same
          ∙ without_above row.0 (due_of rows) (above_due row.0 rows h.0) in
          ap (λ b. cond b ((row.0, entry) ∷ due_of rows) (due_of rows)) idle
          ∙ sym (elim (is_due row.1) as (λ b. without ssrc (cond b (row ∷ due_of rows) (due_of rows)) ≡ due_of rows) [
            | true ↦ ap (λ k. without k (row ∷ due_of rows)) same ∙ itself_dropped row (due_of rows)
                ∙ ap (λ k. without k (due_of rows)) (sym same) ∙ kept
            | false ↦ kept
          ])
      | Greater ↦ λ is.
          let more : row.0 < ssrc = ranked ssrc row.0 Greater (sym is) in
          let other : not (row.0 == ssrc) ≡ true = grind (arith, nat_tests, more) in
          elim (is_due row.1) as (λ b. cond b (row ∷ due_of (put nat_cmp ssrc entry rows))
          (due_of (put nat_cmp ssrc entry rows)) ≡ without ssrc (cond b (row ∷ due_of rows) (due_of rows))) [
            | true ↦ ap (λ (t : List EntryRow). row ∷ t) rest
                ∙ sym (ap (λ b. cond b (row ∷ without ssrc (due_of rows)) (without ssrc (due_of rows))) other)
            | false ↦ rest
          ]
    ] refl

due_after : (ssrc : ℕ) (entry : EntryValue) (table : TableValue) → finite.get table.entries ssrc ≡ Some entry →
    due_rows (after_block ssrc table) ≡ without ssrc (due_rows table)
due_after ssrc entry table is =
    ap (λ o. due_rows (with_reported ssrc table o)) is
    ∙ ap due_of (finite.entries-insert nat_cmp_total table.entries ssrc (reported_entry entry))
    ∙ due_put ssrc (reported_entry entry) (finite.entries table.entries) (entries_rise table.entries) (not_due entry)

-- ---- The first in turn

-- The due rows before the first in turn stand below it, and those after it above.
record IsFirst (last : Option ℕ) (table : TableValue) (row : EntryRow) (rest : List EntryRow) : Type 0 where
  front : List EntryRow
  back : List EntryRow
  parts : due_rows table ≡ front ++ row ∷ back
  turn : rest ≡ back ++ front
  below : AllBelow row.0 front
  above : AllAbove row.0 back

due_rise : (table : TableValue) → IsRising (due_rows table)
due_rise table = rising_filter _ _ (entries_rise table.entries)

around : (table : TableValue) (front : List EntryRow) (row : EntryRow) (back : List EntryRow) →
    due_rows table ≡ front ++ row ∷ back → AllBelow row.0 front × AllAbove row.0 back
around table front row back parts = rising_around front row back (subst IsRising parts (due_rise table))

first_at : (last : Option ℕ) (table : TableValue) (front : List EntryRow) (row : EntryRow) (back rest : List EntryRow) →
    due_rows table ≡ front ++ row ∷ back → rest ≡ back ++ front → IsFirst last table row rest
first_at last table front row back rest parts turn =
    let order = around table front row back parts in
    record { front = front; back = back; parts = parts; turn = turn; below = order.0; above = order.1 }

first_of : (last : Option ℕ) (table : TableValue) (row : EntryRow) (rest high low : List EntryRow) →
    high ++ low ≡ row ∷ rest → low ++ high ≡ due_rows table → IsFirst last table row rest
first_of last table row rest [] [] is parts = absurd (cc)
first_of last table row rest [] (first ∷ low) is parts =
    let whole : due_rows table ≡ row ∷ rest = sym parts ∙ append-nil (first ∷ low) ∙ is in
    first_at last table [] row rest rest whole (sym (append-nil rest))
first_of last table row rest (first ∷ high) low is parts =
    let same : first ≡ row = cc in
    let others : rest ≡ high ++ low = cc in
    first_at last table low row high rest (sym parts ∙ ap (λ (r : EntryRow). low ++ r ∷ high) same) others

is_first : (last : Option ℕ) (table : TableValue) (row : EntryRow) (rest : List EntryRow) →
    pending last table ≡ row ∷ rest → IsFirst last table row rest
is_first last table row rest is =
    first_of last table row rest (high_rows last (due_rows table)) (low_rows last (due_rows table)) is
    (cut_in_turn last (due_rows table) (due_rise table))

entry_of_first : (last : Option ℕ) (table : TableValue) (row : EntryRow) (rest : List EntryRow) →
    pending last table ≡ row ∷ rest → (finite.get table.entries row.0 ≡ Some row.1) × (is_due row.1 ≡ true)
entry_of_first last table row rest is =
    let at = is_first last table row rest is in
    let here : found row.0 (due_rows table) ≡ Some row.1 = ap (found row.0) at.parts
    ∙ found_middle at.front row at.back at.below in
    let there = found_if_due (found row.0 (finite.entries table.entries)) row.1
    (sym (found_due row.0 (finite.entries table.entries) (entries_rise table.entries)) ∙ here) in
    (finite.get-entries table.entries row.0 ∙ there.0, there.1)

-- ---- The laws

-- The first pending source is in the table, and due.
pub first_is_there : (last : Option ℕ) (table : TableValue) (row : EntryRow) (rest : List EntryRow) →
    pending last table ≡ row ∷ rest → finite.get table.entries row.0 ≡ Some row.1
first_is_there last table row rest is = (entry_of_first last table row rest is).0

pub due_row : (last : Option ℕ) (table : TableValue) (row : EntryRow) (rest : List EntryRow) →
    pending last table ≡ row ∷ rest → is_due_at row.0 table ≡ true
due_row last table row rest is = let there = entry_of_first last table row rest is in ap (is_such is_due) there.0
    ∙ there.1

-- Its block is that of its row.
pub block_of_first : (t : ℕ) (last : Option ℕ) (table : TableValue) (row : EntryRow) (rest : List EntryRow) →
    pending last table ≡ row ∷ rest → block_at row.0 t table ≡ block_of_row t row
block_of_first t last table row rest is = ap (option_and_then (λ entry. block_of_row t (row.0, entry)))
    (first_is_there last table row rest is)

-- After its block the others stay pending, in the same turn.
pub others_wait : (last : Option ℕ) (table : TableValue) (row : EntryRow) (rest : List EntryRow) →
    pending last table ≡ row ∷ rest → pending (Some row.0) (after_block row.0 table) ≡ rest
others_wait last table row rest is =
    let at = is_first last table row rest is in
    ap (in_turn (Some row.0)) (due_after row.0 row.1 table (first_is_there last table row rest is)
    ∙ ap (without row.0) at.parts
    ∙ without_middle at.front row at.back at.below at.above)
    ∙ turn_after row.0 at.front at.back at.below at.above
    ∙ sym at.turn

-- ---- Each once

count_of : ℕ → List EntryRow → ℕ
count_of ssrc rows = count_by (λ (row : EntryRow). row.0 == ssrc) rows

no_more : (n : ℕ) → 0 + n ≡ n
no_more n = omega arith

count_both : (ssrc : ℕ) (xs ys : List EntryRow) → count_of ssrc (xs ++ ys) ≡ count_of ssrc xs + count_of ssrc ys
unfolding count_of
count_both ssrc xs ys = sum_by-append (λ (row : EntryRow). cond (row.0 == ssrc) 1 0) xs ys

count_first : (ssrc : ℕ) (row : EntryRow) (rows : List EntryRow) →
    count_of ssrc (row ∷ rows) ≡ cond (row.0 == ssrc) 1 0 + count_of ssrc rows
unfolding count_of
count_first ssrc row rows = sum_by-cons (λ (row : EntryRow). cond (row.0 == ssrc) 1 0) row rows

none_above : (ssrc : ℕ) (rows : List EntryRow) → AllAbove ssrc rows → count_of ssrc rows ≡ 0
unfolding count_of
none_above ssrc [] h = refl
none_above ssrc (row ∷ rows) h =
    let other : (row.0 == ssrc) ≡ false = grind (arith, nat_tests, h.0) in
    count_first ssrc row rows ∙ (λ i. cond (other i) 1 0 + none_above ssrc rows h.1 i)

-- In rising rows an SSRC is found where it stands, and it stands there once.
counted_found : (ssrc : ℕ) (rows : List EntryRow) → IsRising rows →
    count_of ssrc rows ≡ cond (is_some (found ssrc rows)) 1 0
unfolding count_of
counted_found ssrc [] h = refl
counted_found ssrc (row ∷ rows) h =
    elim (row.0 == ssrc) as (λ b. (row.0 == ssrc) ≡ b →
    count_of ssrc (row ∷ rows) ≡ cond
    (is_some (cond (eq_by_cmp nat_cmp ssrc row.0) (Some row.1) (found ssrc rows))) 1 0) [
      | true ↦ λ is.
          let same : row.0 ≡ ssrc = eqb-true row.0 ssrc is in
          let tied : eq_by_cmp nat_cmp ssrc row.0 ≡ true = ap (λ k. eq_by_cmp nat_cmp k row.0) (sym same)
          ∙ tied_itself row.0 in
          let none : count_of ssrc rows ≡ 0 = ap (λ k. count_of k rows) (sym same) ∙ none_above row.0 rows h.0 in
          count_first ssrc row rows
          ∙ (λ i. cond (is i) 1 0 + none i)
          ∙ sym (ap (λ b. cond (is_some (cond b (Some row.1) (found ssrc rows))) 1 0) tied)
      | false ↦ λ is.
          let apart : (ssrc == row.0) ≡ false = grind (arith, nat_tests, is) in
          count_first ssrc row rows
          ∙ (λ i. cond (is i) 1 0 + counted_found ssrc rows h.1 i)
          ∙ no_more (cond (is_some (found ssrc rows)) 1 0)
          ∙ sym (ap (λ b. cond (is_some (cond b (Some row.1) (found ssrc rows))) 1 0) (not_tied ssrc row.0 apart))
    ] refl

count_turned : (ssrc : ℕ) (xs ys : List EntryRow) → count_of ssrc (xs ++ ys) ≡ count_of ssrc (ys ++ xs)
count_turned ssrc xs ys = omega (arith, count_both ssrc xs ys, count_both ssrc ys xs)

such_found : (entry : Option EntryValue) → is_some (option_and_then if_due entry) ≡ is_such is_due entry
such_found None = refl
such_found (Some entry) = elim (is_due entry) as (λ b. is_some (cond b (Some entry) None) ≡ b) [
  | true ↦ refl
  | false ↦ refl
]

-- Each source that a block is due of is pending once, and no other is.
pub is_pending_once : (last : Option ℕ) (table : TableValue) (ssrc : ℕ) →
    count_by (λ (row : EntryRow). row.0 == ssrc) (pending last table) ≡ cond (is_due_at ssrc table) 1 0
unfolding count_of
is_pending_once last table ssrc =
    count_turned ssrc (high_rows last (due_rows table)) (low_rows last (due_rows table))
    ∙ ap (count_of ssrc) (cut_in_turn last (due_rows table) (due_rise table))
    ∙ counted_found ssrc (due_rows table) (due_rise table)
    ∙ ap (λ o. cond (is_some o) 1 0) (found_due ssrc (finite.entries table.entries) (entries_rise table.entries))
    ∙ ap (λ b. cond b 1 0) (such_found (found ssrc (finite.entries table.entries))
    ∙ ap (is_such is_due) (sym (finite.get-entries table.entries ssrc)))
