-- What is told of the sources above an SSRC, by rising SSRC.
use Rattle.std.proofs.Common.{◌≡◌, ◌<◌, ℕ, Bool, true, false, cond, ◌==◌, ◌&&◌, ◌+◌, nat_lt, List, [], ◌∷◌, ◌++◌, filter, drop, map, count_by, if◌then◌else◌, inl, inr, Option, Some, None, is_some, option_map, arith, refl, sym, ap, subst, ◌∙◌}
use Rattle.std.proofs.lemmas.Bool.{cases_lt}
use Rattle.std.proofs.lemmas.Bool.Decides.{nat_tests}
use Rattle.std.proofs.lemmas.List.Sums.{sum_by-cons}
use Rattle.std.proofs.lemmas.List.Elements.{filter-append}
use Rattle.std.specs.FinMap as finite
use Rattle.rtcp_source.specs.Receptions.{reception_in, reception_over}
use Rattle.rtcp_source.proofs.LawLemmas.{summary_suffices-reception}
use Rattle.rtcp_members.specs.declared.entry.Entry.{Entry}
use Rattle.rtcp_members.specs.Traces.{TraceStep}
use Rattle.rtcp_members.specs.Stays.{before_mark, stay_of}
use Rattle.rtcp_members.specs.Entries.{EntryValue, entry_of, given_of, is_member, is_sender}
use Rattle.rtcp_members.specs.Tables.{TableValue, IsApart, StandsAt}
use Rattle.rtcp_members.specs.Pending.{EntryRow, first_ssrc, is_above}
use Rattle.rtcp_members.specs.News.{is_after}
use Rattle.rtcp_members.specs.ListViews.{rows_of, map_of, table_of}
use Rattle.rtcp_members.specs.storage.SortedViews as sorted
use Rattle.rtcp_members.specs.Least.{least, state_for}
use Rattle.rtcp_members.specs.Listings.{StateValue, state_of, rows_above, first_state, state_above, states_above, RiseAbove, state_in_stay, IsNextListed, ListsAbove, IsWalk}
use Rattle.rtcp_members.proofs.turns.LeastDue.{first_is_least, none_first}
use Rattle.rtcp_members.proofs.turns.InCyclicTurn.{entries_of_rising}
use Rattle.rtcp_members.proofs.turns.TurnsRows.{AllAbove, AllBelow, IsRising, entries_rise, above_lower, rising_around, filter_all, filter_none, passes_above, fails_below, cut_in_turn, low_rows}
use Rattle.rtcp_members.proofs.turns.Turns.{found, found_above, found_middle, not_tied}

-- ---- The first row above

passes_first : (test : EntryRow → Bool) (rows : List EntryRow) (row : EntryRow) (rest : List EntryRow) →
    filter test rows ≡ row ∷ rest → test row ≡ true
passes_first test [] row rest is = absurd cc
passes_first test (r ∷ rows) row rest is =
    elim (test r) as (λ b. test r ≡ b → cond b (r ∷ filter test rows) (filter test rows) ≡ row ∷ rest →
    test row ≡ true) [
      | true ↦ λ passes same. let its : row ≡ r = cc in ap test its ∙ passes
      | false ↦ λ fails same. passes_first test rows row rest same
    ] refl is

-- The rows of a table, cut before the first one above.
record IsCut (table : TableValue) (row : EntryRow) (rest : List EntryRow) : Type 0 where
  front : List EntryRow
  parts : finite.entries table.entries ≡ front ++ row ∷ rest
  below : AllBelow row.0 front
  above : AllAbove row.0 rest

module _ (after : Option ℕ) (table : TableValue) (row : EntryRow) (rest : List EntryRow)
    (is : rows_above after table ≡ row ∷ rest) where
  is_cut : IsCut table row rest
  is_cut =
      let rows : List EntryRow = finite.entries table.entries in
      let parts : rows ≡ low_rows after rows ++ row ∷ rest =
      sym (cut_in_turn after rows (entries_rise table.entries)) ∙ ap (λ high. low_rows after rows ++ high) is in
      let order = rising_around (low_rows after rows) row rest (subst IsRising parts (entries_rise table.entries)) in
      record { front = low_rows after rows; parts = parts; below = order.0; above = order.1 }

  pub above_after : is_after after row.0 ≡ true
  above_after = passes_first (is_above after) (finite.entries table.entries) row rest is

  pub above_is_there : finite.get table.entries row.0 ≡ Some row.1
  above_is_there =
      finite.get-entries table.entries row.0 ∙ ap (found row.0) is_cut.parts
      ∙ found_middle is_cut.front row rest is_cut.below

  -- The others follow it.
  pub others_follow : rows_above (Some row.0) table ≡ rest
  others_follow =
      let itself : nat_lt row.0 row.0 ≡ false = grind (arith, nat_tests) in
      let test : EntryRow → Bool = is_above (Some row.0) in
      ap (filter test) is_cut.parts
      ∙ filter-append test is_cut.front (row ∷ rest)
      ∙ (λ i. filter_none test is_cut.front (fails_below row.0 is_cut.front is_cut.below) i ++ cond (itself i)
      (row ∷ filter test rest) (filter test rest))
      ∙ filter_all test rest (passes_above row.0 rest is_cut.above)

-- ---- None before it

abbrev IsBefore : ℕ → List EntryRow → Type 0
IsBefore ssrc [] = Unit {0}
IsBefore ssrc (row ∷ rows) = ssrc < row.0

apart : (after : Option ℕ) (a b : ℕ) → is_after after a ≡ true → is_after after b ≡ false → (a == b) ≡ false
apart None a b high low = absurd cc
apart (Some last) a b high low = grind (arith, nat_tests)

absent : (after : Option ℕ) (rows : List EntryRow) (ssrc : ℕ) → is_after after ssrc ≡ true → IsRising rows →
    IsBefore ssrc (filter (is_above after) rows) → found ssrc rows ≡ None
absent after [] ssrc passes rising before = refl
absent after (row ∷ rows) ssrc passes rising before =
    elim (is_above after row) as (λ b. is_above after row ≡ b →
    IsBefore ssrc (cond b (row ∷ filter (is_above after) rows) (filter (is_above after) rows)) →
    found ssrc (row ∷ rows) ≡ None) [
      | true ↦ λ high less. found_above ssrc (row ∷ rows) (less, above_lower ssrc row.0 rows less rising.0)
      | false ↦ λ low less.
          ap (λ b. cond b (Some row.1) (found ssrc rows)) (not_tied ssrc row.0 (apart after ssrc row.0 passes low))
          ∙ absent after rows ssrc passes rising.1 less
    ] refl before

none_before : (after : Option ℕ) (table : TableValue) (rows : List EntryRow) → rows_above after table ≡ rows →
    (ssrc : ℕ) → is_after after ssrc ≡ true → IsBefore ssrc rows → finite.get table.entries ssrc ≡ None
none_before after table rows is ssrc passes before =
    finite.get-entries table.entries ssrc ∙ absent after (finite.entries table.entries) ssrc passes
    (entries_rise table.entries) (subst (IsBefore ssrc) (sym is) before)

-- ---- By the trace

no_stay : (ssrc : ℕ) (stay : Option (List TraceStep)) → option_map (entry_of ssrc) stay ≡ None → stay ≡ None
no_stay ssrc None is = refl
no_stay ssrc (Some stay) is = absurd cc

by_stay : (after : Option ℕ) (capacity : ℕ) (trace : List TraceStep) (row : EntryRow)
    (stay : Option (List TraceStep)) → is_after after row.0 ≡ true
    → ((ssrc : ℕ) → is_after after ssrc ≡ true → ssrc < row.0 → stay_of capacity trace ssrc ≡ None)
    → stay_of capacity trace row.0 ≡ stay → option_map (entry_of row.0) stay ≡ Some row.1 →
    IsNextListed after capacity trace (state_of row)
by_stay after capacity trace row None above least present is = absurd cc
by_stay after capacity trace row (Some stay) above least present is =
    let own : row.1 ≡ entry_of row.0 stay = cc in
    let received : reception_in row.1.source ≡ reception_over (given_of row.0 (before_mark row.0 stay)) =
    ap (λ (e : EntryValue). reception_in e.source) own
    ∙ summary_suffices-reception (given_of row.0 (before_mark row.0 stay)) in
    record {
      above = above;
      least = least;
      stay = stay;
      present = present;
      says = λ i. record {
        ssrc = row.0;
        member = is_member (own i);
        sender = is_sender (own i);
        left = (own i).mark;
        heard = (own i).sighting;
        reception = received i;
        last_report = (own i).source.last_report;
        last_block = (own i).source.last_block;
      };
    }

tells : (after : Option ℕ) (table : TableValue) (trace : List TraceStep) → StandsAt table trace →
    (rows : List EntryRow) → rows_above after table ≡ rows → ListsAbove after table.capacity trace
    (first_state rows)
tells after table trace stands [] is =
    λ ssrc passes. no_stay ssrc _ (sym (stands ssrc) ∙ none_before after table [] is ssrc passes tt)
tells after table trace stands (row ∷ rest) is =
    by_stay after table.capacity trace row (stay_of table.capacity trace row.0)
    (above_after after table row rest is)
    (λ ssrc passes less. no_stay ssrc _
    (sym (stands ssrc) ∙ none_before after table (row ∷ rest) is ssrc passes less))
    refl (sym (stands row.0) ∙ above_is_there after table row rest is)

pub lists_above : (after : Option ℕ) (table : TableValue) (trace : List TraceStep) → StandsAt table trace →
    ListsAbove after table.capacity trace (state_above after table)
lists_above after table trace stands = tells after table trace stands (rows_above after table) refl

-- The trace says what is told.
module _ (after : Option ℕ) (capacity : ℕ) (trace : List TraceStep) where
  not_lesser : (a b : StateValue) → IsNextListed after capacity trace a → IsNextListed after capacity trace b →
      a.ssrc < b.ssrc → ⊥
  not_lesser a b first second less =
      let here : stay_of capacity trace a.ssrc ≡ Some first.stay = first.present in
      let none : stay_of capacity trace a.ssrc ≡ None = second.least a.ssrc first.above less in
      absurd cc

  same_next : (a b : StateValue) → IsNextListed after capacity trace a → IsNextListed after capacity trace b →
      a ≡ b
  same_next a b first second =
      let same : a.ssrc ≡ b.ssrc = elim (cases_lt a.ssrc b.ssrc) [
        | inl less ↦ absurd (not_lesser a b first second less)
        | inr from ↦ elim (cases_lt b.ssrc a.ssrc) [
          | inl less ↦ absurd (not_lesser b a second first less)
          | inr other ↦ omega arith
        ]
      ] in
      let here : stay_of capacity trace a.ssrc ≡ Some first.stay = first.present in
      let there : stay_of capacity trace b.ssrc ≡ Some second.stay = second.present in
      let stays : first.stay ≡ second.stay = cc in
      first.says ∙ (λ i. state_in_stay (same i) (stays i)) ∙ sym second.says

  none_or_next : (state : StateValue) → ((ssrc : ℕ) → is_after after ssrc ≡ true → stay_of capacity trace ssrc ≡ None) →
      IsNextListed after capacity trace state → ⊥
  none_or_next state none next =
      let here : stay_of capacity trace state.ssrc ≡ Some next.stay = next.present in
      let nobody : stay_of capacity trace state.ssrc ≡ None = none state.ssrc next.above in
      absurd cc

  pub listed_once : (a b : Option StateValue) → ListsAbove after capacity trace a →
      ListsAbove after capacity trace b → a ≡ b
  listed_once None None first second = refl
  listed_once None (Some b) first second = absurd (none_or_next b first second)
  listed_once (Some a) None first second = absurd (none_or_next a second first)
  listed_once (Some a) (Some b) first second = ap Some (same_next a b first second)

-- ---- A walk over all

listed_first : (after : Option ℕ) (table : TableValue) (rows : List EntryRow) → rows_above after table ≡ rows →
    (state : StateValue) → first_state rows ≡ Some state →
    map state_of rows ≡ state ∷ states_above (Some state.ssrc) table
listed_first after table [] is state e = absurd cc
listed_first after table (row ∷ rows) is state e =
    let same : state_of row ≡ state = cc in
    (λ i. same i ∷ map state_of (sym (others_follow after table row rows is) i))
    ∙ ap (λ (s : StateValue). state ∷ states_above (Some s.ssrc) table) same

pub listed_more : (after : Option ℕ) (table : TableValue) (state : StateValue) → state_above after table ≡ Some state →
    states_above after table ≡ state ∷ states_above (Some state.ssrc) table
listed_more after table state e = listed_first after table (rows_above after table) refl state e

no_first : (rows : List EntryRow) → first_state rows ≡ None → map state_of rows ≡ []
no_first [] e = refl
no_first (row ∷ rows) e = absurd cc

pub listed_none : (after : Option ℕ) (table : TableValue) → state_above after table ≡ None →
    states_above after table ≡ []
listed_none after table e = no_first (rows_above after table) e

walk_by : (after : Option ℕ) (table : TableValue) (trace : List TraceStep) → StandsAt table trace →
    (rows : List EntryRow) → rows_above after table ≡ rows →
    IsWalk after table.capacity trace (map state_of rows)
walk_by after table trace stands [] is = tells after table trace stands [] is
walk_by after table trace stands (row ∷ rows) is = (
  tells after table trace stands (row ∷ rows) is,
  walk_by (Some row.0) table trace stands rows
      (others_follow after table row rows is),
)

pub states_are_walk : (after : Option ℕ) (table : TableValue) (trace : List TraceStep) → StandsAt table trace →
    IsWalk after table.capacity trace (states_above after table)
states_are_walk after table trace stands = walk_by after table trace stands (rows_above after table) refl

-- ---- Each once

higher : (low : Option ℕ) (a b : ℕ) → is_after low a ≡ true → a < b → is_after low b ≡ true
higher None a b high less = refl
higher (Some last) a b high less = grind (arith, nat_tests, less, high)

abbrev times : ℕ → List StateValue → ℕ
times ssrc states = count_by (λ (state : StateValue). state.ssrc == ssrc) states

abbrev one_if : Bool → ℕ
one_if b = if b then 1 else 0

counted_first : (ssrc : ℕ) (state : StateValue) (states : List StateValue) →
    times ssrc (state ∷ states) ≡ one_if (state.ssrc == ssrc) + times ssrc states
counted_first ssrc state states = sum_by-cons (λ (s : StateValue). cond (s.ssrc == ssrc) 1 0) state states

module _ (capacity : ℕ) (trace : List TraceStep) (ssrc : ℕ) where
  abbrev here : Bool
  here = is_some (stay_of capacity trace ssrc)

  none_here : (after : Option ℕ) → (is_after after ssrc ≡ true → stay_of capacity trace ssrc ≡ None) →
      one_if (is_after after ssrc && here) ≡ 0
  none_here after none =
      elim (is_after after ssrc) as (λ b. is_after after ssrc ≡ b →
      one_if (b && here) ≡ 0) [
        | true ↦ λ high. ap (λ o. one_if (is_some o)) (none high)
        | false ↦ λ low. refl
      ] refl

  -- by where the source stands beside the one that is told
  one_by : (after : Option ℕ) (state : StateValue) → IsNextListed after capacity trace state →
      one_if (state.ssrc == ssrc) + one_if (nat_lt state.ssrc ssrc && here) ≡ one_if (is_after after ssrc && here)
  one_by after state next =
      elim (cases_lt ssrc state.ssrc) [
        | inl less ↦
            let other : (state.ssrc == ssrc) ≡ false = grind (arith, nat_tests, less) in
            let below : nat_lt state.ssrc ssrc ≡ false = grind (arith, nat_tests, less) in
            (λ i. one_if (other i) + one_if (below i && here))
            ∙ sym (none_here after (λ high. next.least ssrc high less))
        | inr from ↦ elim (cases_lt state.ssrc ssrc) [
          | inl less ↦
              let other : (state.ssrc == ssrc) ≡ false = grind (arith, nat_tests, less) in
              let above : nat_lt state.ssrc ssrc ≡ true = grind (arith, nat_tests, less) in
              let high : is_after after ssrc ≡ true = higher after state.ssrc ssrc next.above less in
              (λ i. one_if (other i) + one_if (above i && here)) ∙ no_more (one_if here)
              ∙ (λ i. one_if (sym high i && here))
          | inr until ↦
              let same : state.ssrc ≡ ssrc = omega arith in
              let itself : (state.ssrc == ssrc) ≡ true = grind (arith, nat_tests) in
              let level : nat_lt state.ssrc ssrc ≡ false = grind (arith, nat_tests) in
              let high : is_after after ssrc ≡ true = ap (is_after after) (sym same) ∙ next.above in
              let present : here ≡ true = ap (λ s. is_some (stay_of capacity trace s)) (sym same)
              ∙ ap is_some next.present in
              (λ i. one_if (itself i) + one_if (level i && here)) ∙ sym (λ i. one_if (high i && present i))
        ]
      ]
    where
      no_more : (n : ℕ) → 0 + n ≡ n
      no_more n = omega arith

  pub walk_counts : (after : Option ℕ) (states : List StateValue) → IsWalk after capacity trace states →
      times ssrc states ≡ one_if (is_after after ssrc && here)
  walk_counts after [] walk = sym (none_here after (walk ssrc))
  walk_counts after (state ∷ states) walk =
      counted_first ssrc state states ∙ ap (λ n. one_if (state.ssrc == ssrc) + n)
      (walk_counts (Some state.ssrc) states walk.1) ∙ one_by after state walk.0

pub walk_rises : (after : Option ℕ) (capacity : ℕ) (trace : List TraceStep) (states : List StateValue) →
    IsWalk after capacity trace states → RiseAbove after states
walk_rises after capacity trace [] walk = tt
walk_rises after capacity trace (state ∷ states) walk =
    (walk.0.above, walk_rises (Some state.ssrc) capacity trace states walk.1)

-- ---- By lists of entries

pub listed_of_sorted : (after : Option ℕ) (capacity : ℕ) (entries : List Entry) (n : ℕ) (table : TableValue)
    (listed : Option StateValue) → table_of capacity entries ≡ table → sorted.IsRising entries
    → filter (is_above after) (rows_of entries) ≡ rows_of (drop n entries) →
    listed ≡ first_state (rows_of (drop n entries)) → listed ≡ state_above after table
listed_of_sorted after capacity entries n table listed is rising rest says =
    says ∙ ap first_state (sym rest ∙ ap (filter (is_above after)) (sym (entries_of_rising entries rising)))
    ∙ ap (state_above after) is

state_of_first : (after : Option ℕ) (table : TableValue) (ssrc : ℕ) (rows : List EntryRow) →
    rows_above after table ≡ rows → Some ssrc ≡ first_ssrc rows →
    state_for ssrc (finite.get table.entries ssrc) ≡ first_state rows
state_of_first after table ssrc [] is e = absurd cc
state_of_first after table ssrc (row ∷ rest) is e =
    let same : ssrc ≡ row.0 = cc in
    ap (λ s. state_for s (finite.get table.entries s)) same
    ∙ ap (state_for row.0) (above_is_there after table row rest is)

module _ (after : Option ℕ) (capacity : ℕ) (entries : List Entry) (table : TableValue)
    (apart : IsApart (rows_of entries)) (is : table_of capacity entries ≡ table) where
  first_found : (o : Option ℕ) → o ≡ least (is_above after) (rows_of entries) →
      o ≡ first_ssrc (rows_above after (table_of capacity entries))
  first_found o finds = finds ∙ sym (first_is_least (is_above after) (rows_of entries) apart)

  pub listed_of_least : (ssrc : ℕ) (listed : Option StateValue) → Some ssrc ≡ least (is_above after) (rows_of entries) →
      listed ≡ state_for ssrc (finite.get (map_of entries) ssrc) → listed ≡ state_above after table
  listed_of_least ssrc listed finds says =
      let here : TableValue = table_of capacity entries in
      says ∙ state_of_first after here ssrc (rows_above after here) refl (first_found (Some ssrc) finds)
      ∙ ap (state_above after) is

  pub listed_of_none : None ≡ least (is_above after) (rows_of entries) → None ≡ state_above after table
  listed_of_none finds =
      let here : TableValue = table_of capacity entries in
      ap first_state (sym (none_first (rows_above after here) (sym (first_found None finds))))
      ∙ ap (state_above after) is
