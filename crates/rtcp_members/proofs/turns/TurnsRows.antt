-- Rows by rising SSRC, in cyclic turn.
use Rattle.std.proofs.Common.{◌≡◌, ℕ, ◌<◌, Bool, true, false, T, cond, not, ◌==◌, nat_cmp, is_lt, Less, Equal, Greater, List, [], ◌∷◌, ◌++◌, filter, Option, Some, None, arith, refl, sym, ap, ◌∙◌}
use Rattle.std.proofs.lemmas.Bool.Decides.{nat_tests}
use Rattle.std.proofs.lemmas.Cmp.{ranked}
use Rattle.std.proofs.lemmas.List.{append-nil}
use Rattle.std.proofs.lemmas.List.Elements.{filter-append}
use Rattle.std.specs.FinMap as finite
use Rattle.std.specs.FinMap.Entries.{below_all}
use Rattle.rtcp_members.proofs.maps.Updated.{both_hold}
use Rattle.rtcp_members.specs.Entries.{EntryValue}
use Rattle.rtcp_members.specs.Pending.{EntryRow, is_above, in_turn}

abbrev pub AllAbove : ℕ → List EntryRow → Type 0
AllAbove ssrc [] = Unit {0}
AllAbove ssrc (row ∷ rows) = (ssrc < row.0) × AllAbove ssrc rows

abbrev pub AllBelow : ℕ → List EntryRow → Type 0
AllBelow ssrc [] = Unit {0}
AllBelow ssrc (row ∷ rows) = (row.0 < ssrc) × AllBelow ssrc rows

abbrev pub IsRising : List EntryRow → Type 0
IsRising [] = Unit {0}
IsRising (row ∷ rows) = AllAbove row.0 rows × IsRising rows

-- ---- Rising rows

less_of : (x y : ℕ) → T (is_lt (nat_cmp x y)) → x < y
less_of x y h =
    elim (nat_cmp x y) as (λ o. nat_cmp x y ≡ o → T (is_lt o) → x < y) [
      | Less ↦ λ is yes. ranked x y Less (sym is)
      | Equal ↦ λ is yes. absurd yes
      | Greater ↦ λ is yes. absurd yes
    ] refl h

above_of_sorted : (ssrc : ℕ) (rows : List EntryRow) → T (below_all nat_cmp ssrc rows) → AllAbove ssrc rows
above_of_sorted ssrc [] h = tt
above_of_sorted ssrc (row ∷ rows) h = let parts = both_hold _ _ h in
    (less_of ssrc row.0 parts.0, above_of_sorted ssrc rows parts.1)

rising_of_sorted : (rows : List EntryRow) → T (finite.is_sorted nat_cmp rows) → IsRising rows
rising_of_sorted [] h = tt
rising_of_sorted (row ∷ rows) h = let parts = both_hold (below_all nat_cmp row.0 rows) _ h in
    (above_of_sorted row.0 rows parts.0, rising_of_sorted rows parts.1)

pub entries_rise : (entries : finite.FinMap nat_cmp EntryValue) → IsRising (finite.entries entries)
entries_rise entries = rising_of_sorted _ (finite.entries_sorted entries)

pub above_lower : (low high : ℕ) (rows : List EntryRow) → low < high → AllAbove high rows → AllAbove low rows
above_lower low high [] less h = tt
above_lower low high (row ∷ rows) less h = (omega (arith, less, h.0), above_lower low high rows less h.1)

pub above_filter : (test : EntryRow → Bool) (ssrc : ℕ) (rows : List EntryRow) → AllAbove ssrc rows →
    AllAbove ssrc (filter test rows)
above_filter test ssrc [] h = tt
above_filter test ssrc (row ∷ rows) h =
    let rest = above_filter test ssrc rows h.1 in
    elim (test row) as (λ b. AllAbove ssrc (cond b (row ∷ filter test rows) (filter test rows))) [
      | true ↦ (h.0, rest)
      | false ↦ rest
    ]

pub rising_filter : (test : EntryRow → Bool) (rows : List EntryRow) → IsRising rows → IsRising (filter test rows)
rising_filter test [] h = tt
rising_filter test (row ∷ rows) h =
    let rest = rising_filter test rows h.1 in
    elim (test row) as (λ b. IsRising (cond b (row ∷ filter test rows) (filter test rows))) [
      | true ↦
          (above_filter test row.0 rows h.0, rest)
      | false ↦ rest
    ]

above_later : (ssrc : ℕ) (front : List EntryRow) (row : EntryRow) (back : List EntryRow) →
    AllAbove ssrc (front ++ row ∷ back) → ssrc < row.0
above_later ssrc [] row back h = h.0
above_later ssrc (first ∷ front) row back h = above_later ssrc front row back h.1

-- A row in rising rows stands above those before it, and below those after it.
pub rising_around : (front : List EntryRow) (row : EntryRow) (back : List EntryRow) → IsRising (front ++ row ∷ back) →
    AllBelow row.0 front × AllAbove row.0 back
rising_around [] row back h = (tt, h.0)
rising_around (first ∷ front) row back h =
    let rest = rising_around front row back h.1 in ((above_later first.0 front row back h.0, rest.0), rest.1)

-- ---- Tests of rows

-- No test passes on a row of the list that fails; what passes is the whole list.
abbrev pub AllSuch : (EntryRow → Bool) → Bool → List EntryRow → Type 0
AllSuch test answer [] = Unit {0}
AllSuch test answer (row ∷ rows) = (test row ≡ answer) × AllSuch test answer rows

pub filter_all : (test : EntryRow → Bool) (rows : List EntryRow) → AllSuch test true rows → filter test rows ≡ rows
filter_all test [] h = refl
filter_all test (row ∷ rows) h = ap (λ b. cond b (row ∷ filter test rows) (filter test rows)) h.0
    ∙ ap (λ (t : List EntryRow). row ∷ t) (filter_all test rows h.1)

pub filter_none : (test : EntryRow → Bool) (rows : List EntryRow) → AllSuch test false rows → filter test rows ≡ []
filter_none test [] h = refl
filter_none test (row ∷ rows) h = ap (λ b. cond b (row ∷ filter test rows) (filter test rows)) h.0
    ∙ filter_none test rows h.1

pub passes_above : (ssrc : ℕ) (rows : List EntryRow) → AllAbove ssrc rows → AllSuch (is_above (Some ssrc)) true rows
passes_above ssrc [] h = tt
passes_above ssrc (row ∷ rows) h = (grind (arith, nat_tests, h.0), passes_above ssrc rows h.1)

pub fails_below : (ssrc : ℕ) (rows : List EntryRow) → AllBelow ssrc rows → AllSuch (is_above (Some ssrc)) false rows
fails_below ssrc [] h = tt
fails_below ssrc (row ∷ rows) h = (grind (arith, nat_tests, h.0), fails_below ssrc rows h.1)

turned : (test : EntryRow → Bool) (answer : Bool) (rows : List EntryRow) → AllSuch test answer rows →
    AllSuch (λ row. not (test row)) (not answer) rows
turned test answer [] h = tt
turned test answer (row ∷ rows) h = (ap not h.0, turned test answer rows h.1)

-- ---- Rows without one

abbrev pub without : ℕ → List EntryRow → List EntryRow
without ssrc rows = filter (λ row. not (row.0 == ssrc)) rows

others_above : (ssrc : ℕ) (rows : List EntryRow) → AllAbove ssrc rows → AllSuch (λ row. not (row.0 == ssrc)) true rows
others_above ssrc [] h = tt
others_above ssrc (row ∷ rows) h = (grind (arith, nat_tests, h.0), others_above ssrc rows h.1)

others_below : (ssrc : ℕ) (rows : List EntryRow) → AllBelow ssrc rows → AllSuch (λ row. not (row.0 == ssrc)) true rows
others_below ssrc [] h = tt
others_below ssrc (row ∷ rows) h = (grind (arith, nat_tests, h.0), others_below ssrc rows h.1)

pub without_above : (ssrc : ℕ) (rows : List EntryRow) → AllAbove ssrc rows → without ssrc rows ≡ rows
without_above ssrc rows h = filter_all _ rows (others_above ssrc rows h)

pub itself_dropped : (row : EntryRow) (rows : List EntryRow) → without row.0 (row ∷ rows) ≡ without row.0 rows
itself_dropped row rows =
    let same : not (row.0 == row.0) ≡ false = grind (arith, nat_tests) in
    ap (λ b. cond b (row ∷ without row.0 rows) (without row.0 rows)) same

-- Rising rows without one of them.
pub without_middle : (front : List EntryRow) (row : EntryRow) (back : List EntryRow) → AllBelow row.0 front →
    AllAbove row.0 back → without row.0 (front ++ row ∷ back) ≡ front ++ back
without_middle front row back below above =
    filter-append (λ (other : EntryRow). not (other.0 == row.0)) front (row ∷ back)
    ∙ (λ i. filter_all _ front (others_below row.0 front below) i ++ (itself_dropped row back
    ∙ without_above row.0 back above) i)

-- ---- Turns

-- Rows below an SSRC and rows above it, in turn after it.
pub turn_after : (ssrc : ℕ) (front back : List EntryRow) → AllBelow ssrc front → AllAbove ssrc back →
    in_turn (Some ssrc) (front ++ back) ≡ back ++ front
turn_after ssrc front back below above =
    let high : filter (is_above (Some ssrc)) (front ++ back) ≡ back =
    filter-append (is_above (Some ssrc)) front back
    ∙ (λ i. filter_none _ front (fails_below ssrc front below) i ++ filter_all _ back (passes_above ssrc back above)
    i) in
    let low : filter (λ row. not (is_above (Some ssrc) row)) (front ++ back) ≡ front =
    filter-append (λ (row : EntryRow). not (is_above (Some ssrc) row)) front back
    ∙ (λ i. filter_all _ front (turned _ false front (fails_below ssrc front below)) i ++ filter_none _ back
    (turned _ true back (passes_above ssrc back above)) i)
    ∙ append-nil front in
    λ i. high i ++ low i

-- A turn is a cut of the rows: those that fail the test stand before those that pass it.
abbrev pub high_rows : (last : Option ℕ) → List EntryRow → List EntryRow
high_rows last rows = filter (is_above last) rows

abbrev pub low_rows : (last : Option ℕ) → List EntryRow → List EntryRow
low_rows last rows = filter (λ row. not (is_above last row)) rows

above_above : (last : Option ℕ) (ssrc : ℕ) (entry : EntryValue) (rows : List EntryRow) →
    is_above last (ssrc, entry) ≡ true → AllAbove ssrc rows → AllSuch (is_above last) true rows
above_above last ssrc entry [] passes h = tt
above_above None ssrc entry (row ∷ rows) passes h = (refl, above_above None ssrc entry rows passes h.1)
above_above (Some last) ssrc entry (row ∷ rows) passes h =
    (grind (arith, nat_tests, h.0, passes), above_above (Some last) ssrc entry rows passes h.1)

pub cut_in_turn : (last : Option ℕ) (rows : List EntryRow) → IsRising rows →
    low_rows last rows ++ high_rows last rows ≡ rows
cut_in_turn last [] h = refl
cut_in_turn last (row ∷ rows) h =
    let rest = cut_in_turn last rows h.1 in
    elim (is_above last row) as (λ b. is_above last row ≡ b →
    cond (not b) (row ∷ low_rows last rows) (low_rows last rows) ++ cond b (row ∷ high_rows last rows)
    (high_rows last rows) ≡ row ∷ rows) [
      | true ↦ λ passes.
          let all = above_above last row.0 row.1 rows passes h.0 in
          λ i. filter_none _ rows (turned _ true rows all) i ++ row ∷ filter_all _ rows all i
      | false ↦ λ fails. ap (λ (t : List EntryRow). row ∷ t) rest
    ] refl
