-- The first of the pending rows is the least of those that a walk finds.
use Rattle.std.proofs.Common.{◌≡◌, ◌<◌, ℕ, Bool, true, false, cond, not, ◌&&◌, T, List, [], ◌∷◌, ◌++◌, filter, if◌then◌else◌, Option, Some, None, is_some, nat_cmp, is_lt, is_eq, Less, Equal, Greater, arith, refl, sym, ap, subst, ◌∙◌}
use Rattle.std.specs.Cmp.{nat_cmp_total, nat_cmp_is, ranked}
use Rattle.std.specs.FinMap as finite
use Rattle.std.specs.FinMap.Entries.{put, by_order, below_all, is_sorted}
use Rattle.rtcp_members.specs.Entries.{EntryValue}
use Rattle.rtcp_members.specs.declared.entry.Entry.{Entry}
use Rattle.rtcp_members.specs.Tables.{TableValue, IsApart}
use Rattle.rtcp_members.specs.ListViews.{rows_of, map_of, table_of}
use Rattle.rtcp_members.specs.Pending.{EntryRow, first_ssrc, is_above, is_due, in_turn, pending}
use Rattle.rtcp_members.specs.Least.{lesser_of, least, is_due_above}
use Rattle.rtcp_members.proofs.maps.Updated.{both_hold}
use Rattle.rtcp_members.proofs.lists.Listing.{none_in_empty}

-- ---- The lesser

pub none_at_end : (a : Option ℕ) → lesser_of a None ≡ a
none_at_end None = refl
none_at_end (Some a) = refl

-- ---- The first of a sorted list

abbrev passing : (EntryRow → Bool) → List EntryRow → Option ℕ
passing test rows = first_ssrc (filter test rows)

abbrev one : (EntryRow → Bool) → EntryRow → Option ℕ
one test row = if test row then Some row.0 else None

first_or : (test : EntryRow → Bool) (row : EntryRow) (rows : List EntryRow) →
    passing test (row ∷ rows) ≡ (if test row then Some row.0 else passing test rows)
first_or test row rows =
    elim (test row) as (λ b. first_ssrc (cond b (row ∷ filter test rows) (filter test rows))
    ≡ (if b then Some row.0 else passing test rows)) [ true ↦ refl | false ↦ refl ]

pub less_than : (a b : ℕ) → T (is_lt (nat_cmp a b)) → a < b
less_than a b below = elim (nat_cmp a b) as (λ o. o ≡ nat_cmp a b → T (is_lt o) → a < b) [
  | Less ↦ λ e t. ranked a b Less e
  | Equal ↦ λ e t. absurd t
  | Greater ↦ λ e t. absurd t
] refl below

pub joined : (a b : Bool) → T a → T b → T (a && b)
joined true b p q = q
joined false b p q = p

pub is_less : (a b : ℕ) → a < b → T (is_lt (nat_cmp a b))
is_less a b less = subst (λ o. T (is_lt o)) (nat_cmp_is a b Less less) tt

-- a key below all the others comes first
below_first : (test : EntryRow → Bool) (key : ℕ) (rows : List EntryRow) → T (below_all nat_cmp key rows) →
    lesser_of (Some key) (passing test rows) ≡ Some key
below_first test key [] below = refl
below_first test key (row ∷ rows) below =
    let halves = both_hold (is_lt (nat_cmp key row.0)) (below_all nat_cmp key rows) below in
    ap (lesser_of (Some key)) (first_or test row rows)
    ∙ elim (test row) as (λ b. lesser_of (Some key) (if b then Some row.0 else passing test rows) ≡ Some key)
    [ true ↦ ap Some (omega (arith, less_than key row.0 halves.0)) | false ↦ below_first test key rows halves.1 ]

pub below_more : (a b : ℕ) (rows : List EntryRow) → a < b → T (below_all nat_cmp b rows) → T (below_all nat_cmp a rows)
below_more a b [] less below = tt
below_more a b (row ∷ rows) less below =
    let halves = both_hold (is_lt (nat_cmp b row.0)) (below_all nat_cmp b rows) below in
    joined (is_lt (nat_cmp a row.0)) (below_all nat_cmp a rows)
    (is_less a row.0 (omega (arith, less, less_than b row.0 halves.0))) (below_more a b rows less halves.1)

below_both : (key : ℕ) (row : EntryRow) (rows : List EntryRow) → key < row.0 → T (below_all nat_cmp row.0 rows) →
    T (below_all nat_cmp key (row ∷ rows))
below_both key row rows less below = joined (is_lt (nat_cmp key row.0)) (below_all nat_cmp key rows)
    (is_less key row.0 less) (below_more key row.0 rows less below)

-- a row before the others, and any one of them
above_first : (test : EntryRow → Bool) (key first : ℕ) (rest : Option ℕ) (b c : Bool) → first < key
    → (if c then Some first else lesser_of (if b then Some key else None) rest) ≡ lesser_of
    (if b then Some key else None) (if c then Some first else rest)
above_first test key first rest true true less = ap Some (omega (arith, less))
above_first test key first rest b c less = refl

-- A row put into a sorted list: the first that passes is the lesser of it and of the first before.
put_first : (test : EntryRow → Bool) (key : ℕ) (value : EntryValue) (rows : List EntryRow) →
    T (is_sorted nat_cmp rows) → finite.find nat_cmp key rows ≡ None
    → passing test (put nat_cmp key value rows) ≡ lesser_of (one test (key, value)) (passing test rows)
put_first test key value [] sorted none = first_or test (key, value) [] ∙ sym (none_at_end (one test (key, value)))
put_first test key value (row ∷ rows) sorted none =
    let halves = both_hold (below_all nat_cmp row.0 rows) (is_sorted nat_cmp rows) sorted in
    elim (nat_cmp key row.0) as (λ o. o ≡ nat_cmp key row.0 → cond (is_eq o) (Some row.1) (finite.find nat_cmp key rows)
    ≡ None
    → passing test (by_order o ((key, value) ∷ row ∷ rows) ((row.0, value) ∷ rows) (row ∷ put nat_cmp key value rows))
    ≡ lesser_of (one test (key, value)) (passing test (row ∷ rows))) [
      | Less ↦ λ is e.
          first_or test (key, value) (row ∷ rows)
          ∙ elim (test (key, value)) as (λ b. (if b then Some key else passing test (row ∷ rows)) ≡ lesser_of
          (if b then Some key else None) (passing test (row ∷ rows))) [
            | true ↦ sym (below_first test key (row ∷ rows)
                (below_both key row rows (ranked key row.0 Less is) halves.0))
            | false ↦ refl
          ]
      | Equal ↦ λ is e. absurd cc
      | Greater ↦ λ is e.
          first_or test row (put nat_cmp key value rows)
          ∙ ap (λ rest. if test row then Some row.0 else rest) (put_first test key value rows halves.1 e)
          ∙ above_first test key row.0 (passing test rows) (test (key, value)) (test row) (ranked key row.0 Greater is)
          ∙ ap (lesser_of (one test (key, value))) (sym (first_or test row rows))
    ] refl none

-- The first that passes of a map's entries is the least that passes of its rows.
pub first_is_least : (test : EntryRow → Bool) (rows : List EntryRow) → IsApart rows →
    passing test (finite.entries (finite.from_entries {R = nat_cmp} rows)) ≡ least test rows
first_is_least test [] apart = ap (passing test) none_in_empty
first_is_least test (row ∷ rows) apart =
    let rest = finite.from_entries {R = nat_cmp} rows in
    let none : finite.find nat_cmp row.0 (finite.entries rest) ≡ None =
    sym (finite.get-entries rest row.0) ∙ finite.get-from_entries nat_cmp_total rows row.0 ∙ apart.0 in
    ap (passing test) (finite.entries-insert nat_cmp_total rest row.0 row.1)
    ∙ put_first test row.0 row.1 (finite.entries rest) (finite.entries_sorted rest) none
    ∙ ap (lesser_of (one test row)) (first_is_least test rows apart.1)

-- ---- In turn

pub filter_twice : (p q : EntryRow → Bool) (rows : List EntryRow) →
    filter q (filter p rows) ≡ filter (λ row. p row && q row) rows
filter_twice p q [] = refl
filter_twice p q (row ∷ rows) =
    elim (p row) as (λ b. filter q (cond b (row ∷ filter p rows) (filter p rows)) ≡ cond (b && q row)
    (row ∷ filter (λ r. p r && q r) rows) (filter (λ r. p r && q r) rows)) [
      | true ↦ ap (λ rest. cond (q row) (row ∷ rest) rest) (filter_twice p q rows)
      | false ↦ filter_twice p q rows
    ]

pub none_first : (rows : List EntryRow) → first_ssrc rows ≡ None → rows ≡ []
none_first [] e = refl
none_first (row ∷ rows) e = absurd cc

all_others : (test : EntryRow → Bool) (rows : List EntryRow) → filter test rows ≡ [] →
    filter (λ row. not (test row)) rows ≡ rows
all_others test [] e = refl
all_others test (row ∷ rows) e =
    elim (test row) as (λ b. cond b (row ∷ filter test rows) (filter test rows) ≡ [] →
    cond (not b) (row ∷ filter (λ r. not (test r)) rows) (filter (λ r. not (test r)) rows) ≡ row ∷ rows) [
      | true ↦ λ some. absurd cc
      | false ↦ λ none. ap (λ rest. row ∷ rest) (all_others test rows none)
    ] e

-- The first in turn is the first above the last one, and else the first of all.
pub some_first : (xs ys : List EntryRow) (ssrc : ℕ) → Some ssrc ≡ first_ssrc xs → first_ssrc (xs ++ ys) ≡ Some ssrc
some_first [] ys ssrc e = absurd cc
some_first (x ∷ xs) ys ssrc e = sym e

first_in_turn : (last : Option ℕ) (rows : List EntryRow) (found : Option ℕ) →
    found ≡ first_ssrc (filter (is_above last) rows)
    → first_ssrc (in_turn last rows) ≡ (if is_some found then found else first_ssrc rows)
first_in_turn last rows (Some ssrc) is = some_first (filter (is_above last) rows)
    (filter (λ row. not (is_above last row)) rows) ssrc is
first_in_turn last rows None is =
    let nobody = none_first (filter (is_above last) rows) (sym is) in
    ap (λ xs. first_ssrc (xs ++ filter (λ row. not (is_above last row)) rows)) nobody
    ∙ ap first_ssrc (all_others (is_above last) rows nobody)

and_true : (b : Bool) → b ≡ (b && true)
and_true true = refl
and_true false = refl

-- What two walks of a list find is the first pending source of its table.
pub first_waiting : (last : Option ℕ) (capacity : ℕ) (entries : List Entry) (above all : Option ℕ) →
    IsApart (rows_of entries)
    → above ≡ least (is_due_above last) (rows_of entries) → all ≡ least (is_due_above None) (rows_of entries)
    → first_ssrc (pending last (table_of capacity entries)) ≡ (if is_some above then above else all)
first_waiting last capacity entries above all apart finds finds_all =
    let rows : List EntryRow = finite.entries (map_of entries) in
    let due : List EntryRow = filter (λ row. is_due row.1) rows in
    let found : above ≡ first_ssrc (filter (is_above last) due) =
    finds ∙ sym (first_is_least (is_due_above last) (rows_of entries) apart)
    ∙ ap first_ssrc (sym (filter_twice (λ row. is_due row.1) (is_above last) rows)) in
    let found_all : first_ssrc due ≡ all =
    (λ i. first_ssrc (filter (λ (row : EntryRow). and_true (is_due row.1) i) rows)) ∙ first_is_least (is_due_above None)
    (rows_of entries) apart ∙ sym finds_all in
    first_in_turn last due above found ∙ ap (λ o. if is_some above then above else o) found_all

pub first_waiting_in : (last : Option ℕ) (capacity : ℕ) (entries : List Entry) (table : TableValue)
    (above all : Option ℕ) → IsApart (rows_of entries) → table_of capacity entries ≡ table
    → above ≡ least (is_due_above last) (rows_of entries) → all ≡ least (is_due_above None) (rows_of entries)
    → (if is_some above then above else all) ≡ first_ssrc (pending last table)
first_waiting_in last capacity entries table above all apart is finds finds_all =
    sym (first_waiting last capacity entries above all apart finds finds_all)
    ∙ ap (λ (t : TableValue). first_ssrc (pending last t)) is
