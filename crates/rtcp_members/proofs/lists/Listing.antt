-- A list of entries, each of another source, as a map.
use Rattle.std.proofs.lemmas.List.{length-map}
use Rattle.std.proofs.Common.{◌≡◌, ◌<◌, ◌+◌, ℕ, zero, suc, slice_index_or, Bool, true, false, cond, List, [], ◌∷◌, length, set, Some, None, slice_get, unwrap_or, filter, nat_cmp, is_some, is_eq, Less, Equal, Greater, arith, refl, sym, ap, ◌∙◌, drop}
use Rattle.std.specs.Ordering.{eq_by_cmp}
use Rattle.std.proofs.lemmas.Bool.{eqb-true}
use Rattle.std.proofs.lemmas.Option.{slice_get_read}
use Rattle.std.proofs.Math.Seq.{drop-cons}
use Rattle.std.proofs.lemmas.Bool.Decides.{nat_tests}
use Rattle.std.specs.Cmp.{nat_cmp_total, unsigned_tied}
use Rattle.std.specs.FinMap as finite
use Rattle.std.specs.FinMap.{nat_cmp-IsAntisymmetric}
use Rattle.std.specs.FinMap.Entries.{put, by_order}
use Rattle.rtcp_members.specs.declared.entry.Entry.{Entry}
use Rattle.rtcp_members.specs.Entries.{EntryValue}
use Rattle.rtcp_members.specs.Tables.{TableValue, IsApart}
use Rattle.rtcp_members.specs.ListViews.{table_of, entry_value, row_of, rows_of, map_of, IsRankOf}

not_both : {b : Bool} → b ≡ true → b ≡ false → ⊥
not_both is isnt = absurd cc

pub get_rows : (entries : List Entry) (ssrc : ℕ) → finite.get (map_of entries) ssrc ≡ finite.find nat_cmp ssrc
    (rows_of entries)
get_rows entries ssrc = finite.get-from_entries nat_cmp_total (rows_of entries) ssrc

nil_of_length : {X : Type 0} (xs : List X) → length xs ≡ 0 → xs ≡ []
nil_of_length [] e = refl
nil_of_length (x ∷ xs) e = absurd (omega arith)

pub none_in_empty : finite.entries (finite.empty {X = EntryValue} {R = nat_cmp}) ≡ []
none_in_empty = nil_of_length _ (sym (finite.len-entries (finite.empty {X = EntryValue} {R = nat_cmp}))
    ∙ finite.len-empty nat_cmp EntryValue)

-- ---- Counts

abbrev passing : (EntryValue → Bool) → List (ℕ × EntryValue) → ℕ
passing test rows = length (filter (λ (row : ℕ × EntryValue). test row.1) rows)

pub filter_longer : {X : Type 0} (test : X → Bool) (x : X) (xs : List X) →
    length (filter test (x ∷ xs)) ≡ cond (test x) 1 0 + length (filter test xs)
filter_longer test x xs = elim (test x) as (λ b. length (cond b (x ∷ filter test xs) (filter test xs)) ≡ cond b 1 0
    + length (filter test xs)) [ true ↦ omega arith | false ↦ omega arith ]

one_more_passing : (test : EntryValue → Bool) (row : ℕ × EntryValue) (rows : List (ℕ × EntryValue)) →
    passing test (row ∷ rows) ≡ cond (test row.1) 1 0 + passing test rows
one_more_passing test row rows = filter_longer (λ (row : ℕ × EntryValue). test row.1) row rows

passing_put : (test : EntryValue → Bool) (key : ℕ) (value : EntryValue) (rows : List (ℕ × EntryValue)) →
    finite.find nat_cmp key rows ≡ None
    → passing test (put nat_cmp key value rows) ≡ passing test ((key, value) ∷ rows)
passing_put test key value [] none = refl
passing_put test key value (row ∷ rows) none =
    elim (nat_cmp key row.0) as (λ o. cond (is_eq o) (Some row.1) (finite.find nat_cmp key rows) ≡ None
    → passing test (by_order o ((key, value) ∷ row ∷ rows) ((row.0, value) ∷ rows) (row ∷ put nat_cmp key value rows))
    ≡ passing test ((key, value) ∷ row ∷ rows)) [
      | Less ↦ λ e. refl
      | Equal ↦ λ e. absurd cc
      | Greater ↦ λ e.
          omega (
            arith,
            one_more_passing test row (put nat_cmp key value rows),
            passing_put test key value rows e,
            one_more_passing test (key, value) rows,
            one_more_passing test (key, value) (row ∷ rows),
            one_more_passing test row rows,
          )
    ] none

pub passing_rows : (test : EntryValue → Bool) (rows : List (ℕ × EntryValue)) → IsApart rows →
    passing test (finite.entries (finite.from_entries {R = nat_cmp} rows)) ≡ passing test rows
passing_rows test [] apart = ap (passing test) none_in_empty
passing_rows test (row ∷ rows) apart =
    let rest = finite.from_entries {R = nat_cmp} rows in
    let none : finite.find nat_cmp row.0 (finite.entries rest) ≡ None =
    sym (finite.get-entries rest row.0) ∙ finite.get-from_entries nat_cmp_total rows row.0 ∙ apart.0 in
    ap (passing test) (finite.entries-insert nat_cmp_total rest row.0 row.1)
    ∙ passing_put test row.0 row.1 (finite.entries rest) none
    ∙ omega (
      arith,
      one_more_passing test row (finite.entries rest),
      passing_rows test rows apart.1,
      one_more_passing test row rows,
    )

pub len_rows : (rows : List (ℕ × EntryValue)) → IsApart rows → finite.len (finite.from_entries {R = nat_cmp} rows)
    ≡ length rows
len_rows [] apart = finite.len-empty nat_cmp EntryValue
len_rows (row ∷ rows) apart =
    let rest = finite.from_entries {R = nat_cmp} rows in
    finite.len-insert nat_cmp_total rest row.0 row.1
    ∙ ap (λ o. cond (is_some o) (finite.len rest) (finite.len rest + 1))
    (finite.get-from_entries nat_cmp_total rows row.0 ∙ apart.0)
    ∙ omega (arith, len_rows rows apart.1)

-- As many as in the list are in a table that is seen as it.
pub entries_of : (capacity : ℕ) (entries : List Entry) (table : TableValue) (count : ℕ) →
    IsApart (rows_of entries) → table_of capacity entries ≡ table → count ≡ length entries →
    count ≡ finite.len table.entries
entries_of capacity entries table count apart view is =
    is ∙ sym (len_rows (rows_of entries) apart ∙ length-map entries row_of)
    ∙ ap (λ (t : TableValue). finite.len t.entries) view

-- ---- One entry changed

pub same_entry : (x e : Entry) → Some x ≡ Some e → x ≡ e
same_entry x e is = ap (λ o. unwrap_or o e) is

pub tied_itself : (key : ℕ) → eq_by_cmp nat_cmp key key ≡ true
tied_itself key = unsigned_tied key key ∙ grind (arith, nat_tests)

pub tied_key : (q key : ℕ) → eq_by_cmp nat_cmp q key ≡ true → q ≡ key
tied_key q key tied = eqb-true q key (sym (unsigned_tied q key) ∙ tied)

-- an entry that stands in a list is found
pub found_at : (entries : List Entry) (at : ℕ) (e : Entry) → slice_get entries at ≡ Some e →
    is_some (finite.find nat_cmp e.ssrc (rows_of entries)) ≡ true
found_at [] at e is = absurd cc
found_at (x ∷ xs) zero e is =
    let here : eq_by_cmp nat_cmp e.ssrc x.ssrc ≡ true = ap (λ (y : Entry). eq_by_cmp nat_cmp e.ssrc y.ssrc)
    (same_entry x e is) ∙ tied_itself e.ssrc in
    ap (λ b. is_some (cond b (Some (entry_value x)) (finite.find nat_cmp e.ssrc (rows_of xs)))) here
found_at (x ∷ xs) (suc at) e is =
    elim (eq_by_cmp nat_cmp e.ssrc x.ssrc) as (λ b. is_some
    (cond b (Some (entry_value x)) (finite.find nat_cmp e.ssrc (rows_of xs))) ≡ true)
    [ true ↦ refl | false ↦ found_at xs at e is ]

-- which stands after another one is of another source
pub other_source : (x : Entry) (xs : List Entry) (at : ℕ) (e : Entry) → IsApart (rows_of (x ∷ xs)) →
    slice_get xs at ≡ Some e → x.ssrc ≡ e.ssrc → ⊥
other_source x xs at e apart is same =
    absurd (not_both (ap (λ k. is_some (finite.find nat_cmp k (rows_of xs))) same ∙ found_at xs at e is)
    (ap is_some apart.0))

-- the branch of a test that is asked again
asked_again : {X : Type 0} (b : Bool) (x y z : X) → cond b x z ≡ cond b x (cond b y z)
asked_again true x y z = refl
asked_again false x y z = refl

pub in_turn : {X : Type 0} (a b : Bool) (x y z : X) → (a ≡ true → b ≡ true → ⊥) →
    cond a x (cond b y z) ≡ cond b y (cond a x z)
in_turn true true x y z apart = absurd (apart refl refl)
in_turn true false x y z apart = refl
in_turn false b x y z apart = refl

pub find_set : (entries : List Entry) (at : ℕ) (e next : Entry) (q : ℕ) → IsApart (rows_of entries) →
    slice_get entries at ≡ Some e → next.ssrc ≡ e.ssrc
    → finite.find nat_cmp q (rows_of (set entries at next)) ≡ cond (eq_by_cmp nat_cmp q e.ssrc)
    (Some (entry_value next)) (finite.find nat_cmp q (rows_of entries))
find_set [] at e next q apart is same = absurd cc
find_set (x ∷ xs) zero e next q apart is same =
    ap (λ k. cond (eq_by_cmp nat_cmp q k) (Some (entry_value next)) (finite.find nat_cmp q (rows_of xs))) same
    ∙ asked_again (eq_by_cmp nat_cmp q e.ssrc) (Some (entry_value next)) (Some (entry_value x))
    (finite.find nat_cmp q (rows_of xs))
    ∙ ap (λ (y : Entry). cond (eq_by_cmp nat_cmp q e.ssrc) (Some (entry_value next))
    (cond (eq_by_cmp nat_cmp q y.ssrc) (Some (entry_value x)) (finite.find nat_cmp q (rows_of xs))))
    (sym (same_entry x e is))
find_set (x ∷ xs) (suc at) e next q apart is same =
    ap (cond (eq_by_cmp nat_cmp q x.ssrc) (Some (entry_value x))) (find_set xs at e next q apart.1 is same)
    ∙ in_turn (eq_by_cmp nat_cmp q x.ssrc) (eq_by_cmp nat_cmp q e.ssrc) (Some (entry_value x)) (Some (entry_value next))
    (finite.find nat_cmp q (rows_of xs))
    (λ a b. other_source x xs at e apart is (omega (arith, tied_key q x.ssrc a, tied_key q e.ssrc b)))

-- To change an entry is to put it into the map again.
pub map_set : (entries : List Entry) (at : ℕ) (e next : Entry) → IsApart (rows_of entries) →
    slice_get entries at ≡ Some e → next.ssrc ≡ e.ssrc
    → map_of (set entries at next) ≡ finite.insert (map_of entries) e.ssrc (entry_value next)
map_set entries at e next apart is same =
    finite.same_map nat_cmp_total nat_cmp-IsAntisymmetric _ _ (λ q. get_rows (set entries at next) q
    ∙ find_set entries at e next q apart is same
    ∙ ap (cond (eq_by_cmp nat_cmp q e.ssrc) (Some (entry_value next))) (sym (get_rows entries q))
    ∙ sym (finite.get-insert nat_cmp_total (map_of entries) e.ssrc (entry_value next) q))

-- the keys stay as they were
find_none_set : (entries : List Entry) (at : ℕ) (e next : Entry) (q : ℕ) → IsApart (rows_of entries) →
    slice_get entries at ≡ Some e → next.ssrc ≡ e.ssrc
    → finite.find nat_cmp q (rows_of entries) ≡ None → finite.find nat_cmp q (rows_of (set entries at next)) ≡ None
find_none_set entries at e next q apart is same none =
    find_set entries at e next q apart is same
    ∙ elim (eq_by_cmp nat_cmp q e.ssrc) as (λ b. eq_by_cmp nat_cmp q e.ssrc ≡ b →
    cond b (Some (entry_value next)) (finite.find nat_cmp q (rows_of entries)) ≡ None) [
      | true ↦ λ tied. absurd (not_both
          (ap (λ k. is_some (finite.find nat_cmp k (rows_of entries))) (tied_key q e.ssrc tied)
          ∙ found_at entries at e is) (ap is_some none))
      | false ↦ λ tied. none
    ] refl

pub apart_set : (entries : List Entry) (at : ℕ) (e next : Entry) → IsApart (rows_of entries) →
    slice_get entries at ≡ Some e → next.ssrc ≡ e.ssrc → IsApart (rows_of (set entries at next))
apart_set [] at e next apart is same = absurd cc
apart_set (x ∷ xs) zero e next apart is same = (
  ap (λ k. finite.find nat_cmp k (rows_of xs)) (same ∙ ap (λ (y : Entry). y.ssrc) (sym (same_entry x e is)))
      ∙ apart.0,
  apart.1,
)
apart_set (x ∷ xs) (suc at) e next apart is same = (
  find_none_set xs at e next x.ssrc apart.1 is same apart.0,
  apart_set xs at e next apart.1 is same,
)

-- ---- A source's place

pub place_found : (ssrc : ℕ) (entries : List Entry) (at : ℕ) (e : Entry) → at < length entries →
    e ≡ slice_index_or entries at e → e.ssrc ≡ ssrc
    → finite.get (map_of entries) ssrc ≡ finite.find nat_cmp ssrc (rows_of (drop at entries)) → IsRankOf ssrc entries at
place_found ssrc entries at e within read is from =
    record {
      entry = e;
      stands = slice_get_read entries (length entries) at e refl within read;
      its_ssrc = is;
      found = from
          ∙ ap (λ (xs : List Entry). finite.find nat_cmp ssrc (rows_of xs)) (drop-cons entries at e within)
          ∙ ap (λ (y : Entry). finite.find nat_cmp ssrc (row_of y ∷ rows_of (drop (suc at) entries))) (sym read)
          ∙ ap (λ k. cond (eq_by_cmp nat_cmp ssrc k) (Some (entry_value e))
          (finite.find nat_cmp ssrc (rows_of (drop (suc at) entries)))) is
          ∙ ap (λ b. cond b (Some (entry_value e)) (finite.find nat_cmp ssrc (rows_of (drop (suc at) entries))))
          (tied_itself ssrc);
    }
