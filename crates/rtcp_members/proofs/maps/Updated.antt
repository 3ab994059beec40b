-- The entries of a map, each as a step leaves it or dropped.
use Rattle.std.proofs.Common.{◌≡◌, ℕ, Bool, true, false, cond, T, ◌&&◌, List, [], ◌∷◌, Option, Some, None, option_map, option_and_then, filter_map, nat_cmp, is_lt, is_eq, Less, Equal, Greater, refl, sym, ap, ◌∙◌}
use Rattle.std.proofs.lemmas.Bool.{eqb-true}
use Rattle.std.specs.List.{cons_option}
use Rattle.std.specs.Ordering.{eq_by_cmp}
use Rattle.std.specs.Cmp.{nat_cmp_total, unsigned_tied}
use Rattle.std.specs.FinMap as map
use Rattle.std.specs.FinMap.{nat_cmp-IsAntisymmetric}
use Rattle.std.specs.FinMap.Entries.{below_all}
use Rattle.rtcp_members.specs.Entries.{EntryValue}
use Rattle.rtcp_members.specs.Tables.{EntryMap, IsApart, updated_row, updated}

-- ---- Rows without a key

none_where_above : (key : ℕ) (rows : List (ℕ × EntryValue)) → T (below_all nat_cmp key rows) →
    map.find nat_cmp key rows ≡ None
none_where_above key [] above = refl
none_where_above key (row ∷ rows) above =
    elim (nat_cmp key row.0) as (λ o. T (is_lt o && below_all nat_cmp key rows) →
    cond (is_eq o) (Some row.1) (map.find nat_cmp key rows) ≡ None) [
      | Less ↦ λ rest. none_where_above key rows rest
      | Equal ↦ λ rest. absurd rest
      | Greater ↦ λ rest. absurd rest
    ] above

pub both_hold : (a b : Bool) → T (a && b) → T a × T b
both_hold true b h = (tt, h)
both_hold false b h = absurd h

pub apart_where_sorted : (rows : List (ℕ × EntryValue)) → T (map.is_sorted nat_cmp rows) → IsApart rows
apart_where_sorted [] sorted = tt
apart_where_sorted (row ∷ rows) sorted =
    let parts = both_hold (below_all nat_cmp row.0 rows) _ sorted in
    (none_where_above row.0 rows parts.0, apart_where_sorted rows parts.1)

pub entries_are_apart : (entries : EntryMap) → IsApart (map.entries entries)
entries_are_apart entries = apart_where_sorted _ (map.entries_sorted entries)

-- ---- A key in updated rows

same_key : (q key : ℕ) → eq_by_cmp nat_cmp q key ≡ true → q ≡ key
same_key q key tied = eqb-true q key (sym (unsigned_tied q key) ∙ tied)

found_first : (q key : ℕ) (entry : Option EntryValue) (rows : List (ℕ × EntryValue)) → eq_by_cmp nat_cmp q key ≡ true →
    map.find nat_cmp q rows ≡ None
    → map.find nat_cmp q (cons_option (option_map (λ e. (key, e)) entry) rows) ≡ entry
found_first q key None rows tied none = none
found_first q key (Some entry) rows tied none = ap (λ b. cond b (Some entry) (map.find nat_cmp q rows)) tied

found_later : (q key : ℕ) (entry : Option EntryValue) (rows : List (ℕ × EntryValue)) → eq_by_cmp nat_cmp q key ≡ false
    → map.find nat_cmp q (cons_option (option_map (λ e. (key, e)) entry) rows) ≡ map.find nat_cmp q rows
found_later q key None rows apart = refl
found_later q key (Some entry) rows apart = ap (λ b. cond b (Some entry) (map.find nat_cmp q rows)) apart

pub find_updated : (step : EntryValue → Option EntryValue) (q : ℕ) (rows : List (ℕ × EntryValue)) → IsApart rows
    → map.find nat_cmp q (filter_map (updated_row step) rows) ≡ option_and_then step (map.find nat_cmp q rows)
find_updated step q [] apart = refl
find_updated step q (row ∷ rows) apart =
    let rest = find_updated step q rows apart.1 in
    elim (eq_by_cmp nat_cmp q row.0) as (λ b. eq_by_cmp nat_cmp q row.0 ≡ b →
    map.find nat_cmp q (filter_map (updated_row step) (row ∷ rows)) ≡ option_and_then step
    (cond b (Some row.1) (map.find nat_cmp q rows))) [
      | true ↦ λ tied.
          let none : map.find nat_cmp q rows ≡ None = ap (λ k. map.find nat_cmp k rows) (same_key q row.0 tied)
          ∙ apart.0 in
          found_first q row.0 (step row.1) (filter_map (updated_row step) rows) tied
          (rest ∙ ap (option_and_then step) none)
      | false ↦ λ tied. found_later q row.0 (step row.1) (filter_map (updated_row step) rows) tied ∙ rest
    ] refl

-- Each key has what the step leaves of its entry.
pub get_updated : (step : EntryValue → Option EntryValue) (entries : EntryMap) (q : ℕ) →
    map.get (updated step entries) q ≡ option_and_then step (map.get entries q)
get_updated step entries q =
    map.get-from_entries nat_cmp_total (filter_map (updated_row step) (map.entries entries)) q
    ∙ find_updated step q (map.entries entries) (entries_are_apart entries)
    ∙ ap (option_and_then step) (sym (map.get-entries entries q))

-- A map of updated rows, in any order, is the updated map of the rows.
pub from_updated : (step : EntryValue → Option EntryValue) (rows : List (ℕ × EntryValue)) → IsApart rows
    → map.from_entries (filter_map (updated_row step) rows) ≡ updated step (map.from_entries rows)
from_updated step rows apart =
    map.same_map nat_cmp_total nat_cmp-IsAntisymmetric _ _
    (λ q. map.get-from_entries nat_cmp_total (filter_map (updated_row step) rows) q
    ∙ find_updated step q rows apart
    ∙ ap (option_and_then step) (sym (map.get-from_entries nat_cmp_total rows q))
    ∙ sym (get_updated step (map.from_entries rows) q))
