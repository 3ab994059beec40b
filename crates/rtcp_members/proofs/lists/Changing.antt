-- A list of entries that grows by one, or that a check goes over.
use Rattle.std.proofs.Common.{◌≡◌, ℕ, Bool, true, false, cond, not, ◌&&◌, List, [], ◌∷◌, ◌++◌, if◌then◌else◌, Option, Some, None, is_some, option_map, option_and_then, filter_map, nat_cmp, refl, sym, ap, ◌∙◌, subst}
use Rattle.std.specs.List.{retain_mut, cons_option}
use Rattle.std.specs.List.Retain.{RetainsInTurn}
use Rattle.std.specs.Ordering.{eq_by_cmp}
use Rattle.std.specs.Cmp.{nat_cmp_total}
use Rattle.std.proofs.lemmas.Cmp.{eq_by_cmp_equiv}
use Rattle.std.proofs.lemmas.List.{map-append}
use Rattle.std.specs.FinMap as finite
use Rattle.std.specs.FinMap.{nat_cmp-IsAntisymmetric}
use Rattle.std.specs.FinMap.Entries.{find-append}
use Rattle.rtcp_members.specs.declared.entry.Entry.{Entry}
use Rattle.rtcp_members.specs.Traces.{Horizons}
use Rattle.rtcp_members.specs.Stays.{is_before, is_removed}
use Rattle.rtcp_members.specs.Entries.{EntryValue, still_sending}
use Rattle.rtcp_members.specs.Tables.{IsApart, updated_row, updated, entry_after_check}
use Rattle.rtcp_members.specs.ListViews.{entry_value, mark_in, sending_in, row_of, rows_of, map_of, lapsed, outlasts, checked}
use Rattle.rtcp_members.proofs.maps.Updated.{find_updated, from_updated}
use Rattle.rtcp_members.proofs.lists.Listing.{get_rows}

-- ---- One more

none_of_both : {X : Type 0} (b : Bool) (x : X) (rest : Option X) → cond b (Some x) rest ≡ None →
    (b ≡ false) × (rest ≡ None)
none_of_both true x rest e = absurd cc
none_of_both false x rest e = (refl, e)

apart_append : (rows : List (ℕ × EntryValue)) (key : ℕ) (value : EntryValue) → IsApart rows →
    finite.find nat_cmp key rows ≡ None → IsApart (rows ++ (key, value) ∷ [])
apart_append [] key value apart none = (refl, tt)
apart_append (row ∷ rows) key value apart none =
    let parts = none_of_both (eq_by_cmp nat_cmp key row.0) row.1 (finite.find nat_cmp key rows) none in
    let other : eq_by_cmp nat_cmp row.0 key ≡ false = (eq_by_cmp_equiv nat_cmp_total).symm row.0 key ∙ parts.0 in (
      find-append nat_cmp nat_cmp_total rows key value row.0 parts.1
          ∙ ap (λ b. cond b (Some value) (finite.find nat_cmp row.0 rows)) other ∙ apart.0,
      apart_append rows key value apart.1 parts.1,
    )

pub apart_push : (entries : List Entry) (e : Entry) → IsApart (rows_of entries) →
    finite.get (map_of entries) e.ssrc ≡ None → IsApart (rows_of (entries ++ e ∷ []))
apart_push entries e apart none =
    subst IsApart (sym (map-append row_of entries (e ∷ [])))
    (apart_append (rows_of entries) e.ssrc (entry_value e) apart (sym (get_rows entries e.ssrc) ∙ none))

pub map_push : (entries : List Entry) (e : Entry) → finite.get (map_of entries) e.ssrc ≡ None →
    map_of (entries ++ e ∷ []) ≡ finite.insert (map_of entries) e.ssrc (entry_value e)
map_push entries e none =
    ap finite.from_entries (map-append row_of entries (e ∷ []))
    ∙ finite.from_entries_push nat_cmp_total nat_cmp-IsAntisymmetric (rows_of entries) e.ssrc (entry_value e)
    (sym (get_rows entries e.ssrc) ∙ none)

-- ---- A check

-- an entry that stays, after a check
abbrev kept : Horizons → EntryValue → EntryValue
kept horizons entry = if is_some entry.mark then entry else record
    entry { sending = still_sending horizons entry.sending }

lapsed_row : (horizons : Horizons) (e : Entry) →
    row_of (lapsed horizons.idle e) ≡ (e.ssrc, kept horizons (entry_value e))
lapsed_row horizons e =
    let gone : Entry = record e { sends = false } in
    elim (is_some (mark_in e)) as (λ marked. row_of
    (if not marked && is_before (sending_in e) horizons.idle then gone else e)
    ≡ (
      e.ssrc,
      if marked then entry_value e else record
          (entry_value e) { sending = still_sending horizons (sending_in e) },
    )) [
      | true ↦ refl
      | false ↦ elim (is_before (sending_in e) horizons.idle) as (λ idle. row_of (if idle then gone else e)
          ≡ (e.ssrc, record (entry_value e) { sending = (if idle then None else (sending_in e)) })) [
            | true ↦ refl
            | false ↦ refl
          ]
    ]

row_checked : (horizons : Horizons) (e : Entry) (rest : List Entry) (rows : List (ℕ × EntryValue)) → rows_of rest ≡ rows
    → rows_of (cond (outlasts horizons e) (lapsed horizons.idle e ∷ rest) rest) ≡ cons_option
    (updated_row (entry_after_check horizons) (row_of e)) rows
row_checked horizons e rest rows same =
    elim (is_removed horizons e.sighting (mark_in e)) as (λ removed. rows_of
    (cond (not removed) (lapsed horizons.idle e ∷ rest) rest)
    ≡ cons_option (option_map (λ entry. (e.ssrc, entry))
    (if removed then None else Some (kept horizons (entry_value e)))) rows) [
      | true ↦ same
      | false ↦ λ i. lapsed_row horizons e i ∷ same i
    ]

pub rows_checked : (horizons : Horizons) (entries : List Entry) →
    rows_of (checked horizons entries) ≡ filter_map
    (updated_row (entry_after_check horizons)) (rows_of entries)
rows_checked horizons [] = refl
rows_checked horizons (e ∷ entries) =
    row_checked horizons e (checked horizons entries)
    (filter_map (updated_row (entry_after_check horizons)) (rows_of entries)) (rows_checked horizons entries)

apart_step : (step : EntryValue → Option EntryValue) (key : ℕ) (value : Option EntryValue)
    (rows : List (ℕ × EntryValue)) → finite.find nat_cmp key rows ≡ None → IsApart rows →
    IsApart (cons_option (option_map (λ entry. (key, entry)) value) rows)
apart_step step key None rows none apart = apart
apart_step step key (Some value) rows none apart = (none, apart)

apart_updated : (step : EntryValue → Option EntryValue) (rows : List (ℕ × EntryValue)) → IsApart rows →
    IsApart (filter_map (updated_row step) rows)
apart_updated step [] apart = tt
apart_updated step (row ∷ rows) apart =
    apart_step step row.0 (step row.1) (filter_map (updated_row step) rows) (find_updated step row.0 rows apart.1
    ∙ ap (option_and_then step) apart.0) (apart_updated step rows apart.1)

pub apart_checked : (horizons : Horizons) (entries : List Entry) → IsApart (rows_of entries) →
    IsApart (rows_of (checked horizons entries))
apart_checked horizons entries apart = subst IsApart (sym (rows_checked horizons entries))
    (apart_updated (entry_after_check horizons) (rows_of entries) apart)

pub map_checked : (horizons : Horizons) (entries : List Entry) → IsApart (rows_of entries) →
    map_of (checked horizons entries) ≡ updated (entry_after_check horizons)
    (map_of entries)
map_checked horizons entries apart = ap finite.from_entries (rows_checked horizons entries)
    ∙ from_updated (entry_after_check horizons) (rows_of entries) apart

-- A closure that is the same after each call, and returns and changes by functions, leaves what they say.
pub retained : {X F : Type 0} (R : F → X → Bool → F → X → Type 0) (test : X → Bool) (change : X → X) (f : F)
    → ((x : X) (b : Bool) (g : F) (y : X) → R f x b g y → (b ≡ test x) × (g ≡ f) × (y ≡ change x))
    → (xs ys : List X) → RetainsInTurn R f xs ys → ys ≡ retain_mut test change xs
retained R test change f says [] ys h = h
retained R test change f says (x ∷ xs) ys h =
    let said = says x h.0 h.1 h.2 h.3 in
    let rest = retained R test change f says xs h.4 (subst (λ g. RetainsInTurn R g xs h.4) said.1 h.5) in
    h.6 ∙ (λ i. cond (said.0 i) (said.2 i ∷ rest i) (rest i))
