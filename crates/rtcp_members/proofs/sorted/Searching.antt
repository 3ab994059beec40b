-- Where a source stands in a list by rising SSRC.
use Rattle.std.proofs.Common.{◌≡◌, ◌<◌, ℕ, suc, true, false, cond, List, [], ◌∷◌, length, set, Some, None, slice_get, slice_index_or, Result, Ok, Err, IsOk, is_ok, is_some, IsTrue, nat_cmp, inl, inr, arith, refl, sym, ap, ◌∙◌}
use Rattle.std.specs.Ordering.{eq_by_cmp}
use Rattle.std.specs.FinMap as finite
use Rattle.std.proofs.lemmas.Bool.{cases_lt}
use Rattle.std.proofs.lemmas.List.{set-get_or}
use Rattle.std.proofs.lemmas.Option.{slice_get-get_or, get_or_from_slice_get}
use Rattle.rtcp_members.specs.declared.entry.Entry.{Entry}
use Rattle.rtcp_members.specs.Entries.{is_such}
use Rattle.rtcp_members.specs.Tables.{TableValue, IsApart}
use Rattle.rtcp_members.specs.Pending.{is_due, is_due_at}
use Rattle.rtcp_members.specs.ListViews.{entry_value, rows_of, map_of, table_of, IsRankOf}
use Rattle.rtcp_members.specs.storage.SortedViews.{IsRising, IsGapFor, Locates}
use Rattle.rtcp_members.proofs.lists.Listing.{get_rows, find_set, tied_itself, tied_key}
use Rattle.rtcp_members.proofs.sorted.Rising.{rising_apart}

-- ---- Found

-- an entry of the source, which stands there, is the one that the map has
pub stands_found : (ssrc : ℕ) (entries : List Entry) (at : ℕ) (e : Entry) → IsApart (rows_of entries) →
    slice_get entries at ≡ Some e → e.ssrc ≡ ssrc → IsRankOf ssrc entries at
stands_found ssrc entries at e apart is same =
    let as_it_was : set entries at e ≡ entries = ap (set entries at) (sym (get_or_from_slice_get entries at e e is))
    ∙ set-get_or entries at e in
    record {
      entry = e;
      stands = is;
      its_ssrc = same;
      found = get_rows entries ssrc
          ∙ ap (λ k. finite.find nat_cmp k (rows_of entries)) (sym same)
          ∙ ap (λ (xs : List Entry). finite.find nat_cmp e.ssrc (rows_of xs)) (sym as_it_was)
          ∙ find_set entries at e e e.ssrc apart is refl
          ∙ ap (λ b. cond b (Some (entry_value e)) (finite.find nat_cmp e.ssrc (rows_of entries))) (tied_itself e.ssrc);
    }

-- so was one of which the SSRC was read
pub ssrc_found : (ssrc : ℕ) (entries : List Entry) (at its : ℕ) → IsRising entries → at < length entries →
    ((d : Entry) → its ≡ (slice_index_or entries at d).ssrc) → its ≡ ssrc → IsRankOf ssrc entries at
ssrc_found ssrc [] at its rising within read same = absurd (omega arith)
ssrc_found ssrc (x ∷ xs) at its rising within read same =
    let e : Entry = slice_index_or (x ∷ xs) at x in
    stands_found ssrc (x ∷ xs) at e (rising_apart (x ∷ xs) rising) (slice_get-get_or (x ∷ xs) at x within)
    (sym (read x) ∙ same)

-- ---- A gap

missing : (ssrc : ℕ) (entries : List Entry) →
    ((k : ℕ) (d : Entry) → k < length entries → (slice_index_or entries k d).ssrc ≡ ssrc → ⊥) →
    finite.find nat_cmp ssrc (rows_of entries) ≡ None
missing ssrc [] other = refl
missing ssrc (x ∷ xs) other =
    elim (eq_by_cmp nat_cmp ssrc x.ssrc) as (λ b. eq_by_cmp nat_cmp ssrc x.ssrc ≡ b →
    cond b (Some (entry_value x)) (finite.find nat_cmp ssrc (rows_of xs)) ≡ None) [
      | true ↦ λ tied. absurd (other 0 x (omega arith) (sym (tied_key ssrc x.ssrc tied)))
      | false ↦ λ tied. missing ssrc xs (λ k d within. other (suc k) d (omega arith))
    ] refl

-- no entry is of a source that has a gap
pub none_in_gap : (ssrc : ℕ) (entries : List Entry) (at : ℕ) → IsGapFor ssrc entries at →
    finite.get (map_of entries) ssrc ≡ None
none_in_gap ssrc entries at gap = get_rows entries ssrc ∙ missing ssrc entries apart_from
  where
    apart_from : (k : ℕ) (d : Entry) → k < length entries → (slice_index_or entries k d).ssrc ≡ ssrc → ⊥
    apart_from k d within same = elim (cases_lt k at) [
      | inl before ↦ omega (arith, gap.lesser k d before)
      | inr from ↦ omega (arith, gap.greater k d from within)
    ]

-- A source of which a block is due is found.
pub due_is_found : (ssrc capacity : ℕ) (entries : List Entry) (table : TableValue) (r : Result ℕ ℕ) →
    table_of capacity entries ≡ table → IsTrue (is_due_at ssrc table) → Locates ssrc entries r → IsOk r
due_is_found ssrc capacity entries table (Ok at) is due place = refl
due_is_found ssrc capacity entries table (Err at) is due absent =
    absurd (not_due (ap (is_such is_due) (sym (none_in_gap ssrc entries at absent)) ∙ ap (is_due_at ssrc) is ∙ due))
  where
    not_due : false ≡ true → ⊥
    not_due e = absurd cc

-- The search finds an entry exactly where the table has one.
pub found_is_held : (ssrc capacity : ℕ) (entries : List Entry) (table : TableValue) (found : Result ℕ ℕ) →
    table_of capacity entries ≡ table → Locates ssrc entries found
    → is_ok found ≡ is_some (finite.get table.entries ssrc)
found_is_held ssrc capacity entries table (Ok at) is place = sym (ap is_some place.found)
    ∙ ap (λ (t : TableValue). is_some (finite.get t.entries ssrc)) is
found_is_held ssrc capacity entries table (Err at) is absent =
    sym (ap is_some (none_in_gap ssrc entries at absent)) ∙ ap (λ (t : TableValue). is_some (finite.get t.entries ssrc))
    is
