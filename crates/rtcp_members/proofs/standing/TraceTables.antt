-- A trace has one table.
use Rattle.std.proofs.Common.{◌≡◌, ℕ, Bool, true, false, cond, if◌then◌else◌, ◌==◌, ◌||◌, List, [], ◌∷◌, Option, Some, None, is_some, option_map, filter_map, nat_cmp, refl, sym, ap, ◌∙◌}
use Rattle.std.proofs.lemmas.Bool.{eqb-true}
use Rattle.std.proofs.lemmas.Cmp.{eq_by_cmp_equiv}
use Rattle.std.specs.List.{cons_option}
use Rattle.std.specs.Ordering.{eq_by_cmp}
use Rattle.std.specs.Cmp.{nat_cmp_total, unsigned_tied}
use Rattle.std.specs.FinMap as map
use Rattle.std.specs.FinMap.{nat_cmp-IsAntisymmetric}
use Rattle.rtcp_members.specs.Traces.{TraceStep, names}
use Rattle.rtcp_members.specs.Stays.{stay_of}
use Rattle.rtcp_members.specs.Entries.{EntryValue, entry_at, entry_of}
use Rattle.rtcp_members.specs.Tables.{TableValue, StandsAt, table_at}
use Rattle.rtcp_members.proofs.maps.Counting.{has}
use Rattle.rtcp_members.proofs.stays.Naming.{present_is_named}
use Rattle.rtcp_members.proofs.standing.Following.{is_some_mapped}

not_named : false ≡ true → ⊥
not_named e = absurd cc

abbrev pub row_by : (ℕ → Option EntryValue) → ℕ → Option (ℕ × EntryValue)
row_by entry ssrc = option_map (λ e. (ssrc, e)) (entry ssrc)

-- ---- Rows of names

pub tied : (q ssrc : ℕ) → eq_by_cmp nat_cmp q ssrc ≡ (ssrc == q)
tied q ssrc = (eq_by_cmp_equiv nat_cmp_total).symm q ssrc ∙ unsigned_tied ssrc q

module _ (q ssrc : ℕ) (rows : List (ℕ × EntryValue)) where
  past_other : (ssrc == q) ≡ false → (entry : Option EntryValue) →
      map.find nat_cmp q (cons_option (option_map (λ e. (ssrc, e)) entry) rows) ≡ map.find nat_cmp q rows
  past_other apart None = refl
  past_other apart (Some entry) = ap (λ b. cond b (Some entry) (map.find nat_cmp q rows)) (tied q ssrc ∙ apart)

  at_own : (ssrc == q) ≡ true → (entry : Option EntryValue) → (entry ≡ None → map.find nat_cmp q rows ≡ None) →
      map.find nat_cmp q (cons_option (option_map (λ e. (ssrc, e)) entry) rows) ≡ entry
  at_own same None rest = rest refl
  at_own same (Some entry) rest = ap (λ b. cond b (Some entry) (map.find nat_cmp q rows)) (tied q ssrc ∙ same)

either_none : (b : Bool) (entry : Option EntryValue) → entry ≡ None → (if b then entry else None) ≡ None
either_none true entry none = none
either_none false entry none = refl

-- what a key finds among the rows of some names
pub found_by : (entry : ℕ → Option EntryValue) (named : List ℕ) (q : ℕ) →
    map.find nat_cmp q (filter_map (row_by entry) named) ≡ (if has q named then entry q else None)
found_by entry [] q = refl
found_by entry (ssrc ∷ named) q =
    let rows = filter_map (row_by entry) named in
    elim (ssrc == q) as (λ b. (ssrc == q) ≡ b → map.find nat_cmp q (filter_map (row_by entry) (ssrc ∷ named))
    ≡ (if b || has q named then entry q else None)) [
      | true ↦ λ same.
          let own : entry ssrc ≡ entry q = ap entry (eqb-true ssrc q same) in
          at_own q ssrc rows same (entry ssrc)
          (λ none. found_by entry named q ∙ either_none (has q named) (entry q) (sym own ∙ none)) ∙ own
      | false ↦ λ apart. past_other q ssrc rows apart (entry ssrc) ∙ found_by entry named q
    ] refl

-- ---- The table of a trace

pub entry_if_named : (b : Bool) (entry : Option EntryValue) → (is_some entry ≡ true → b ≡ true) →
    (if b then entry else None) ≡ entry
entry_if_named true entry named = refl
entry_if_named false None named = refl
entry_if_named false (Some entry) named = absurd (not_named (named refl))

-- The table of a trace stands at it.
pub table_stands : (capacity : ℕ) (trace : List TraceStep) → StandsAt (table_at capacity trace) trace
table_stands capacity trace ssrc =
    let entry : ℕ → Option EntryValue = entry_at capacity trace in
    map.get-from_entries nat_cmp_total (filter_map (row_by entry) (names trace)) ssrc
    ∙ found_by entry (names trace) ssrc
    ∙ entry_if_named (has ssrc (names trace)) (entry ssrc)
    (λ some. present_is_named capacity trace ssrc
    (sym (is_some_mapped (entry_of ssrc) (stay_of capacity trace ssrc)) ∙ some))

-- No other does.
pub only_table : (table : TableValue) (trace : List TraceStep) → StandsAt table trace →
    table ≡ table_at table.capacity trace
only_table table trace stands =
    ap (λ m. record table { entries = m })
    (map.same_map nat_cmp_total nat_cmp-IsAntisymmetric table.entries (table_at table.capacity trace).entries
    (λ q. stands q ∙ sym (table_stands table.capacity trace q)))
