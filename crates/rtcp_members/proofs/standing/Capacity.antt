-- How many entries a table has after a step.
use Rattle.std.proofs.Common.{◌≡◌, ◌≤◌, ◌+◌, ◌-◌, ℕ, suc, Bool, true, false, cond, if◌then◌else◌, nat_lt, List, [], ◌∷◌, length, Option, Some, None, is_some, option_map, filter_map, nat_cmp, arith, refl, ◌∙◌, le_trans, le_of_eq, le_refl, zero-le}
use Rattle.std.proofs.lemmas.Bool.{ltb-true}
use Rattle.std.specs.List.{cons_option}
use Rattle.std.specs.Cmp.{nat_cmp_total}
use Rattle.std.specs.FinMap as map
use Rattle.rtcp_wire.specs.declared.fact.Fact.{Fact}
use Rattle.rtcp_members.specs.declared.table.Place.TheVariants.{Added, NoRoom, Ignored}
use Rattle.rtcp_wire.specs.Facts.{subject, is_gone}
use Rattle.rtcp_members.specs.Traces.{Horizons}
use Rattle.rtcp_members.specs.Entries.{EntryValue, is_such}
use Rattle.rtcp_members.specs.Pending.{EntryRow, with_reported, after_block, after_blocks}
use Rattle.rtcp_members.specs.Tables.{EntryMap, TableValue, KeepsBounds, changes, placed, place_of, entry_after, entry_for, after_fact, after_facts, entry_after_check, after_check, after_forgetting, is_unmarked, updated_row, updated, no_members}

-- ---- Capacity

kept_if : (b : Bool) (table : TableValue) (entries : EntryMap) →
    KeepsBounds table (if b then record table { entries = entries } else table)
kept_if true table entries = record { capacity = refl }
kept_if false table entries = record { capacity = refl }

kept_twice : (old next last : TableValue) → KeepsBounds old next → KeepsBounds next last → KeepsBounds old last
kept_twice old next last first second = record {
  capacity = second.capacity ∙ first.capacity;
}

pub fact_keeps_bounds : (table : TableValue) (fact : Fact) (moment : ℕ) →
    KeepsBounds table (after_fact fact moment table)
fact_keeps_bounds table fact moment =
    kept_if (changes (placed table fact)) table
    (map.insert table.entries (subject fact) (entry_after fact moment (entry_for table fact)))

pub facts_keep_bounds : (facts : List Fact) (table : TableValue) (moment : ℕ) →
    KeepsBounds table (after_facts facts moment table)
facts_keep_bounds [] table moment = record { capacity = refl }
facts_keep_bounds (fact ∷ facts) table moment =
    kept_twice table (after_fact fact moment table) _ (fact_keeps_bounds table fact moment)
    (facts_keep_bounds facts (after_fact fact moment table) moment)

pub check_keeps_bounds : (table : TableValue) (horizons : Horizons) → KeepsBounds table (after_check horizons table)
check_keeps_bounds table horizons = record { capacity = refl }

pub forgetting_keeps_bounds : (table : TableValue) (ssrc : ℕ) → KeepsBounds table (after_forgetting ssrc table)
forgetting_keeps_bounds table ssrc =
    kept_if (is_such is_unmarked (map.get table.entries ssrc)) table (map.remove table.entries ssrc)

reported_keeps : (table : TableValue) (ssrc : ℕ) (entry : Option EntryValue) →
    KeepsBounds table (with_reported ssrc table entry)
reported_keeps table ssrc None = record { capacity = refl }
reported_keeps table ssrc (Some entry) = record { capacity = refl }

pub block_keeps_bounds : (table : TableValue) (ssrc : ℕ) → KeepsBounds table (after_block ssrc table)
block_keeps_bounds table ssrc = reported_keeps table ssrc (map.get table.entries ssrc)

pub blocks_keep_bounds : (rows : List EntryRow) (table : TableValue) → KeepsBounds table (after_blocks rows table)
blocks_keep_bounds [] table = record { capacity = refl }
blocks_keep_bounds (row ∷ rows) table =
    kept_twice table (after_block row.0 table) _ (block_keeps_bounds table row.0)
    (blocks_keep_bounds rows (after_block row.0 table))

-- ---- Facts

len_if : (b : Bool) (table next : TableValue) → map.len (if b then next else table).entries ≡ cond b
    (map.len next.entries) (map.len table.entries)
len_if true table next = refl
len_if false table next = refl

-- Where an entry is added there is room for it.
len_after : (fact : Fact) (entry : Option EntryValue) (len capacity : ℕ) → len ≤ capacity
    → cond (changes (place_of fact entry (nat_lt len capacity))) (cond (is_some entry) len (len + 1)) len ≤ capacity
len_after fact (Some entry) len capacity within =
    elim (changes (place_of fact (Some entry) (nat_lt len capacity))) as (λ b. cond b len len ≤ capacity) [
      | true ↦
          within
      | false ↦ within
    ]
len_after fact None len capacity within =
    elim (is_gone fact) as (λ gone. cond
    (changes (if gone then Ignored else (if nat_lt len capacity then Added else NoRoom))) (len + 1) len
    ≤ capacity) [
      | true ↦ within
      | false ↦ elim (nat_lt len capacity) as (λ room. nat_lt len capacity ≡ room →
          cond (changes (if room then Added else NoRoom)) (len + 1) len ≤ capacity) [
            | true ↦ λ room. omega (arith, ltb-true len capacity room)
            | false ↦ λ _. within
          ] refl
    ]

pub fact_keeps_capacity : (table : TableValue) (fact : Fact) (moment : ℕ) → map.len table.entries ≤ table.capacity →
    map.len (after_fact fact moment table).entries ≤ table.capacity
fact_keeps_capacity table fact moment within =
    rw (len_if (changes (placed table fact)) table, map.len-insert nat_cmp_total table.entries (subject fact))
    (len_after fact (map.get table.entries (subject fact)) (map.len table.entries) table.capacity within)

-- A fact adds one entry at most.
one_at_most : (added held : Bool) (len : ℕ) → cond added (cond held len (len + 1)) len ≤ len + 1
one_at_most true true len = omega arith
one_at_most added held len = omega arith

pub fact_adds_one : (table : TableValue) (fact : Fact) (moment : ℕ) →
    map.len (after_fact fact moment table).entries ≤ map.len table.entries + 1
fact_adds_one table fact moment =
    rw (len_if (changes (placed table fact)) table, map.len-insert nat_cmp_total table.entries (subject fact))
    (one_at_most (changes (placed table fact)) (is_some (map.get table.entries (subject fact)))
    (map.len table.entries))

pub facts_keep_capacity : (facts : List Fact) (table : TableValue) (moment : ℕ) →
    map.len table.entries ≤ table.capacity → map.len (after_facts facts moment table).entries ≤ table.capacity
facts_keep_capacity [] table moment within = within
facts_keep_capacity (fact ∷ facts) table moment within =
    let same : (after_fact fact moment table).capacity ≡ table.capacity =
    (fact_keeps_bounds table fact moment).capacity in
    let first : map.len (after_fact fact moment table).entries ≤ (after_fact fact moment table).capacity =
    omega (arith, same, fact_keeps_capacity table fact moment within) in
    omega (arith, same, facts_keep_capacity facts (after_fact fact moment table) moment first)

-- ---- Checks

length_updated : (step : EntryValue → Option EntryValue) (rows : List (ℕ × EntryValue)) →
    length (filter_map (updated_row step) rows) ≤ length rows
length_updated step [] = le_refl 0
length_updated step (row ∷ rows) =
    let rest = length_updated step rows in
    elim (step row.1) as (λ entry. length
    (cons_option (option_map (λ e. (row.0, e)) entry) (filter_map (updated_row step) rows)) ≤ suc (length rows)) [
      | None ↦ omega arith
      | Some e ↦ omega arith
    ]

len_from_rows : (rows : List (ℕ × EntryValue)) → map.len (map.from_entries {R = nat_cmp} rows) ≤ length rows
len_from_rows [] = le_of_eq (map.len-empty nat_cmp EntryValue)
len_from_rows (row ∷ rows) =
    let rest = len_from_rows rows in
    let entries : EntryMap = map.from_entries rows in
    rw (map.len-insert nat_cmp_total entries row.0 row.1)
    (elim (map.contains_key entries row.0) as (λ b. cond b (map.len entries) (map.len entries + 1) ≤ suc
    (length rows)) [ true ↦ omega arith | false ↦ omega arith ])

pub len_updated : (step : EntryValue → Option EntryValue) (entries : EntryMap) →
    map.len (updated step entries) ≤ map.len entries
len_updated step entries =
    rw (map.len-entries entries) (le_trans (len_from_rows (filter_map (updated_row step) (map.entries entries)))
    (length_updated step (map.entries entries)))

pub check_keeps_capacity : (table : TableValue) (horizons : Horizons) → map.len table.entries ≤ table.capacity →
    map.len (after_check horizons table).entries ≤ table.capacity
check_keeps_capacity table horizons within = le_trans (len_updated (entry_after_check horizons) table.entries) within

-- ---- Sources that are gone

len_removed : (entries : EntryMap) (ssrc : ℕ) → map.len (map.remove entries ssrc) ≤ map.len entries
len_removed entries ssrc =
    rw (map.len-remove nat_cmp_total entries ssrc)
    (elim (map.contains_key entries ssrc) as (λ b. cond b (map.len entries - 1) (map.len entries) ≤ map.len entries) [
      | true ↦ omega arith
      | false ↦ le_refl _
    ])

pub forgetting_adds_none : (table : TableValue) (ssrc : ℕ) →
    map.len (after_forgetting ssrc table).entries ≤ map.len table.entries
forgetting_adds_none table ssrc =
    elim (is_such is_unmarked (map.get table.entries ssrc)) as (λ b. map.len
    (if b then record table { entries = map.remove table.entries ssrc } else table).entries ≤ map.len table.entries) [
      | true ↦ len_removed table.entries ssrc
      | false ↦ le_refl _
    ]

pub forgetting_keeps_capacity : (table : TableValue) (ssrc : ℕ) → map.len table.entries ≤ table.capacity →
    map.len (after_forgetting ssrc table).entries ≤ table.capacity
forgetting_keeps_capacity table ssrc within = le_trans (forgetting_adds_none table ssrc) within

-- ---- The empty table

pub none_within : (capacity : ℕ) → map.len (no_members capacity).entries ≤ capacity
none_within capacity = rw (map.len-empty nat_cmp EntryValue) zero-le
