-- A table that stands at a trace, after a block of a source.
use Rattle.std.proofs.Common.{◌≡◌, ◌≤◌, ◌+◌, ℕ, true, false, cond, if◌then◌else◌, ◌&&◌, ◌==◌, IsTrue, List, [], ◌∷◌, Option, Some, None, is_some, is_none, option_map, nat_cmp, arith, refl, sym, ap, subst, ◌∙◌}
use Rattle.std.proofs.lemmas.Bool.{eqb-true, eqb-false, eq-eqb, ne_eqb}
use Rattle.std.specs.Cmp.{nat_cmp_total, unsigned_tied}
use Rattle.std.specs.FinMap as map
use Rattle.rtcp_source.specs.Blocks.{news_of}
use Rattle.rtcp_source.proofs.LawLemmas.{summary_moves-block}
use Rattle.rtcp_members.specs.Traces.{TraceStep, block_made_of, names}
use Rattle.rtcp_members.specs.Stays.{mark_of, stay_with, stay_of}
use Rattle.rtcp_members.specs.Entries.{EntryValue, given_of, is_such, is_valid, sending_of, entry_of, entry_at}
use Rattle.rtcp_members.specs.Stays.{last_naming}
use Rattle.rtcp_members.specs.Tables.{TableValue, StandsAt, HasFew}
use Rattle.std.specs.Ordering.{eq_by_cmp}
use Rattle.rtcp_members.proofs.stays.Packets.{Few, few_at, has_few}
use Rattle.rtcp_members.specs.Pending.{is_due, is_due_at, EntryRow, reported_entry, with_reported, after_block, after_blocks}
use Rattle.rtcp_members.proofs.standing.Capacity.{block_keeps_bounds}
use Rattle.rtcp_members.proofs.stays.Staying.{entry_with, moved_entry, entry_unmarked, entry_marked, entry_moves}

-- ---- What is said of a source

own_block : (ssrc other : ℕ) (stay : List TraceStep) → (other == ssrc) ≡ true →
    moved_entry ssrc (block_made_of other) stay ≡ reported_entry (entry_with ssrc stay None)
own_block ssrc other stay own =
    rw own (ap (λ source. record {
      valid = is_valid ssrc stay;
      mark = None;
      sighting = last_naming ssrc stay;
      sending = sending_of ssrc stay;
      source = source;
    }) (summary_moves-block (given_of ssrc stay)))

other_block : (ssrc other : ℕ) (stay : List TraceStep) → (other == ssrc) ≡ false →
    moved_entry ssrc (block_made_of other) stay ≡ entry_with ssrc stay None
other_block ssrc other stay apart = rw apart refl

-- an entry after a block of its source, if it has no mark
abbrev pub reported_if : EntryValue → EntryValue
reported_if entry = if is_some entry.mark then entry else reported_entry entry

module _ (capacity ssrc other : ℕ) (trace : List TraceStep) where
  abbrev pub said_after_block : Option (List TraceStep) → Option EntryValue
  said_after_block stay = option_map (entry_of ssrc)
      (stay_with capacity (block_made_of other) (names trace) (stay_of capacity trace) ssrc stay)

  pub own_stay : (other == ssrc) ≡ true → (stay : Option (List TraceStep)) →
      said_after_block stay ≡ option_map reported_if (option_map (entry_of ssrc) stay)
  own_stay own None = refl
  own_stay own (Some stay) =
      elim (mark_of ssrc stay) as (λ m. mark_of ssrc stay ≡ m →
      said_after_block (Some stay) ≡ Some
      (if is_some m then entry_of ssrc stay else reported_entry (entry_of ssrc stay))) [
        | None ↦ λ unmarked. ap Some (entry_moves ssrc (block_made_of other) stay unmarked
            ∙ own_block ssrc other stay own ∙ ap reported_entry (sym (entry_unmarked ssrc stay unmarked)))
        | Some mark ↦ λ marked. ap Some (entry_marked ssrc (block_made_of other) stay mark marked)
      ] refl

  pub other_stay : (other == ssrc) ≡ false → (stay : Option (List TraceStep)) →
      said_after_block stay ≡ option_map (entry_of ssrc) stay
  other_stay apart None = refl
  other_stay apart (Some stay) =
      elim (mark_of ssrc stay) as (λ m. mark_of ssrc stay ≡ m →
      said_after_block (Some stay) ≡ Some (entry_of ssrc stay)) [
        | None ↦ λ unmarked. ap Some (entry_moves ssrc (block_made_of other) stay unmarked
            ∙ other_block ssrc other stay apart ∙ sym (entry_unmarked ssrc stay unmarked))
        | Some mark ↦ λ marked. ap Some (entry_marked ssrc (block_made_of other) stay mark marked)
      ] refl

-- ---- The table

-- a source of which a block is due has no mark
due_unmarked : (entry : EntryValue) → IsTrue (is_due entry) → is_some entry.mark ≡ false
due_unmarked entry due =
    elim entry.mark as (λ m. IsTrue (is_none m && news_of entry.source.run) → is_some m ≡ false) [
      | None ↦ λ t. refl
      | Some mark ↦ λ t. absurd cc
    ] due

module _ (table : TableValue) (trace : List TraceStep) (stands : StandsAt table trace) (reported : ℕ)
    (entry : EntryValue) (found : map.get table.entries reported ≡ Some entry)
    (unmarked : is_some entry.mark ≡ false) where
  abbrev next : TableValue
  next = with_reported reported table (Some entry)

  at_reported : map.get next.entries reported ≡ entry_at table.capacity (block_made_of reported ∷ trace)
      reported
  at_reported =
      map.get-insert nat_cmp_total table.entries reported (reported_entry entry) reported
      ∙ ap (λ b. cond b (Some (reported_entry entry)) (map.get table.entries reported))
      (unsigned_tied reported reported ∙ eq-eqb reported reported refl)
      ∙ ap (λ b. Some (if b then entry else reported_entry entry)) (sym unmarked)
      ∙ ap (option_map reported_if) (sym found ∙ stands reported)
      ∙ sym (own_stay table.capacity reported reported trace (eq-eqb reported reported refl)
      (stay_of table.capacity trace reported))

  at_other : (ssrc : ℕ) → (reported == ssrc) ≡ false → map.get next.entries ssrc ≡ entry_at table.capacity
      (block_made_of reported ∷ trace) ssrc
  at_other ssrc apart =
      map.get-insert nat_cmp_total table.entries reported (reported_entry entry) ssrc
      ∙ ap (λ b. cond b (Some (reported_entry entry)) (map.get table.entries ssrc))
      (unsigned_tied ssrc reported ∙ ne_eqb ssrc reported (λ same. eqb-false reported ssrc apart (sym same)))
      ∙ stands ssrc
      ∙ sym (other_stay table.capacity ssrc reported trace apart (stay_of table.capacity trace ssrc))

  block_stands : StandsAt next (block_made_of reported ∷ trace)
  block_stands ssrc =
      elim (reported == ssrc) as (λ b. (reported == ssrc) ≡ b →
      map.get next.entries ssrc ≡ entry_at table.capacity (block_made_of reported ∷ trace) ssrc) [
        | true ↦ λ own. subst (λ s. map.get next.entries s ≡ entry_at table.capacity
            (block_made_of reported ∷ trace) s) (eqb-true reported ssrc own) at_reported
        | false ↦ λ apart. at_other ssrc apart
      ] refl

-- After a block of a source that has news, a table stands at the trace with that block.
pub block_follows : (table : TableValue) (trace : List TraceStep) (ssrc : ℕ) → IsTrue (is_due_at ssrc table) →
    StandsAt table trace → StandsAt (after_block ssrc table) (block_made_of ssrc ∷ trace)
block_follows table trace ssrc due stands =
    elim (map.get table.entries ssrc) as (λ o. map.get table.entries ssrc ≡ o → IsTrue (is_such is_due o) →
    StandsAt (with_reported ssrc table o) (block_made_of ssrc ∷ trace)) [
      | None ↦ λ found t. absurd cc
      | Some entry ↦ λ found t. block_stands table trace stands ssrc entry found (due_unmarked entry t)
    ] refl due

-- ---- What a block leaves

len_same : (table : TableValue) (ssrc : ℕ) (entry : Option EntryValue) → map.get table.entries ssrc ≡ entry →
    map.len (with_reported ssrc table entry).entries ≡ map.len table.entries
len_same table ssrc None found = refl
len_same table ssrc (Some entry) found =
    map.len-insert nat_cmp_total table.entries ssrc (reported_entry entry)
    ∙ ap (λ o. cond (is_some o) (map.len table.entries) (map.len table.entries + 1)) found

pub block_keeps_capacity : (table : TableValue) (ssrc : ℕ) → map.len table.entries ≤ table.capacity →
    map.len (after_block ssrc table).entries ≤ table.capacity
block_keeps_capacity table ssrc within = omega (arith, within, len_same table ssrc (map.get table.entries ssrc) refl)

pub blocks_keep_capacity : (rows : List EntryRow) (table : TableValue) → map.len table.entries ≤ table.capacity →
    map.len (after_blocks rows table).entries ≤ table.capacity
blocks_keep_capacity [] table within = within
blocks_keep_capacity (row ∷ rows) table within =
    let same : (after_block row.0 table).capacity ≡ table.capacity = (block_keeps_bounds table row.0).capacity in
    let first : map.len (after_block row.0 table).entries ≤ (after_block row.0 table).capacity =
    omega (arith, same, block_keeps_capacity table row.0 within) in
    omega (arith, same, blocks_keep_capacity rows (after_block row.0 table) first)

few_reported : (packets : ℕ) (table : TableValue) (ssrc : ℕ) (entry : Option EntryValue) →
    map.get table.entries ssrc ≡ entry → HasFew packets table → HasFew packets (with_reported ssrc table entry)
few_reported packets table ssrc None found few = few
few_reported packets table ssrc (Some entry) found few =
    has_few packets (with_reported ssrc table (Some entry)) (λ q.
    subst (Few packets) (sym (map.get-insert nat_cmp_total table.entries ssrc (reported_entry entry) q))
    (elim (eq_by_cmp nat_cmp q ssrc) as (λ b. Few packets
    (cond b (Some (reported_entry entry)) (map.get table.entries q))) [
      | true ↦ few ssrc entry found
      | false ↦ few_at packets table few q
    ]))

-- A block gives no packet.
pub few_block : (packets : ℕ) (table : TableValue) (ssrc : ℕ) → HasFew packets table →
    HasFew packets (after_block ssrc table)
few_block packets table ssrc few = few_reported packets table ssrc (map.get table.entries ssrc) refl few
