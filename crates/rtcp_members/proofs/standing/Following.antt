-- A table that stands at a trace: how much it holds, and what it is after a step.
use Rattle.std.proofs.Common.{◌≡◌, ℕ, Bool, true, false, cond, if◌then◌else◌, ◌==◌, nat_lt, List, [], ◌∷◌, Option, Some, None, is_some, option_map, option_and_then, nat_cmp, refl, sym, ap, subst, ◌∙◌}
use Rattle.std.proofs.lemmas.Bool.{eqb-true, eqb-false, eq-eqb, ne_eqb}
use Rattle.std.specs.Cmp.{nat_cmp_total, unsigned_tied}
use Rattle.std.specs.FinMap as map
use Rattle.rtcp_wire.specs.declared.fact.Fact.{Fact}
use Rattle.rtcp_wire.specs.Facts.{subject}
use Rattle.rtcp_members.specs.Traces.{Horizons, TraceStep, fact_came, check_made, names, with_facts}
use Rattle.rtcp_members.specs.Stays.{present_among, stay_of}
use Rattle.rtcp_members.specs.Entries.{EntryValue, is_such, entry_at, count_at}
use Rattle.rtcp_members.specs.Tables.{TableValue, StandsAt, no_members, changes, placed, has_room, entry_for, entry_after, after_fact, after_facts, entry_after_check, after_check, count_in}
use Rattle.rtcp_members.proofs.maps.Updated.{get_updated}
use Rattle.rtcp_members.proofs.maps.Counting.{has, same_passing, passing_entries, len_by_keys}
use Rattle.rtcp_members.proofs.stays.Naming.{room_at, names_are_once, present_is_named}
use Rattle.rtcp_members.proofs.stays.TraceStepLemmas.{kept_by, own_entry_at, other_entry_at, checked_entry_at}

-- ---- Counts

pub is_some_mapped : {X Y : Type 0} (f : X → Y) (o : Option X) → is_some (option_map f o) ≡ is_some o
is_some_mapped f None = refl
is_some_mapped f (Some x) = refl

module _ (table : TableValue) (trace : List TraceStep) (stands : StandsAt table trace) where
  entry_is_present : (ssrc : ℕ) → is_some (map.get table.entries ssrc) ≡ is_some (stay_of table.capacity trace ssrc)
  entry_is_present ssrc = ap is_some (stands ssrc) ∙ is_some_mapped _ (stay_of table.capacity trace ssrc)

  entry_is_named : (ssrc : ℕ) → is_some (map.get table.entries ssrc) ≡ true → has ssrc (names trace) ≡ true
  entry_is_named ssrc found = present_is_named table.capacity trace ssrc (sym (entry_is_present ssrc) ∙ found)

  -- It has an entry for each source that is present.
  pub len_is_present : map.len table.entries ≡ present_among (names trace) (stay_of table.capacity trace)
  len_is_present = len_by_keys (names trace) (names_are_once trace) table.entries entry_is_named
      ∙ same_passing _ _ entry_is_present (names trace)

  -- As many of its entries pass a test as of what the trace says of its sources.
  pub count_agrees : (test : EntryValue → Bool) → count_in test table ≡ count_at test table.capacity trace
  count_agrees test =
      passing_entries test (names trace) (names_are_once trace) table.entries entry_is_named
      ∙ same_passing _ _ (λ ssrc. ap (is_such test) (stands ssrc)) (names trace)

  -- So it has room where one more may be admitted.
  room_is_there : has_room table ≡ room_at table.capacity trace
  room_is_there = ap (λ n. nat_lt n table.capacity) len_is_present

-- ---- Facts

module _ (table : TableValue) (fact : Fact) (moment : ℕ) where
  abbrev next : EntryValue
  next = entry_after fact moment (entry_for table fact)

  -- the table, where b says whether the fact changes it
  abbrev written : Bool → TableValue
  written b = if b then record table { entries = map.insert table.entries (subject fact) next } else table

  same_bounds : (b : Bool) → (written b).capacity ≡ table.capacity
  same_bounds true = refl
  same_bounds false = refl

  get_subject : (b : Bool) → map.get (written b).entries (subject fact)
      ≡ (if b then Some next else map.get table.entries (subject fact))
  get_subject true =
      map.get-insert nat_cmp_total table.entries (subject fact) next (subject fact)
      ∙ ap (λ b. cond b (Some next) (map.get table.entries (subject fact))) (unsigned_tied (subject fact) (subject fact)
      ∙ eq-eqb (subject fact) (subject fact) refl)
  get_subject false = refl

  get_other : (ssrc : ℕ) → (subject fact == ssrc) ≡ false → (b : Bool) →
      map.get (written b).entries ssrc ≡ map.get table.entries ssrc
  get_other ssrc apart true =
      map.get-insert nat_cmp_total table.entries (subject fact) next ssrc
      ∙ ap (λ b. cond b (Some next) (map.get table.entries ssrc))
      (unsigned_tied ssrc (subject fact)
      ∙ ne_eqb ssrc (subject fact) (λ same. eqb-false (subject fact) ssrc apart (sym same)))
  get_other ssrc apart false = refl

  get_own : (ssrc : ℕ) → (subject fact == ssrc) ≡ true → map.get (after_fact fact moment table).entries ssrc
      ≡ kept_by fact moment (has_room table) (map.get table.entries ssrc)
  get_own ssrc own =
      subst (λ s. map.get (after_fact fact moment table).entries s ≡ kept_by fact moment (has_room table)
      (map.get table.entries s)) (eqb-true (subject fact) ssrc own) (get_subject (changes (placed table fact)))

module _ (table : TableValue) (trace : List TraceStep) (fact : Fact) (moment : ℕ) (stands : StandsAt table trace) where
  entry_follows : (ssrc : ℕ) → map.get (after_fact fact moment table).entries ssrc ≡ entry_at table.capacity
      (fact_came fact moment ∷ trace) ssrc
  entry_follows ssrc =
      elim (subject fact == ssrc) as (λ b. (subject fact == ssrc) ≡ b →
      map.get (after_fact fact moment table).entries ssrc ≡ entry_at table.capacity
      (fact_came fact moment ∷ trace) ssrc) [
        | true ↦ λ own. get_own table fact moment ssrc own
            ∙ (λ i. kept_by fact moment (room_is_there table trace stands i) (stands ssrc i))
            ∙ sym (own_entry_at table.capacity ssrc moment fact trace own)
        | false ↦ λ apart. get_other table fact moment ssrc apart (changes (placed table fact))
            ∙ stands ssrc
            ∙ sym (other_entry_at table.capacity ssrc moment fact trace apart)
      ] refl

  pub fact_follows : StandsAt (after_fact fact moment table) (fact_came fact moment ∷ trace)
  fact_follows ssrc =
      let same = same_bounds table fact moment (changes (placed table fact)) in
      entry_follows ssrc ∙ (λ i. entry_at (sym same i) (fact_came fact moment ∷ trace) ssrc)

pub facts_follow : (facts : List Fact) (table : TableValue) (trace : List TraceStep) (moment : ℕ) →
    StandsAt table trace → StandsAt (after_facts facts moment table) (with_facts facts moment trace)
facts_follow [] table trace moment stands = stands
facts_follow (fact ∷ facts) table trace moment stands = facts_follow facts (after_fact fact moment table)
    (fact_came fact moment ∷ trace) moment (fact_follows table trace fact moment stands)

-- ---- Checks

pub check_follows : (table : TableValue) (trace : List TraceStep) (horizons : Horizons) → StandsAt table trace →
    StandsAt (after_check horizons table) (check_made horizons ∷ trace)
check_follows table trace horizons stands ssrc =
    get_updated (entry_after_check horizons) table.entries ssrc
    ∙ ap (option_and_then (entry_after_check horizons)) (stands ssrc)
    ∙ sym (checked_entry_at table.capacity ssrc horizons trace)

-- ---- The empty table

pub none_stands : (capacity : ℕ) → StandsAt (no_members capacity) []
none_stands capacity ssrc = map.get-empty nat_cmp ssrc
