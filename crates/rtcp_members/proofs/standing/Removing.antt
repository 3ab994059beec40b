-- A table once the host said that a source is gone.
use Rattle.std.proofs.Common.{◌≡◌, ℕ, Bool, true, false, cond, if◌then◌else◌, ◌&&◌, ◌==◌, List, ◌∷◌, Option, None, refl, sym, ap, subst, ◌∙◌}
use Rattle.std.proofs.lemmas.Bool.{eqb-true, eqb-false, eq-eqb, ne_eqb}
use Rattle.std.specs.Cmp.{nat_cmp_total, unsigned_tied}
use Rattle.std.specs.FinMap as map
use Rattle.rtcp_members.specs.Traces.{TraceStep, source_forgotten}
use Rattle.rtcp_members.specs.Entries.{EntryValue, is_such, entry_at}
use Rattle.rtcp_members.specs.Tables.{TableValue, StandsAt, HasFew, after_forgetting, is_unmarked}
use Rattle.rtcp_members.proofs.standing.Capacity.{forgetting_keeps_bounds}
use Rattle.rtcp_members.proofs.standing.Forgetting.{left_of, forgotten_entry_at}
use Rattle.rtcp_members.proofs.stays.Packets.{Few, few_at, has_few}

module _ (table : TableValue) (ssrc : ℕ) where
  left_if : (other : ℕ) (unmarked : Bool) →
      map.get (if unmarked then record table { entries = map.remove table.entries ssrc } else table).entries other
      ≡ (if other == ssrc && unmarked then None else map.get table.entries other)
  left_if other true =
      map.get-remove nat_cmp_total table.entries ssrc other
      ∙ ap (λ b. cond b None (map.get table.entries other)) (unsigned_tied other ssrc)
      ∙ elim (other == ssrc) as (λ b. cond b None (map.get table.entries other)
      ≡ (if b && true then None else map.get table.entries other)) [ true ↦ refl | false ↦ refl ]
  left_if other false = elim (other == ssrc) as (λ b. map.get table.entries other
      ≡ (if b && false then None else map.get table.entries other)) [ true ↦ refl | false ↦ refl ]

  -- Its own entry goes, if it has no mark, and no other.
  pub left_at : (other : ℕ) → map.get (after_forgetting ssrc table).entries other
      ≡ (if other == ssrc && is_such is_unmarked (map.get table.entries ssrc) then None else
      map.get table.entries other)
  left_at other = left_if other (is_such is_unmarked (map.get table.entries ssrc))

  own_left : map.get (after_forgetting ssrc table).entries ssrc ≡ left_of true (map.get table.entries ssrc)
  own_left = left_at ssrc
      ∙ ap (λ b. if b && is_such is_unmarked (map.get table.entries ssrc) then None else map.get table.entries ssrc)
      (eq-eqb ssrc ssrc refl)

  pub what_is_left : (other : ℕ) →
      map.get (after_forgetting ssrc table).entries other ≡ left_of (ssrc == other) (map.get table.entries other)
  what_is_left other =
      elim (ssrc == other) as (λ b. (ssrc == other) ≡ b →
      map.get (after_forgetting ssrc table).entries other ≡ left_of b (map.get table.entries other)) [
        | true ↦ λ own. subst (λ s. map.get (after_forgetting ssrc table).entries s
            ≡ left_of true (map.get table.entries s)) (eqb-true ssrc other own) own_left
        | false ↦ λ apart. left_at other
            ∙ ap (λ b. if b && is_such is_unmarked (map.get table.entries ssrc) then None else
            map.get table.entries other) (ne_eqb other ssrc (λ same. eqb-false ssrc other apart (sym same)))
      ] refl

pub forgetting_follows : (table : TableValue) (trace : List TraceStep) (ssrc : ℕ) → StandsAt table trace →
    StandsAt (after_forgetting ssrc table) (source_forgotten ssrc ∷ trace)
forgetting_follows table trace ssrc stands other =
    let keeps = forgetting_keeps_bounds table ssrc in
    what_is_left table ssrc other
    ∙ ap (left_of (ssrc == other)) (stands other)
    ∙ sym (forgotten_entry_at table.capacity other ssrc trace)
    ∙ (λ i. entry_at (sym keeps.capacity i) (source_forgotten ssrc ∷ trace) other)

few_left : (packets : ℕ) (own : Bool) (entry : Option EntryValue) → Few packets entry → Few packets (left_of own entry)
few_left packets own entry few =
    elim (own && is_such is_unmarked entry) as (λ b. Few packets (if b then None else entry)) [
      | true ↦ tt
      | false ↦ few
    ]

pub few_forgotten : (packets : ℕ) (table : TableValue) (ssrc : ℕ) → HasFew packets table →
    HasFew packets (after_forgetting ssrc table)
few_forgotten packets table ssrc few =
    has_few packets (after_forgetting ssrc table)
    (λ other. subst (Few packets) (sym (what_is_left table ssrc other))
    (few_left packets (ssrc == other) (map.get table.entries other) (few_at packets table few other)))
