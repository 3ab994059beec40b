-- Facts that are applied part by part.
use Rattle.std.proofs.Common.{◌≡◌, ℕ, ◌||◌, Bool, List, [], ◌∷◌, ◌++◌, refl, ap, sym, ◌∙◌}
use Rattle.rtcp_wire.specs.declared.fact.Fact.{Fact}
use Rattle.rtcp_members.specs.Roles.{counts_differ, facts_move}
use Rattle.rtcp_members.specs.Tables.{TableValue, after_fact, after_facts}
use Rattle.std.proofs.Math.Bool.{or_assoc}

after_append : (one other : List Fact) (t : ℕ) (table : TableValue) →
    after_facts (one ++ other) t table ≡ after_facts other t (after_facts one t table)
after_append [] other t table = refl
after_append (fact ∷ one) other t table = after_append one other t (after_fact fact t table)

pub moves_append : (one other : List Fact) (t : ℕ) (table : TableValue) →
    facts_move (one ++ other) t table ≡ (facts_move one t table || facts_move other t (after_facts one t table))
moves_append [] other t table = refl
moves_append (fact ∷ one) other t table =
    ap (λ (b : Bool). counts_differ table (after_fact fact t table) || b)
    (moves_append one other t (after_fact fact t table))
    ∙ sym (or_assoc (counts_differ table (after_fact fact t table)) (facts_move one t (after_fact fact t table))
    (facts_move other t (after_facts (fact ∷ one) t table)))

-- What is left of some facts brings a table to what all of them bring it to, and moves whom they all move that was not
-- moved before.
pub record Leads (left all : List Fact) (t : ℕ) (table first : TableValue) (moved : Bool) : Type 0 where
  pub rest : after_facts left t table ≡ after_facts all t first
  pub moves : (moved || facts_move left t table) ≡ facts_move all t first

-- One part of what is left is applied.
pub leads_on : (one rest : List Fact) {left all : List Fact} {t : ℕ} {table first new : TableValue} {moved this : Bool}
    → left ≡ one ++ rest → new ≡ after_facts one t table → this ≡ facts_move one t table →
    Leads left all t table first moved → Leads rest all t new first (moved || this)
leads_on one rest {left} {all} {t} {table} {first} {new} {moved} {this} parts applied moves h = record {
  rest = ap (after_facts rest t) applied ∙ sym (after_append one rest t table)
      ∙ ap (λ (facts : List Fact). after_facts facts t table) (sym parts) ∙ h.rest;
  moves = or_assoc moved this (facts_move rest t new)
      ∙ (λ i. moved || (moves i || facts_move rest t (applied i)))
      ∙ ap (λ (b : Bool). moved || b) (sym (moves_append one rest t table))
      ∙ ap (λ (facts : List Fact). moved || facts_move facts t table) (sym parts) ∙ h.moves;
}
