-- What moves by the table moves by the trace.
use Rattle.std.proofs.Common.{◌≡◌, ℕ, suc, ◌+◌, ◌==◌, ◌&&◌, ◌||◌, not, Bool, true, false, List, [], ◌∷◌, length, arith, refl, sym, ap, ◌∙◌}
use Rattle.rtcp_wire.specs.declared.fact.Fact.{Fact}
use Rattle.rtcp_members.specs.Traces.{Horizons, TraceStep, fact_came, check_made, source_forgotten, with_facts}
use Rattle.rtcp_members.specs.Entries.{members_at, senders_at, step_moves, moved_within}
use Rattle.rtcp_members.specs.Tables.{TableValue, StandsAt, KeepsBounds, after_fact, after_check, after_forgetting, members_in, senders_in}
use Rattle.rtcp_members.specs.Roles.{counts_differ, facts_move, check_moves, forgetting_moves}
use Rattle.rtcp_members.proofs.standing.Counts.{members_agree, senders_agree}
use Rattle.rtcp_members.proofs.standing.Following.{fact_follows, check_follows}
use Rattle.rtcp_members.proofs.standing.Capacity.{fact_keeps_bounds, check_keeps_bounds, forgetting_keeps_bounds}
use Rattle.rtcp_members.proofs.standing.Removing.{forgetting_follows}

later_first : (a b c : Bool) → (a || (b || c)) ≡ ((b || a) || c)
later_first true true c = refl
later_first true false c = refl
later_first false true c = refl
later_first false false c = refl

module _ (before after : TableValue) (step : TraceStep) (trace : List TraceStep) (keeps : KeepsBounds before after)
    (stands : StandsAt before trace) (next : StandsAt after (step ∷ trace)) where
  members_then : members_in after ≡ members_at before.capacity (step ∷ trace)
  members_then = members_agree after (step ∷ trace) next
      ∙ (λ i. members_at (keeps.capacity i) (step ∷ trace))

  senders_then : senders_in after ≡ senders_at before.capacity (step ∷ trace)
  senders_then = senders_agree after (step ∷ trace) next
      ∙ (λ i. senders_at (keeps.capacity i) (step ∷ trace))

  -- one step
  pub step_agrees : counts_differ before after ≡ step_moves before.capacity step trace
  step_agrees = λ i. not ((members_then i == members_agree before trace stands i)
      && (senders_then i == senders_agree before trace stands i))

none_first : (n : ℕ) → 0 + n ≡ n
none_first n = omega arith

-- Facts and the steps before them.
pub facts_moved : (facts : List Fact) (moment steps : ℕ) (table : TableValue) (trace : List TraceStep) →
    StandsAt table trace
    → moved_within table.capacity (length facts + steps) (with_facts facts moment trace)
    ≡ (facts_move facts moment table || moved_within table.capacity steps trace)
facts_moved [] moment steps table trace stands = ap (λ n. moved_within table.capacity n trace)
    (none_first steps)
facts_moved (fact ∷ facts) moment steps table trace stands =
    let next = after_fact fact moment table in
    let step = fact_came fact moment in
    let keeps = fact_keeps_bounds table fact moment in
    let follows = fact_follows table trace fact moment stands in
    let one_later : suc (length facts) + steps ≡ length facts + suc steps = omega arith in
    let rest = facts_moved facts moment (suc steps) next (step ∷ trace) follows in
    let moved = facts_move facts moment next in
    ap (λ n. moved_within table.capacity n (with_facts facts moment (step ∷ trace))) one_later
    ∙ (λ i. moved_within (sym keeps.capacity i) (length facts + suc steps)
    (with_facts facts moment (step ∷ trace)))
    ∙ rest
    ∙ (λ i. moved || moved_within (keeps.capacity i) (suc steps) (step ∷ trace))
    ∙ ap (λ b. moved || (b || moved_within table.capacity steps trace))
    (sym (step_agrees table next step trace keeps stands follows))
    ∙ later_first moved (counts_differ table next) (moved_within table.capacity steps trace)

pub facts_alone_moved : (facts : List Fact) (moment : ℕ) (table : TableValue) (trace : List TraceStep) →
    StandsAt table trace
    → facts_move facts moment table ≡ moved_within table.capacity (length facts)
    (with_facts facts moment trace)
facts_alone_moved facts moment table trace stands =
    sym (ap (λ n. moved_within table.capacity n (with_facts facts moment trace)) (none_more (length facts))
    ∙ facts_moved facts moment 0 table trace stands ∙ or_none (facts_move facts moment table))
  where
    none_more : (n : ℕ) → n ≡ n + 0
    none_more n = omega arith

    or_none : (b : Bool) → (b || false) ≡ b
    or_none true = refl
    or_none false = refl

pub check_moved : (table : TableValue) (trace : List TraceStep) (horizons : Horizons) → StandsAt table trace
    → check_moves horizons table ≡ step_moves table.capacity (check_made horizons) trace
check_moved table trace horizons stands =
    step_agrees table (after_check horizons table) (check_made horizons) trace (check_keeps_bounds table horizons)
    stands (check_follows table trace horizons stands)

pub forgetting_moved : (table : TableValue) (trace : List TraceStep) (ssrc : ℕ) → StandsAt table trace
    → forgetting_moves ssrc table ≡ step_moves table.capacity (source_forgotten ssrc) trace
forgetting_moved table trace ssrc stands =
    step_agrees table (after_forgetting ssrc table) (source_forgotten ssrc) trace (forgetting_keeps_bounds table ssrc)
    stands (forgetting_follows table trace ssrc stands)
