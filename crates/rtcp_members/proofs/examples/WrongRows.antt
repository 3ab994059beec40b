-- What would be wrong: each statement here is a law with a bound that is reached, and there is a trace or a table of
-- which it does not hold.
use Rattle.std.proofs.Common.{◌≡◌, ℕ, ◌<◌, ◌≤◌, List, [], ◌∷◌, ap, arith}
use Rattle.std.specs.FinMap as map
use Rattle.rtcp_wire.specs.declared.fact.Fact.{Fact}
use Rattle.rtcp_wire.specs.declared.fact.Fact.TheVariants.{Heard}
use Rattle.rtcp_members.specs.Traces.{TraceStep, fact_came, names}
use Rattle.rtcp_members.specs.Stays.{present_among, stay_of}
use Rattle.rtcp_members.specs.Tables.{TableValue, StandsAt, after_fact, no_members}
use Rattle.rtcp_members.proofs.LawLemmas.{tables_follow_traces-none, tables_follow_traces-fact, counts_agree-entries, bounds_are_kept-fact}

-- Nobody is present at first, whatever room there is.
as_many_present_as_room : ((capacity : ℕ) (trace : List TraceStep) →
    present_among (names trace) (stay_of capacity trace) ≡ capacity) → ⊥
as_many_present_as_room law =
    let two : 0 ≡ 2 = law 2 [] in
    omega (arith, two)

-- A table with room for one takes one.
abbrev one : TableValue
one = after_fact (Heard 7) 0 (no_members 1)

abbrev its_trace : List TraceStep
its_trace = fact_came (Heard 7) 0 ∷ []

one_stands : StandsAt one its_trace
one_stands = tables_follow_traces-fact (no_members 1) [] (Heard 7) 0 (tables_follow_traces-none 1)

table_below_capacity : ((table : TableValue) (fact : Fact) (moment : ℕ) → map.len table.entries ≤ table.capacity →
    map.len (after_fact fact moment table).entries < table.capacity) → ⊥
table_below_capacity law =
    let empty = counts_agree-entries (no_members 1) [] (tables_follow_traces-none 1) in
    let none : map.len (no_members 1).entries ≡ 0 = empty in
    let less = law (no_members 1) (Heard 7) 0 (omega (arith, none)) in
    let held = counts_agree-entries one its_trace one_stands in
    let room : one.capacity ≡ 1 = (bounds_are_kept-fact (no_members 1) (Heard 7) 0).capacity in
    let present : present_among (names its_trace) (stay_of one.capacity its_trace) ≡ 1 =
    ap (λ (capacity : ℕ). present_among (names its_trace) (stay_of capacity its_trace)) room in
    omega (arith, less, held, present)
