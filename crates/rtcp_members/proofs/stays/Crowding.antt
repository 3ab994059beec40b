-- At most as many sources are present as there is room for.
use Rattle.std.proofs.Common.{◌≡◌, ◌≤◌, ℕ, true, is_some, List, [], ◌∷◌, length, filter, Option, Some, None, refl, ap, arith}
use Rattle.rtcp_members.specs.Traces.{TraceStep, fact_came, check_made, block_made_of, source_forgotten, names}
use Rattle.rtcp_members.specs.Stays.{present_among, stay_with, stay_of}
use Rattle.rtcp_members.specs.Tables.{after_fact, after_check, table_at}
use Rattle.rtcp_members.proofs.standing.Capacity.{fact_keeps_bounds, check_keeps_bounds, fact_keeps_capacity, check_keeps_capacity}
use Rattle.rtcp_members.proofs.standing.Growing.{more_pass}
use Rattle.rtcp_members.proofs.standing.Following.{fact_follows, check_follows, len_is_present}
use Rattle.rtcp_members.proofs.standing.TraceTables.{table_stands}

-- a block leaves present who is
still_there : (capacity reported : ℕ) (earlier : List TraceStep) (ssrc : ℕ) (stay : Option (List TraceStep))
    → is_some (stay_with capacity (block_made_of reported) (names earlier) (stay_of capacity earlier) ssrc stay)
    ≡ is_some stay
still_there capacity reported earlier ssrc None = refl
still_there capacity reported earlier ssrc (Some stay) = refl

-- who is there once the host said that a source is gone was there before
was_there : (capacity forgotten : ℕ) (earlier : List TraceStep) (ssrc : ℕ) (stay : Option (List TraceStep))
    → is_some (stay_with capacity (source_forgotten forgotten) (names earlier) (stay_of capacity earlier) ssrc stay)
    ≡ true → is_some stay ≡ true
was_there capacity forgotten earlier ssrc None there = there
was_there capacity forgotten earlier ssrc (Some stay) there = refl

pub present_fit : (capacity : ℕ) (trace : List TraceStep) → present_among (names trace) (stay_of capacity trace)
    ≤ capacity
present_fit capacity [] = omega arith
present_fit capacity (fact_came fact moment ∷ earlier) =
    let table = table_at capacity earlier in
    let stands = table_stands capacity earlier in
    let next = after_fact fact moment table in
    let within = fact_keeps_capacity table fact moment
    (omega (arith, len_is_present table earlier stands, present_fit capacity earlier)) in
    let same = (fact_keeps_bounds table fact moment).capacity in
    omega (
      arith,
      within,
      len_is_present next (fact_came fact moment ∷ earlier) (fact_follows table earlier fact moment stands),
      ap (λ (c : ℕ). present_among (names (fact_came fact moment ∷ earlier))
          (stay_of c (fact_came fact moment ∷ earlier))) same,
    )
present_fit capacity (check_made horizons ∷ earlier) =
    let table = table_at capacity earlier in
    let stands = table_stands capacity earlier in
    let next = after_check horizons table in
    let within = check_keeps_capacity table horizons
    (omega (arith, len_is_present table earlier stands, present_fit capacity earlier)) in
    let same = (check_keeps_bounds table horizons).capacity in
    omega (
      arith,
      within,
      len_is_present next (check_made horizons ∷ earlier) (check_follows table earlier horizons stands),
      ap (λ (c : ℕ). present_among (names (check_made horizons ∷ earlier)) (stay_of c (check_made horizons ∷ earlier)))
          same,
    )
present_fit capacity (block_made_of reported ∷ earlier) =
    let others : present_among (names earlier) (stay_of capacity (block_made_of reported ∷ earlier)) ≡ present_among
    (names earlier) (stay_of capacity earlier) =
    λ i. length (filter (λ (ssrc : ℕ). still_there capacity reported earlier ssrc (stay_of capacity earlier ssrc) i)
    (names earlier)) in
    omega (arith, others, present_fit capacity earlier)
present_fit capacity (source_forgotten forgotten ∷ earlier) =
    let next = stay_of capacity (source_forgotten forgotten ∷ earlier) in
    let fewer = more_pass (λ (ssrc : ℕ). is_some (next ssrc)) (λ (ssrc : ℕ). is_some (stay_of capacity earlier ssrc))
    (λ ssrc there. was_there capacity forgotten earlier ssrc (stay_of capacity earlier ssrc) there) (names earlier) in
    omega (arith, fewer, present_fit capacity earlier)
