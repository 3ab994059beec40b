-- The deterministic interval is the least that its minimum and the bandwidth allow.
use Rattle.std.proofs.Common.{◌≡◌, ℕ, ◌*◌, ◌<◌, ◌≤◌, max, sym, subst, arith}
use Rattle.std.proofs.lemmas.Bool.Decides.{nat_tests}
use Rattle.std.proofs.Math.Nat.{le_trans, le-max_left, le-max_right, max-le, mul-le-mul_right}
use Rattle.rtcp_timer.specs.declared.load.Load.{Load}
use Rattle.rtcp_timer.specs.Loads.{Sharers, the_senders, the_others, everyone, sharers_of, count_of, bandwidth_of, interval_at_share, minimum_of, interval_of, KeepsToShare}
use Rattle.rtcp_timer.proofs.Quotients.{div_ceil_covers, div_ceil_least}

-- The interval is that of those who share.
pub by_sharers : (load : Load) → interval_of load ≡ max (minimum_of load.initial)
    (interval_at_share (sharers_of load) load)
by_sharers load = grind (arith, nat_tests)

some_share : (sharers : Sharers) (load : Load) → 1 ≤ load.sender_bw → 1 ≤ load.receiver_bw →
    0 < 256 * bandwidth_of sharers load
some_share the_senders load senders others = omega (arith, senders)
some_share the_others load senders others = omega (arith, others)
some_share everyone load senders others = omega (arith, senders)

pub keeps_to_share : (load : Load) → 1 ≤ load.sender_bw → 1 ≤ load.receiver_bw → KeepsToShare load (interval_of load)
keeps_to_share load senders others =
    let sharers = sharers_of load in
    let room = 256 * bandwidth_of sharers load in
    let by_share = interval_at_share sharers load in
    let covered = div_ceil_covers (1000000 * count_of sharers load * load.avg) room
    (some_share sharers load senders others) in
    let longer = mul-le-mul_right room (le-max_right (minimum_of load.initial) by_share) in
    subst (KeepsToShare load) (sym (by_sharers load)) (le_trans covered longer)

pub is_least : (load : Load) (interval : ℕ) → 1 ≤ load.sender_bw → 1 ≤ load.receiver_bw →
    minimum_of load.initial ≤ interval → KeepsToShare load interval → interval_of load ≤ interval
is_least load interval senders others long_enough keeps =
    let sharers = sharers_of load in
    let room = 256 * bandwidth_of sharers load in
    subst (λ (i : ℕ). i ≤ interval) (sym (by_sharers load))
    (max-le long_enough (div_ceil_least _ room interval (some_share sharers load senders others) keeps))

pub has_minimum : (load : Load) → minimum_of load.initial ≤ interval_of load
has_minimum load = le-max_left (minimum_of load.initial) _
