-- Quotients, rounded up and down.
use Rattle.std.proofs.Common.{ℕ, ◌+◌, ◌*◌, ◌<◌, ◌≤◌, arith}
use Rattle.std.specs.Int.{div_ceil}
use Rattle.std.proofs.Math.Nat.{div-le_of_le-mul, lt_of_mul-lt-mul_right}
use Rattle.std.proofs.lemmas.Grind.{div_ceil_times}
use Rattle.rtcp_clock.specs.Intervals.{scaled_down}

-- A quotient that is rounded up is enough,
pub div_ceil_covers : (n d : ℕ) → 0 < d → n ≤ div_ceil n d * d
div_ceil_covers n d some = (div_ceil_times n d some).0

-- and no less is.
pub div_ceil_least : (n d k : ℕ) → 0 < d → n ≤ k * d → div_ceil n d ≤ k
div_ceil_least n d k some enough =
    let times = div_ceil_times n d some in
    let below : div_ceil n d * d < (k + 1) * d = omega (arith, times.1) in
    let less : div_ceil n d < k + 1 = lt_of_mul-lt-mul_right d below in
    omega arith

-- A distance scaled by no more members is no longer.
pub scaled_down_shorter : (d m pm : ℕ) → m ≤ pm → scaled_down d m pm ≤ d
scaled_down_shorter d m pm fewer = div-le_of_le-mul pm (grind arith)
