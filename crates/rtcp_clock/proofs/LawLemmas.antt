-- The laws of `laws.rt`, as lemmas that crates above can cite.
use Rattle.std.proofs.Common.{ℕ, ◌*◌, ◌<◌, ◌≤◌, ◌^◌, arith}
use Rattle.std.proofs.Math.Nat.{mul-le-mul_left}
use Rattle.rtcp_clock.specs.Intervals.{drawn_interval, shortest_draw, longest_draw}

pub draw_within_bounds : (td : ℕ) (w : ℕ) → w < 2 ^ 32 →
    (shortest_draw td ≤ drawn_interval td w) × (drawn_interval td w ≤ longest_draw td)
draw_within_bounds td w in_range =
    let greatest : td * w ≤ td * 0xffffffff = mul-le-mul_left td (omega arith) in
    (omega arith, omega arith)

pub longest_never_falls : (td greater : ℕ) → td ≤ greater → longest_draw td ≤ longest_draw greater
longest_never_falls td greater le = omega (arith, le)
