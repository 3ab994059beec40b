-- Formulas of the transmission interval. Times are in microseconds, and `div_ceil` rounds up.
use Rattle.std.specs.Prelude.{ℕ, ◌+◌, ◌*◌, ◌/◌, ◌^◌}
use Rattle.std.specs.Int.{div_ceil}

-- A distance scaled by the members now over those before (RFC 3550, 6.3.4).
abbrev pub scaled_down : (d m pm : ℕ) → ℕ
scaled_down d m pm = d * m / pm

-- The drawn interval (6.3.1): the deterministic interval times 1/2 + w/2^32, over 1.21828.
abbrev pub drawn_interval : (td w : ℕ) → ℕ
drawn_interval td w = div_ceil (td * (2 ^ 31 + w) * 100000) (2 ^ 32 * 121828)

-- The shortest draw: the deterministic interval times 1/2, over 1.21828.
abbrev pub shortest_draw : (td : ℕ) → ℕ
shortest_draw td = div_ceil (100000 * td) (2 * 121828)

-- The longest draw: the deterministic interval times 3/2, over 1.21828.
abbrev pub longest_draw : (td : ℕ) → ℕ
longest_draw td = div_ceil (3 * 100000 * td) (2 * 121828)
