-- How the average size of compounds (RFC 3550, 6.3.3) moves, in 1/256 octet.
use Rattle.std.specs.Prelude.{ℕ, ◌+◌, ◌*◌, ◌/◌, ◌≤◌}
use Rattle.rtcp_timer.specs.Loads.{with_headers}

-- the average after one more compound
abbrev pub moved_average : (average size : ℕ) → ℕ
moved_average average size = (256 * with_headers size + 15 * average) / 16

-- A number lies between two others, both included.
abbrev pub IsBetween : (low high number : ℕ) → Type 0
IsBetween low high number = (low ≤ number) × (number ≤ high)
