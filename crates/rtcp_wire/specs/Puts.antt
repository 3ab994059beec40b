-- A part of the octets, written in its place.
use Rattle.std.specs.Prelude.{◌≡◌, ℕ, ◌+◌, ◌≤◌, List, ◌++◌, length, take, drop}

-- The octets from `at` up to `end` are the part, and all others are as they were.
pub record IsPut (old new : List ℕ) (at : ℕ) (part : List ℕ) (end : ℕ) : Type 0 where
  pub ends : end ≡ at + length part
  pub room : end ≤ length old
  pub octets : new ≡ take at old ++ (part ++ drop end old)
