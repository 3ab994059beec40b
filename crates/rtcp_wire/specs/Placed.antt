-- Where octets stand in others.
use Rattle.std.specs.Prelude.{◌≡◌, ℕ, List, ◌++◌, length}

-- The part stands in the whole, after so many octets.
pub record StandsIn (place : ℕ) (part whole : List ℕ) : Type 0 where
  pub before : List ℕ
  pub after : List ℕ
  pub parts : whole ≡ before ++ (part ++ after)
  pub counted : length before ≡ place
