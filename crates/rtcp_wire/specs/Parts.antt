-- What the tests of the parts of a packet find, for the contracts between them.
use Rattle.std.specs.Prelude.{◌≡◌, ℕ, ◌≤◌, Bool, true, List, ◌++◌, length}
use Rattle.rtcp_wire.specs.Values.{ItemValue}
use Rattle.rtcp_wire.specs.Grammar.{Joins, IsItem, IsPadding}
use Rattle.rtcp_wire.specs.Readings.{size_of}
use Rattle.rtcp_wire.specs.Headers.{version_of, is_padded, padding_of, body_of}
use Rattle.rtcp_wire.specs.Faults.{IsCut, MayStand}

-- A part was taken from the start of the octets, and the rest is left.
abbrev pub TakesPrefix : List ℕ → List ℕ → (List ℕ → Type 0) → Type 0
TakesPrefix old new P = (prefix : List ℕ) × (old ≡ prefix ++ new) × P prefix

-- ---- Source descriptions

-- whole items, and then a cut one
pub record EndsInItems (octets : List ℕ) : Type 0 where
  pub items : List ItemValue
  pub middle : List ℕ
  pub cut : List ℕ
  pub parts : octets ≡ middle ++ cut
  pub each : Joins IsItem items middle
  pub ends : IsCut cut

-- an identifier, whole items, and then a cut one
pub record EndsInChunk (octets : List ℕ) : Type 0 where
  pub id : List ℕ
  pub after : List ℕ
  pub parts : octets ≡ id ++ after
  pub id_size : length id ≡ 4
  pub items : EndsInItems after

-- ---- Packets

-- The header is good where a packet should begin, and the packet is whole.
pub record IsWhole (is_first : Bool) (octets : List ℕ) : Type 0 where
  pub header : 4 ≤ length octets
  pub version : version_of octets ≡ 2
  pub size : size_of octets ≤ length octets
  pub may_stand : MayStand is_first octets

-- the padding of a packet is good, and this is its body
abbrev pub IsUnpadded : List ℕ → List ℕ → Type 0
IsUnpadded octets body =
    (body ≡ body_of octets) × (is_padded octets ≡ true → IsPadding (size_of octets) (padding_of octets))
