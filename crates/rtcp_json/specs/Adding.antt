-- What a call writes by a writer of tokens.
use Rattle.std.specs.Prelude.{◌≡◌, List, [], ◌++◌, ◌∷◌, ℕ}
use Rattle.json.specs.Json.{Json}
use Rattle.json.specs.Token.{Token, key}
use Rattle.json.specs.Tree.{json_tokens}
use Rattle.json.specs.Written.{Written}

-- These tokens are appended, and what stood before the first of all stays.
pub record Adds (old new : Written) (added : List Token) : Type 0 where
  pub tokens : new.tokens ≡ old.tokens ++ added
  pub before : new.before ≡ old.before

abbrev pub AddsJson : Written → Written → Json → Type 0
AddsJson old new value = Adds old new (json_tokens value)

-- a field of an object: its name and its value
abbrev pub AddsField : Written → Written → (name : List ℕ) → Json → Type 0
AddsField old new name value = Adds old new (key name ∷ json_tokens value)

-- several fields, one after the other
abbrev pub fields_tokens : List (List ℕ × Json) → List Token
fields_tokens [] = []
fields_tokens (field ∷ fields) = key field.0 ∷ (json_tokens field.1 ++ fields_tokens fields)

abbrev pub AddsFields : Written → Written → List (List ℕ × Json) → Type 0
AddsFields old new fields = Adds old new (fields_tokens fields)
