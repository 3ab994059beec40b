-- The table of hex digits holds their values.
use Rattle.std.proofs.Common.{◌≡◌, ℕ, ◌+◌, ◌*◌, ◌<◌, ◌≤◌, ◌⊎◌, inl, inr, Bool, true, ◌&&◌, eqb, ltb, Option, Some, None, Ok, Err, get_or, refl, arith}
use Rattle.std.proofs.lemmas.Bool.{agree_below_at, eqb-true}
use Rattle.std.proofs.lemmas.Bool.Decides.{nat_tests}
use Rattle.hex.specs.Hex.{hex_digit_value, pair_value}
use Rattle.hex.specs.declared.error.FromHexError.{FromHexError}
use Rattle.hex.specs.declared.error.FromHexError.TheVariants.{InvalidHexCharacter}
use Rattle.rtcp_text.specs.declared.digit_pairs.TheConstants.{DIGIT_VALUES}

-- a digit's value, or 255 for what is no digit
abbrev is_entry : Option ℕ → ℕ → Bool
is_entry (Some digit) value = eqb value digit && ltb digit 16
is_entry None value = eqb value 255

abbrev is_entry_of : ℕ → Bool
is_entry_of octet = is_entry (hex_digit_value octet) (get_or DIGIT_VALUES octet 0)

value_of_entry : (digit : Option ℕ) (value : ℕ) → is_entry digit value ≡ true → value < 16 → digit ≡ Some value
value_of_entry (Some digit) value entry small = grind (arith, nat_tests, entry)
value_of_entry None value entry small = absurd (omega (arith, eqb-true value 255 entry))

-- What the table has below 16 is the digit's value.
digit_in_table : (octet : ℕ) → octet < 256 → get_or DIGIT_VALUES octet 0 < 16 →
    hex_digit_value octet ≡ Some (get_or DIGIT_VALUES octet 0)
digit_in_table octet fits small =
    value_of_entry (hex_digit_value octet) (get_or DIGIT_VALUES octet 0)
    (agree_below_at is_entry_of (λ _. true) 256 octet refl fits) small

no_value_of_entry : (digit : Option ℕ) (value : ℕ) → is_entry digit value ≡ true → 16 ≤ value → digit ≡ None
no_value_of_entry (Some digit) value entry great = absurd (grind (arith, nat_tests, entry))
no_value_of_entry None value entry great = refl

-- What the table has from 16 on is no digit's value.
no_digit_in_table : (octet : ℕ) → octet < 256 → 16 ≤ get_or DIGIT_VALUES octet 0 → hex_digit_value octet ≡ None
no_digit_in_table octet fits great =
    no_value_of_entry (hex_digit_value octet) (get_or DIGIT_VALUES octet 0)
    (agree_below_at is_entry_of (λ _. true) 256 octet refl fits) great

-- Two octets of which one is no digit are refused.
pub refused_in_table : (high low i : ℕ) → high < 256 → low < 256
    → (16 ≤ get_or DIGIT_VALUES high 0) ⊎ ((get_or DIGIT_VALUES high 0 < 16) × (16 ≤ get_or DIGIT_VALUES low 0))
    → (fault : FromHexError) × (pair_value high low i ≡ Err fault)
refused_in_table high low i high_fits low_fits (inl great) =
    (InvalidHexCharacter high i, rw (no_digit_in_table high high_fits great) refl)
refused_in_table high low i high_fits low_fits (inr second) = (
  InvalidHexCharacter low (i + 1),
  rw (digit_in_table high high_fits second.0, no_digit_in_table low low_fits second.1) refl,
)

-- the octet of two digits
pub pair_in_table : (high low i : ℕ) → high < 256 → low < 256 → get_or DIGIT_VALUES high 0 < 16 →
    get_or DIGIT_VALUES low 0 < 16
    → pair_value high low i ≡ Ok (get_or DIGIT_VALUES high 0 * 16 + get_or DIGIT_VALUES low 0)
pair_in_table high low i high_fits low_fits high_small low_small =
    rw (digit_in_table high high_fits high_small, digit_in_table low low_fits low_small) refl
