-- What options say that are numbers.
use Rattle.std.specs.Prelude.{ℕ, ◌&&◌, nat_le, List, if◌then◌else◌, Option, Some, None, option_and_then, option_map}
use Rattle.rtcp_text.specs.Numerals.{decimal_in}

-- a number within bounds
abbrev pub number_in : (least most : ℕ) → List ℕ → Option ℕ
number_in least most text =
    option_and_then (λ number. if nat_le least number && nat_le number most then Some number else None)
    (decimal_in 32 text)

-- that of an option that need not be given
abbrev pub number_given : (least most : ℕ) → Option (List ℕ) → Option (Option ℕ)
number_given least most None = Some None
number_given least most (Some text) = option_map Some (number_in least most text)
