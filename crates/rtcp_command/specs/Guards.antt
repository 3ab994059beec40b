-- What the option of a guard says.
use Rattle.std.specs.Prelude.{ℕ, ◌*◌, ◌==◌, ◌&&◌, nat_le, nat_lt, Bool, List, length, if◌then◌else◌, Option, Some, None, option_and_then, option_map}
use Rattle.std.specs.List.{after_first, before_first, position_or_len}
use Rattle.rtcp_text.specs.Numerals.{decimal_in}
use Rattle.rtcp_guarded_text.specs.declared.limits.GuardLimits.{GuardLimits}

-- 1 to 1,024 sources
abbrev pub names_in : List ℕ → Option ℕ
names_in text =
    option_and_then (λ names. if nat_le 1 names && nat_le names 1024 then Some names else None) (decimal_in 32 text)

-- 1 to 1,000,000,000 seconds, in microseconds
abbrev pub hold_in : List ℕ → Option ℕ
hold_in text =
    option_and_then (λ seconds. if nat_le 1 seconds && nat_le seconds 1000000000 then Some (seconds * 1000000) else
    None)
    (decimal_in 32 text)

abbrev pub limits_of : (hold : ℕ) → (names : ℕ) → GuardLimits
limits_of hold names = record { names = names; hold = hold }

-- so many sources, and this hold
abbrev pub guard_with : (names : List ℕ) → (hold : ℕ) → Option GuardLimits
guard_with names hold = option_map (limits_of hold) (names_in names)

-- whether a text has a comma (44)
abbrev pub has_comma : List ℕ → Bool
has_comma text = nat_lt (position_or_len (λ c. c == 44) text) (length text)

-- <sources>, held for 60 seconds, or <sources>,<seconds>
abbrev pub guard_in : List ℕ → Option GuardLimits
guard_in text =
    if has_comma text then
    option_and_then (guard_with (before_first (λ c. c == 44) text)) (hold_in (after_first (λ c. c == 44) text))
    else guard_with text 60000000

-- that of an option that need not be given
abbrev pub guard_given : Option (List ℕ) → Option (Option GuardLimits)
guard_given None = Some None
guard_given (Some text) = option_map Some (guard_in text)
