-- Numbers and texts in plain words.
use Rattle.std.specs.Prelude.{ℕ, ◌+◌, ◌*◌, ◌/◌, ◌%◌, ◌^◌, List, [], ◌∷◌, ◌++◌, drop, codes}
use Rattle.std.specs.Fmt.{decimal}
use Rattle.std.specs.List.{flat_map}
use Rattle.core.specs.Char.Escape.{escape_ascii}

-- Units, a point, and the rest with as many digits as the unit has zeros: the digits of the unit and the rest, without
-- the first.
abbrev pub fixed_text : (unit number : ℕ) → List ℕ
fixed_text unit number = decimal (number / unit) ++ codes "." ++ drop 1 (decimal (unit + number % unit))

-- so many microseconds, in milliseconds
abbrev pub time_text : ℕ → List ℕ
time_text time = fixed_text 1000 time ++ codes "ms"

-- so many microseconds, in seconds
abbrev pub seconds_text : ℕ → List ℕ
seconds_text time = fixed_text 1000000 time ++ codes "s"

-- The microseconds of an NTP timestamp, rounded down: seconds in its upper 32 bits, and parts of one in the others.
abbrev pub ntp_time : ℕ → ℕ
ntp_time ntp = ntp / 2 ^ 32 * 1000000 + ntp % 2 ^ 32 * 1000000 / 2 ^ 32

-- The microseconds of so many 1/65,536 of a second, rounded down.
abbrev pub middle_time : ℕ → ℕ
middle_time middle = middle * 1000000 / 65536

-- A text between double quotes (34), with the escapes of Rust's `escape_ascii`: what a peer sends may control a
-- terminal.
abbrev pub quoted_text : List ℕ → List ℕ
quoted_text text = 34 ∷ flat_map escape_ascii text ++ 34 ∷ []
