-- Numbers and octets as fields of a line and options of a command line write them.
use Rattle.std.specs.Prelude.{ℕ, ◌^◌, ◌==◌, ◌&&◌, Bool, nat_le, nat_lt, List, [], length, if◌then◌else◌, Option, Some, None, option_map, codes}
use Rattle.std.specs.Char.{is_digit}
use Rattle.std.specs.Int.{Width, byte_len, from_be_bytes}
use Rattle.std.specs.List.{list_all}
use Rattle.std.specs.Result.{result_ok}
use Rattle.std.specs.Str.{bytes_eq}
use Rattle.std.specs.Str.Parse.{digits_value}
use Rattle.hex.specs.Hex.{decode_of, decode_sized}

-- ---- Decimal

abbrev pub is_decimal : List ℕ → Bool
is_decimal text =
    nat_le 1 (length text) && nat_le (length text) 20 && list_all (λ digit. is_digit digit 10) text

-- The number that 1 to 20 decimal digits write, where it is below 2 ^ bits.
abbrev pub decimal_in : (bits : ℕ) → List ℕ → Option ℕ
decimal_in bits text =
    if is_decimal text && nat_lt (digits_value 10 text) (2 ^ bits) then Some (digits_value 10 text) else None

-- ---- Hex of either case

-- The number that two digits an octet write, the highest octet first: eight digits at 32 bits.
abbrev pub hex_in : Width → List ℕ → Option ℕ
hex_in width text = option_map (from_be_bytes width) (result_ok (decode_sized text (byte_len width)))

-- The octets of a datagram: a hyphen where there are none, and else two digits an octet.
abbrev pub datagram_in : List ℕ → Option (List ℕ)
datagram_in text =
    if bytes_eq text (codes "-") then Some []
    else (if length text == 0 then None else result_ok (decode_of text))

-- At most 255 octets, two digits an octet.
abbrev pub hex_text_in : List ℕ → Option (List ℕ)
hex_text_in text = if nat_le (length text) 510 then result_ok (decode_of text) else None
