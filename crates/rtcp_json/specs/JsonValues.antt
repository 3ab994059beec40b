-- Values of JSON (RFC 8259) as they stand in a line: numbers, strings, objects and arrays.
use Rattle.std.specs.Prelude.{ℕ, ℤ, List, [], ◌∷◌, ◌++◌, Option, Some, None}
use Rattle.std.specs.Fmt.{decimal, signed_decimal}
use Rattle.std.specs.Str.Lossy.{utf8_lossy}
use Rattle.hex.specs.Hex.{encode_lower}
use Rattle.json.specs.Json.{Json, null, number, string, array, object, Members, no_members, member}
use Rattle.json.specs.Print.{print}
use Rattle.json.specs.Tree.{json_tokens}
use Rattle.json.specs.Value.{items_of}
use Rattle.rtcp_text.specs.Text.{hex_word, hex_long}

-- ---- Numbers and strings

-- exact, without a fraction or an exponent
abbrev pub number_json : ℕ → Json
number_json n = number (decimal n)

abbrev pub signed_json : ℤ → Json
signed_json z = number (signed_decimal z)

-- eight hex digits of a number below 2 ^ 32
abbrev pub word_json : ℕ → Json
word_json n = string (hex_word n)

-- sixteen hex digits of a number below 2 ^ 64
abbrev pub long_json : ℕ → Json
long_json n = string (hex_long n)

-- two hex digits for each octet
abbrev pub octets_json : List ℕ → Json
octets_json octets = string (encode_lower octets)

-- A text of a peer: what of it is no UTF-8 reads as U+FFFD.
abbrev pub text_json : List ℕ → Json
text_json octets = string (utf8_lossy octets)

-- what may be absent
abbrev pub optional_json : {A : Type 0} → (A → Json) → Option A → Json
optional_json json None = null
optional_json json (Some x) = json x

-- ---- Objects and arrays

-- names with their values, in this order
abbrev pub fields_of : List (List ℕ × Json) → Members
fields_of [] = no_members
fields_of (field ∷ fields) = member field.0 field.1 (fields_of fields)

abbrev pub object_of : List (List ℕ × Json) → Json
object_of fields = object (fields_of fields)

abbrev pub array_of : List Json → Json
array_of values = array (items_of values)

-- ---- Lines

-- the text of a value, without spaces
abbrev pub json_text : Json → List ℕ
json_text value = print (json_tokens value)

-- the line of a value: its text and a line feed (10)
abbrev pub json_line : Json → List ℕ
json_line value = json_text value ++ 10 ∷ []
