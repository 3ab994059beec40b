-- Numbers and octets as fields of a line: they are read back.
use Rattle.std.proofs.Common.{option_map, ◌≡◌, ℕ, suc, ◌*◌, ◌<◌, ◌≤◌, ◌^◌, ◌==◌, ◌&&◌, Bool, true, false, nat_le, nat_lt, List, [], ◌∷◌, length, All, if◌then◌else◌, Some, None, Result, Ok, Err, codes, w32, w64, refl, sym, ap, subst, ◌∙◌, arith, lit<, zero}
use Rattle.std.specs.Fmt.{decimal}
use Rattle.std.specs.Char.{is_digit}
use Rattle.std.specs.Int.{to_be_bytes, from_be_bytes}
use Rattle.std.specs.List.{list_all}
use Rattle.std.specs.Option.{ok_or}
use Rattle.std.specs.Result.{result_ok, result_unwrap_or}
use Rattle.std.specs.Str.{bytes_eq}
use Rattle.std.specs.Str.Parse.{AllDigits, digits_value}
use Rattle.std.proofs.lemmas.Bool.{and_from, and_parts, cond-true, false_from_ne_true, lt-ltb, le-leb, ltb-true}
use Rattle.std.proofs.lemmas.Fmt.{decimal_is_IsNumeral, length-decimal-le}
use Rattle.std.proofs.lemmas.Bool.Decides.{nat_tests}
use Rattle.std.proofs.lemmas.List.Elements.{All-weaker, All-cons, All-nil}
use Rattle.std.proofs.lemmas.List.Splits.{slice_split_at, slice_split_none}
use Rattle.std.proofs.lemmas.Nat.{from_be_bytes-to_be_bytes_4, from_be_bytes-to_be_bytes_8}
use Rattle.std.proofs.lemmas.Str.Parse.{digit_from_value}
use Rattle.std.proofs.lemmas.Slice.Eq.{bytes_eq-Decides}
use Rattle.hex.specs.Hex.{IsBytes, decode_of, encode_lower, is_hex_digit, lower_digits}
use Rattle.hex.proofs.HexLemmas.{decode_of-encode_lower, decode_of-ok, decode_sized-encode_lower, length-encode_with}
use Rattle.rtcp_text.specs.declared.fault.LineFault.{LineFault}
use Rattle.rtcp_text.specs.Numerals.{is_decimal, decimal_in, hex_in, datagram_in}
use Rattle.rtcp_text.specs.EventLines.{fields_of, spaced, datagram_text}
use Rattle.rtcp_text.specs.Results.{◌>>=◌}
use Rattle.rtcp_text.specs.Text.{hex_word, hex_long}
use Rattle.rtcp_text.proofs.NumeralLemmas.{test-from_AllDigits}

-- ---- Fields

-- Digits and a hyphen lie above a space (32) and a line feed (10).
abbrev pub IsField : List ℕ → Type 0
IsField field = All (λ octet. 32 < octet) field

pub no_space : (octet : ℕ) → 32 < octet → (octet == 32) ≡ false
no_space octet above = grind (arith, nat_tests, above)

pub without_spaces : (field : List ℕ) → IsField field → All (λ octet. (octet == 32) ≡ false) field
without_spaces field h = All-weaker (λ octet. 32 < octet) (λ octet. (octet == 32) ≡ false) no_space field h

abbrev pub EachIsField : List (List ℕ) → Type 0
EachIsField [] = Unit {0}
EachIsField (field ∷ fields) = IsField field × EachIsField fields

pub fields_of-spaced : (field : List ℕ) (others : List (List ℕ)) → EachIsField (field ∷ others)
    → fields_of (spaced (field ∷ others)) ≡ field ∷ others
fields_of-spaced field [] h = slice_split_none (λ octet. octet == 32) field (without_spaces field h.0)
fields_of-spaced field (next ∷ others) h =
    slice_split_at (λ octet. octet == 32) field 32 (spaced (next ∷ others)) (without_spaces field h.0) refl
    ∙ ap (λ fields. field ∷ fields) (fields_of-spaced next others h.1)

pub digits_field : (text : List ℕ) → AllDigits 10 text → IsField text
digits_field [] all = All-nil (λ octet. 32 < octet)
digits_field (digit ∷ digits) all =
    let range = digit_from_value digit all.0 in
    All-cons (λ octet. 32 < octet) digit digits (omega (arith, range)) (digits_field digits all.1)

pub decimal_field : (n : ℕ) → n < 2 ^ 64 → IsField (decimal n)
decimal_field n small = digits_field (decimal n) (decimal_is_IsNumeral n small).0.1

pub hex_digit_field : (octet : ℕ) → is_hex_digit octet ≡ true → 32 < octet
hex_digit_field octet h = grind (arith, nat_tests, h)

pub hex_field : (octets : List ℕ) → IsBytes octets → IsField (encode_lower octets)
hex_field octets bytes =
    All-weaker (λ octet. is_hex_digit octet ≡ true) (λ octet. 32 < octet) hex_digit_field (encode_lower octets)
    (decode_of-ok (encode_lower octets) octets (decode_of-encode_lower octets bytes)).1

-- ---- Fields are read back

pub decimal_read_back : (bits n : ℕ) → n < 2 ^ 64 → n < 2 ^ bits → decimal_in bits (decimal n) ≡ Some n
decimal_read_back bits n small fits =
    let numeral = decimal_is_IsNumeral n small in
    let text : List ℕ = decimal n in
    let few : length text ≤ 20 = length-decimal-le 20 n (lit< tt) (omega (arith, small)) small in
    let all = test-from_AllDigits text numeral.0.1 in
    let short = and_from (nat_le 1 (length text)) (nat_le (length text) 20)
    (le-leb 1 (length text) (omega (arith, numeral.0.0))) (le-leb (length text) 20 few) in
    let digits = and_from (nat_le 1 (length text) && nat_le (length text) 20)
    (list_all (λ d. is_digit d 10) text) short all in
    let below = lt-ltb (digits_value 10 text) (2 ^ bits) (subst (λ (m : ℕ). m < 2 ^ bits) (sym numeral.1) fits) in
    cond-true (is_decimal text && nat_lt (digits_value 10 text) (2 ^ bits)) (Some (digits_value 10 text)) None
    (and_from (is_decimal text) (nat_lt (digits_value 10 text) (2 ^ bits)) digits below)
    ∙ ap Some numeral.1

pub word_bytes : (n : ℕ) → IsBytes (to_be_bytes w32 n)
word_bytes n zero = omega arith
word_bytes n (suc zero) = omega arith
word_bytes n (suc (suc zero)) = omega arith
word_bytes n (suc (suc (suc zero))) = omega arith
word_bytes n (suc (suc (suc (suc i)))) = omega arith

pub word_read_back : (n : ℕ) → n < 2 ^ 32 → hex_in w32 (hex_word n) ≡ Some n
word_read_back n small =
    ap (λ r. option_map (from_be_bytes w32) (result_ok r))
    (decode_sized-encode_lower (to_be_bytes w32 n) 4 refl (word_bytes n))
    ∙ ap Some (from_be_bytes-to_be_bytes_4 n small)

pub word_field : (n : ℕ) → IsField (hex_word n)
word_field n = hex_field (to_be_bytes w32 n) (word_bytes n)

pub long_bytes : (n : ℕ) → IsBytes (to_be_bytes w64 n)
long_bytes n zero = omega arith
long_bytes n (suc zero) = omega arith
long_bytes n (suc (suc zero)) = omega arith
long_bytes n (suc (suc (suc zero))) = omega arith
long_bytes n (suc (suc (suc (suc zero)))) = omega arith
long_bytes n (suc (suc (suc (suc (suc zero))))) = omega arith
long_bytes n (suc (suc (suc (suc (suc (suc zero)))))) = omega arith
long_bytes n (suc (suc (suc (suc (suc (suc (suc zero))))))) = omega arith
long_bytes n (suc (suc (suc (suc (suc (suc (suc (suc i)))))))) = omega arith

pub long_read_back : (n : ℕ) → n < 2 ^ 64 → hex_in w64 (hex_long n) ≡ Some n
long_read_back n small =
    ap (λ r. option_map (from_be_bytes w64) (result_ok r))
    (decode_sized-encode_lower (to_be_bytes w64 n) 8 refl (long_bytes n))
    ∙ ap Some (from_be_bytes-to_be_bytes_8 n small)

pub long_field : (n : ℕ) → IsField (hex_long n)
long_field n = hex_field (to_be_bytes w64 n) (long_bytes n)

pub datagram_read_back : (octets : List ℕ) → IsBytes octets → datagram_in (datagram_text octets) ≡ Some octets
datagram_read_back [] bytes = refl
datagram_read_back (octet ∷ octets) bytes =
    let text : List ℕ = encode_lower (octet ∷ octets) in
    let long : length text ≡ 2 * suc (length octets) = length-encode_with lower_digits (octet ∷ octets) in
    let no_hyphen : bytes_eq text (codes "-") ≡ false =
    false_from_ne_true (bytes_eq text (codes "-"))
    (λ yes. omega (arith, long, ap length ((bytes_eq-Decides text (codes "-")).0 yes))) in
    let some : (length text == 0) ≡ false = grind (arith, nat_tests, long) in
    ap (λ b. if b then Some [] else (if length text == 0 then None else result_ok (decode_of text))) no_hyphen
    ∙ ap (λ b. if b then None else result_ok (decode_of text)) some
    ∙ ap result_ok (decode_of-encode_lower (octet ∷ octets) bytes)

pub datagram_field : (octets : List ℕ) → IsBytes octets → IsField (datagram_text octets)
datagram_field [] bytes = All-cons (λ octet. 32 < octet) 45 [] (lit< tt) (All-nil (λ octet. 32 < octet))
datagram_field (octet ∷ octets) bytes = hex_field (octet ∷ octets) bytes

-- ---- What is read is a value

pub bind_ok : {A B : Type 0} (r : Result A LineFault) (f : A → Result B LineFault) (y : B) → (r >>= f) ≡ Ok y
    → (x : A) × (r ≡ Ok x) × (f x ≡ Ok y)
bind_ok (Ok x) f y h = (x, refl, h)
bind_ok (Err fault) f y h = cc h

pub ok_inside : {A : Type 0} (x y : A) → ◌≡◌ {A = Result A LineFault} (Ok x) (Ok y) → x ≡ y
ok_inside x y same = ap (λ r. result_unwrap_or r x) same

pub read_below : (bits : ℕ) (text : List ℕ) (fault : LineFault) (n : ℕ) → ok_or (decimal_in bits text) fault ≡ Ok n
    → n < 2 ^ bits
read_below bits text fault n h = go (is_decimal text && nat_lt (digits_value 10 text) (2 ^ bits)) refl h
  where
    go : (b : Bool) → (is_decimal text && nat_lt (digits_value 10 text) (2 ^ bits)) ≡ b
        → ok_or (if b then Some (digits_value 10 text) else None) fault ≡ Ok n → n < 2 ^ bits
    go true is same =
        let small = ltb-true (digits_value 10 text) (2 ^ bits)
        (and_parts (is_decimal text) (nat_lt (digits_value 10 text) (2 ^ bits)) is).1 in
        subst (λ (m : ℕ). m < 2 ^ bits) (ok_inside _ n same) small
    go false is same = cc same
