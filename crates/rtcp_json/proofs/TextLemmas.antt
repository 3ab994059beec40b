-- Hex digits are ASCII, and a text that replaces what is no UTF-8 is UTF-8.
use Rattle.std.proofs.Common.{◌≡◌, ℕ, zero, suc, ◌<◌, ◌≤◌, Bool, true, false, cond, List, [], ◌∷◌, ◌++◌, All, length, take, ◌∙◌, inl, inr, ◌⊎◌, refl, sym, ap, subst, arith, ltb-true}
use Rattle.std.proofs.lemmas.Bool.{and_parts, cases_eq}
use Rattle.std.proofs.lemmas.List.{take_all}
use Rattle.std.proofs.lemmas.Str.{IsUtf8-append, IsUtf8-from_ascii, IsUtf8-from_is_utf8, IsUtf8-nil, utf8_lossy-IsUtf8, utf8_lossy_empty, utf8_lossy_step}
use Rattle.std.proofs.lemmas.List.Elements.{All-nil, All-cons}
use Rattle.std.proofs.lemmas.Str.Ascii.{IsAscii-from_all}
use Rattle.std.proofs.str.Lossy.{length-after_first_chunk}
use Rattle.std.specs.Char.{encode_utf8}
use Rattle.std.specs.Str.{IsAscii, IsUtf8, chars, is_utf8}
use Rattle.std.specs.Str.Lossy.{valid_len_up_to, utf8_valid_len, after_first_chunk, replacement_bytes, utf8_lossy}
use Rattle.hex.specs.Hex.{encode_lower, lower_digits}
use Rattle.json.proofs.Printed.Utf8.{are_ascii}
use Rattle.hex.proofs.HexLemmas.{IsAscii-encode_with}

-- ---- Hex digits

ascii_octets : (octets : List ℕ) → are_ascii octets ≡ true → All (λ octet. octet < 128) octets
ascii_octets [] h = All-nil (λ octet. octet < 128)
ascii_octets (octet ∷ octets) h =
    let both = and_parts _ _ h in
    All-cons (λ octet. octet < 128) octet octets (ltb-true _ _ both.0) (ascii_octets octets both.1)

digits_ascii : IsAscii lower_digits
digits_ascii = IsAscii-from_all lower_digits (ascii_octets lower_digits refl)

pub hex_utf8 : (octets : List ℕ) → IsUtf8 (encode_lower octets)
hex_utf8 octets = IsUtf8-from_ascii (encode_lower octets) (IsAscii-encode_with lower_digits octets digits_ascii)

-- ---- Texts

prefix_utf8 : (octets : List ℕ) (n : ℕ) → IsUtf8 (take (valid_len_up_to octets n) octets)
prefix_utf8 octets zero = IsUtf8-nil
prefix_utf8 octets (suc n) = at (is_utf8 (take (suc n) octets)) refl (prefix_utf8 octets n)
  where
    at : (b : Bool) → is_utf8 (take (suc n) octets) ≡ b → IsUtf8 (take (valid_len_up_to octets n) octets)
        → IsUtf8 (take (cond b (suc n) (valid_len_up_to octets n)) octets)
    at true is shorter = IsUtf8-from_is_utf8 (take (suc n) octets) is
    at false is shorter = shorter

-- U+FFFD
replacement : IsUtf8 replacement_bytes
unfolding is_utf8 chars encode_utf8
replacement = IsUtf8-from_is_utf8 replacement_bytes refl

valid_utf8 : (octets : List ℕ) → IsUtf8 (take (utf8_valid_len octets) octets)
unfolding utf8_valid_len
valid_utf8 octets = prefix_utf8 octets (length octets)

lossy_within : (most : ℕ) (octets : List ℕ) → length octets ≤ most → IsUtf8 (utf8_lossy octets)
lossy_within zero octets few = subst IsUtf8 (sym (utf8_lossy_empty octets (omega arith))) IsUtf8-nil
lossy_within (suc most) octets few = at (cases_eq (utf8_valid_len octets) (length octets)) (lossy_within most)
  where
    at : (utf8_valid_len octets ≡ length octets) ⊎ (utf8_valid_len octets ≡ length octets → ⊥)
        → ((rest : List ℕ) → length rest ≤ most → IsUtf8 (utf8_lossy rest)) → IsUtf8 (utf8_lossy octets)
    at (inl whole) shorter =
        let utf8 : IsUtf8 octets =
        subst IsUtf8 (ap (λ n. take n octets) whole ∙ take_all (length octets) octets (omega arith))
        (valid_utf8 octets) in
        subst IsUtf8 (sym (utf8_lossy-IsUtf8 octets utf8)) utf8
    at (inr faulty) shorter =
        let rest = after_first_chunk octets in
        let less = length-after_first_chunk octets faulty in
        subst IsUtf8 (sym (utf8_lossy_step octets faulty))
        (IsUtf8-append (take (utf8_valid_len octets) octets) (replacement_bytes ++ utf8_lossy rest) (valid_utf8 octets)
        (IsUtf8-append replacement_bytes (utf8_lossy rest) replacement (shorter rest (omega arith))))

pub lossy_utf8 : (octets : List ℕ) → IsUtf8 (utf8_lossy octets)
lossy_utf8 octets = lossy_within (length octets) octets (omega arith)
