-- Lemmas on decimal digits.
use Prim.Native.Nat.{zero}
use Rattle.std.proofs.Common.{◌≡◌, ℕ, suc, ◌+◌, ◌*◌, ◌<◌, ◌≤◌, ◌^◌, ◌&&◌, true, nat_le, nat_lt, List, [], ◌∷◌, ◌++◌, length, take, get_or, Option, Some, None, refl, sym, ap, subst, ◌∙◌, arith, length-append}
use Rattle.std.specs.Char.{is_digit, digit_value}
use Rattle.std.specs.List.{list_all}
use Rattle.std.specs.Option.{SomeIff}
use Rattle.std.specs.Str.Parse.{AllDigits, digits_value}
use Rattle.std.proofs.lemmas.Bool.{ltb-true, lt-ltb, leb-true, le-leb, and_parts, and_from, cond-true, cond-false, false_from_ne_true}
use Rattle.std.proofs.lemmas.Int.Digits.{digits_push, digits_value_push}
use Rattle.std.proofs.lemmas.List.{length-take}
use Rattle.std.proofs.lemmas.Str.Parse.{digits_value_short, numerals_by_value, tells_digits}
use Rattle.rtcp_text.specs.Numerals.{is_decimal, decimal_in}

-- ---- Digits

-- An octet that is no digit stands in no text of digits.
pub not_digits : (text : List ℕ) (i : ℕ) → i < length text → 10 ≤ digit_value (get_or text i 0) → AllDigits 10 text → ⊥
not_digits [] i within other all = omega arith
not_digits (digit ∷ digits) zero within other all = omega (arith, all.0)
not_digits (digit ∷ digits) (suc i) within other all = not_digits digits i (omega arith) other all.1

-- The number that all but the last of at most 19 digits write is below 10 ^ 18.
pub below_eighteen_digits : (text : List ℕ) (i : ℕ) → i < length text → length text ≤ 19 → AllDigits 10 (take i text)
    → digits_value 10 (take i text) < 10 ^ 18
below_eighteen_digits text i within few all =
    digits_value_short (numerals_by_value (AllDigits 10) tells_digits) (take i text) 18 all
    (omega (arith, length-take i text))

AllDigits-from_test : (text : List ℕ) → list_all (λ digit. is_digit digit 10) text ≡ true → AllDigits 10 text
AllDigits-from_test [] h = tt
AllDigits-from_test (digit ∷ digits) h =
    let parts = and_parts (is_digit digit 10) (list_all (λ d. is_digit d 10) digits) h in
    (ltb-true (digit_value digit) 10 parts.0, AllDigits-from_test digits parts.1)

pub test-from_AllDigits : (text : List ℕ) → AllDigits 10 text → list_all (λ digit. is_digit digit 10) text ≡ true
test-from_AllDigits [] all = refl
test-from_AllDigits (digit ∷ digits) all =
    and_from (is_digit digit 10) (list_all (λ d. is_digit d 10) digits) (lt-ltb (digit_value digit) 10 all.0)
    (test-from_AllDigits digits all.1)

-- The first of more digits are digits, and so is the last.
parts_are_digits : (others : List ℕ) (last : ℕ) → AllDigits 10 (others ++ last ∷ []) →
    AllDigits 10 others × (digit_value last < 10)
parts_are_digits [] last all = (tt, all.0)
parts_are_digits (digit ∷ digits) last all =
    let rest = parts_are_digits digits last all.1 in
    ((all.0, rest.0), rest.1)

-- ---- Numbers

-- what `decimal_in` tests of a text
record IsNumber (text : List ℕ) : Type 0 where
  some : 1 ≤ length text
  few : length text ≤ 20
  all : AllDigits 10 text
  fits : digits_value 10 text < 2 ^ 64

is_number : (text : List ℕ) → (is_decimal text && nat_lt (digits_value 10 text) (2 ^ 64)) ≡ true → IsNumber text
is_number text h =
    let great = and_parts (is_decimal text) (nat_lt (digits_value 10 text) (2 ^ 64)) h in
    let all = and_parts (nat_le 1 (length text) && nat_le (length text) 20) (list_all (λ d. is_digit d 10) text)
    great.0 in
    let long = and_parts (nat_le 1 (length text)) (nat_le (length text) 20) all.0 in
    record {
      some = leb-true 1 (length text) long.0;
      few = leb-true (length text) 20 long.1;
      all = AllDigits-from_test text all.1;
      fits = ltb-true (digits_value 10 text) (2 ^ 64) great.1;
    }

no_number : (text : List ℕ) → (IsNumber text → ⊥) → None ≡ decimal_in 64 text
no_number text h =
    let test = is_decimal text && nat_lt (digits_value 10 text) (2 ^ 64) in
    sym (cond-false test (Some (digits_value 10 text)) None (false_from_ne_true test (λ e. h (is_number text e))))

pub other_first : (text others : List ℕ) (last : ℕ) → text ≡ others ++ last ∷ [] → (AllDigits 10 others → ⊥) →
    None ≡ decimal_in 64 text
other_first text others last parts other =
    no_number text (λ n. other (parts_are_digits others last (subst (AllDigits 10) parts n.all)).0)

pub too_great : (text others : List ℕ) (last : ℕ) → text ≡ others ++ last ∷ [] →
    2 ^ 64 ≤ digits_value 10 others * 10 + digit_value last
    → None ≡ decimal_in 64 text
too_great text others last parts great =
    no_number text (λ n.
    let fits = subst (λ (t : List ℕ). digits_value 10 t < 2 ^ 64) parts n.fits in
    omega (arith, digits_value_push 10 others last, fits))

-- At most 19 digits and one more write ten times the number of the first ones, and the last one.
decimal_read : (text others : List ℕ) (last number : ℕ) → text ≡ others ++ last ∷ [] → length others < 20 →
    AllDigits 10 others → digit_value last < 10
    → number ≡ digits_value 10 others * 10 + digit_value last → number < 2 ^ 64 → Some number ≡ decimal_in 64 text
decimal_read text others last number parts few first digit is fits =
    let value : digits_value 10 text ≡ number = rw (parts, digits_value_push 10 others last) (sym is) in
    let long : length text ≡ length others + 1 = rw parts (length-append others (last ∷ [])) in
    let all = test-from_AllDigits text (subst (AllDigits 10) (sym parts) (digits_push 10 others last first digit)) in
    let short = and_from (nat_le 1 (length text)) (nat_le (length text) 20) (le-leb 1 (length text) (omega arith))
    (le-leb (length text) 20 (omega arith)) in
    let decimal = and_from (nat_le 1 (length text) && nat_le (length text) 20) (list_all (λ d. is_digit d 10) text)
    short all in
    let small = lt-ltb (digits_value 10 text) (2 ^ 64) (omega arith) in
    let test = and_from (is_decimal text) (nat_lt (digits_value 10 text) (2 ^ 64)) decimal small in
    ap Some (sym value) ∙ sym (cond-true (is_decimal text && nat_lt (digits_value 10 text) (2 ^ 64))
    (Some (digits_value 10 text)) None test)

-- The same of what `checked_add` makes of them.
pub decimal_summed : (text others : List ℕ) (last first tens digit : ℕ) (r : Option ℕ) →
    SomeIff r (tens + digit < 2 ^ 64) (tens + digit)
    → text ≡ others ++ last ∷ [] → length others < 20 → AllDigits 10 others → first ≡ digits_value 10 others →
    tens ≡ first * 10
    → digit ≡ digit_value last → digit < 10 → r ≡ decimal_in 64 text
decimal_summed text others last first tens digit (Some number) sums parts few all is times small below =
    decimal_read text others last number parts few all (omega (arith, small, below))
    (omega (arith, sums.1, is, times, small)) (omega (arith, sums.0, sums.1))
decimal_summed text others last first tens digit None sums parts few all is times small below =
    too_great text others last parts (omega (arith, sums, is, times, small))
