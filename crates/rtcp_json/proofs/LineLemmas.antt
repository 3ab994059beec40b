-- No text of JSON has a line feed within: those of strings are escaped, and a number has digits and a sign.
use Rattle.std.proofs.Common.{◌≡◌, ◌≢◌, ℕ, ℤ, pos, negsuc, zero, suc, ◌+◌, ◌/◌, ◌%◌, ◌<◌, Bool, true, false, cond, ◌==◌, nat_lt, ◌⊎◌, List, [], ◌∷◌, ◌++◌, inl, inr, refl, arith}
use Rattle.std.proofs.lemmas.Bool.{cases_eq, cases_lt, eqb-false}
use Rattle.std.proofs.lemmas.List.Elements.{All-nil, All-cons, All-append}
use Rattle.std.specs.Fmt.{digit_glyph, digits_onto, digits, decimal, signed_decimal}
use Rattle.json.specs.Token.{Token, begin_object, end_object, begin_array, end_array, key, string, number, boolean, null, bad}
use Rattle.json.specs.Print.{escape_byte, escape, quoted, token_text, ends, print_from}
use Rattle.json.proofs.Printed.Strings.{escape_byte_plain}
use Rattle.rtcp_text.specs.Lines.{HasNoLineFeed}

abbrev IsNoFeed : ℕ → Type 0
IsNoFeed octet = octet ≢ 10

none : HasNoLineFeed []
none = All-nil IsNoFeed

more : (octet : ℕ) (octets : List ℕ) → octet ≢ 10 → HasNoLineFeed octets → HasNoLineFeed (octet ∷ octets)
more octet octets = All-cons IsNoFeed octet octets

joined : (xs ys : List ℕ) → HasNoLineFeed xs → HasNoLineFeed ys → HasNoLineFeed (xs ++ ys)
joined = All-append IsNoFeed

-- a test that computes
abbrev has_feed : List ℕ → Bool
has_feed [] = false
has_feed (octet ∷ octets) = cond (octet == 10) true (has_feed octets)

tested : (octets : List ℕ) → has_feed octets ≡ false → HasNoLineFeed octets
tested [] h = none
tested (octet ∷ octets) h = one_more (octet == 10) refl h (tested octets)
  where
    one_more : (b : Bool) → (octet == 10) ≡ b → cond b true (has_feed octets) ≡ false
        → (has_feed octets ≡ false → HasNoLineFeed octets) → HasNoLineFeed (octet ∷ octets)
    one_more true is h others = absurd (cc h)
    one_more false is h others = more octet octets (eqb-false octet 10 is) (others h)

-- ---- Strings

-- The escapes of the octets below n have none.
abbrev escapes_below : ℕ → Bool
escapes_below zero = true
escapes_below (suc n) = cond (has_feed (escape_byte n)) false (escapes_below n)

escape_below : (n : ℕ) → escapes_below n ≡ true → (x : ℕ) → x < n → has_feed (escape_byte x) ≡ false
escape_below zero e x h = absurd (omega arith)
escape_below (suc n) e x h = at (has_feed (escape_byte n)) refl e (escape_below n) (cases_eq x n)
  where
    at : (b : Bool) → has_feed (escape_byte n) ≡ b → cond b false (escapes_below n) ≡ true
        → (escapes_below n ≡ true → (x : ℕ) → x < n → has_feed (escape_byte x) ≡ false)
        → (x ≡ n) ⊎ (x ≡ n → ⊥) → has_feed (escape_byte x) ≡ false
    at true is e others side = absurd (cc e)
    at false is e others (inl same) = rw same is
    at false is e others (inr other) = others e x (omega arith)

all_below : escapes_below 93 ≡ true
unfolding escape_byte
all_below = refl

escaped_octet : (x : ℕ) → HasNoLineFeed (escape_byte x)
escaped_octet x = elim (cases_lt x 93) [
  | inl small ↦ tested (escape_byte x) (escape_below 93 all_below x small)
  | inr big ↦
      rw (escape_byte_plain x (λ e. omega arith) (λ e. omega arith) (omega arith))
      (more x [] (λ e. omega arith) none)
]

escaped : (text : List ℕ) → HasNoLineFeed (escape text)
escaped [] = none
escaped (x ∷ text) = joined (escape_byte x) (escape text) (escaped_octet x) (escaped text)

between_quotes : (text : List ℕ) → HasNoLineFeed (quoted text)
between_quotes text =
    more 34 _ (λ e. omega arith) (joined (escape text) (34 ∷ []) (escaped text) (more 34 [] (λ e. omega arith) none))

-- ---- Numbers

glyph : (d : ℕ) → digit_glyph false d ≢ 10
glyph d = at (nat_lt d 10) refl
  where
    at : (b : Bool) → nat_lt d 10 ≡ b → cond b (48 + d) (87 + d) ≢ 10
    at true is e = omega arith
    at false is e = omega arith

digits_before : (k n : ℕ) (after : List ℕ) → HasNoLineFeed after → HasNoLineFeed (digits_onto k 10 false n after)
digits_before zero n after h = h
digits_before (suc k) n after h =
    let longer = more _ after (glyph (n % 10)) h in
    at (n / 10 == 0) longer (digits_before k (n / 10) _ longer)
  where
    at : (b : Bool) → HasNoLineFeed (digit_glyph false (n % 10) ∷ after)
        → HasNoLineFeed (digits_onto k 10 false (n / 10) (digit_glyph false (n % 10) ∷ after))
        → HasNoLineFeed (cond b (digit_glyph false (n % 10) ∷ after)
        (digits_onto k 10 false (n / 10) (digit_glyph false (n % 10) ∷ after)))
    at true last others = last
    at false last others = others

pub decimal_line : (n : ℕ) → HasNoLineFeed (decimal n)
unfolding digits
decimal_line n = digits_before 64 n [] none

pub signed_line : (z : ℤ) → HasNoLineFeed (signed_decimal z)
signed_line (pos n) = decimal_line n
signed_line (negsuc n) = more 45 _ (λ e. omega arith) (decimal_line (suc n))

-- ---- Tokens

-- What is no number has none, whatever it holds.
abbrev pub IsOneLine : Token → Type 0
IsOneLine begin_object = Unit {0}
IsOneLine end_object = Unit {0}
IsOneLine begin_array = Unit {0}
IsOneLine end_array = Unit {0}
IsOneLine (key s) = Unit {0}
IsOneLine (string s) = Unit {0}
IsOneLine (number s) = HasNoLineFeed s
IsOneLine (boolean b) = Unit {0}
IsOneLine null = Unit {0}
IsOneLine bad = Unit {0}

abbrev pub AreOneLine : List Token → Type 0
AreOneLine [] = Unit {0}
AreOneLine (t ∷ ts) = IsOneLine t × AreOneLine ts

token_line : (t : Token) → IsOneLine t → HasNoLineFeed (token_text t)
token_line begin_object h = tested (token_text begin_object) refl
token_line end_object h = tested (token_text end_object) refl
token_line begin_array h = tested (token_text begin_array) refl
token_line end_array h = tested (token_text end_array) refl
token_line (key s) h = joined (quoted s) (58 ∷ []) (between_quotes s) (tested (58 ∷ []) refl)
token_line (string s) h = between_quotes s
token_line (number s) h = h
token_line (boolean true) h = tested (token_text (boolean true)) refl
token_line (boolean false) h = tested (token_text (boolean false)) refl
token_line null h = tested (token_text null) refl
token_line bad h = none

comma_or_none : (b : Bool) → HasNoLineFeed (cond b (44 ∷ []) [])
comma_or_none true = tested (44 ∷ []) refl
comma_or_none false = none

pub print_line : (after_value : Bool) (ts : List Token) → AreOneLine ts → HasNoLineFeed (print_from after_value ts)
unfolding print_from
print_line after_value [] h = none
print_line after_value (t ∷ ts) h =
    joined _ _ (comma_or_none _) (joined (token_text t) _ (token_line t h.0) (print_line (ends t) ts h.1))
