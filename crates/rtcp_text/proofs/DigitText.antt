-- Eight octets that are written as digits at once.
use Rattle.std.proofs.Common.{◌≡◌, ℕ, ◌+◌, ◌*◌, ◌/◌, ◌%◌, ◌^◌, ◌<◌, ◌≤◌, true, cond, eqb, ltb, List, [], ◌∷◌, ◌++◌, map, length, drop, slice_index, get_or, replicate, bit_and, Fits, w8, refl, sym, ap, ◌∙◌, subst, arith}
use Rattle.std.proofs.lemmas.Bool.{agree_below_at, eqb-true}
use Rattle.std.proofs.lemmas.List.{append_assoc, append-nil, drop_all}
use Rattle.std.proofs.lemmas.Simd.{pick_l_whole, pick_l_left, get_or_narrower, chunk-drop}
use lib.Lanes.{zip2, sel_l, top, pick_l, chunk, Each1, number_l, digits_l}
use Rattle.std.specs.Int.{w32, to_be_bytes}
use Rattle.std.proofs.Math.Nat.{div-one}
use Rattle.hex.specs.Hex.{encode_with, encode_lower, lower_digits}
use Rattle.hex.proofs.Pairs.{encode_with-drop}

-- the digit of a value, as a lane finds it
abbrev digit : ℕ → ℕ
digit value = cond (top 7 (cond (ltb value 10) 255 0)) ((value + 48) % 2 ^ 8) ((value + 87) % 2 ^ 8)

high_digit : (octet : ℕ) → octet < 256 → digit (octet / 2 ^ 4) ≡ slice_index lower_digits (octet / 16)
high_digit octet fits =
    eqb-true _ _ (agree_below_at (λ o. eqb (digit (o / 2 ^ 4)) (slice_index lower_digits (o / 16))) (λ _. true) 256
    octet refl fits)

low_digit : (octet : ℕ) → octet < 256 → digit (bit_and octet 15) ≡ slice_index lower_digits (octet % 16)
low_digit octet fits =
    eqb-true _ _ (agree_below_at (λ o. eqb (digit (bit_and o 15)) (slice_index lower_digits (o % 16))) (λ _. true) 256
    octet refl fits)

abbrev digits_in : List ℕ → List ℕ
digits_in [] = []
digits_in (octet ∷ rest) = digit (octet / 2 ^ 4) ∷ digit (bit_and octet 15) ∷ digits_in rest

written : (octets : List ℕ) → Each1 (Fits w8) octets → digits_in octets ≡ encode_lower octets
unfolding encode_with
written [] fits = refl
written (octet ∷ rest) fits = rw (high_digit octet fits.0.fits, low_digit octet fits.0.fits, written rest fits.1) refl

abbrev values : List ℕ → List ℕ
values octets =
    pick_l 0 (zip2 (λ a b. a / 2 ^ b) octets (replicate 8 4) ++ zip2 bit_and octets (replicate 8 15))
    (0 ∷ 8 ∷ 1 ∷ 9 ∷ 2 ∷ 10 ∷ 3 ∷ 11 ∷ 4 ∷ 12 ∷ 5 ∷ 13 ∷ 6 ∷ 14 ∷ 7 ∷ 15 ∷ [])

-- what the lanes come to
abbrev pub block_digits : List ℕ → List ℕ
block_digits octets =
    let found = values octets in
    sel_l (map (top 7) (zip2 (λ a b. cond (ltb a b) 255 0) found (replicate 16 10)))
    (zip2 (λ a b. (a + b) % 2 ^ 8) found (replicate 16 48))
    (zip2 (λ a b. (a + b) % 2 ^ 8) found (replicate 16 87))

pub block_written : (octets : List ℕ) → length octets ≡ 8 → Each1 (Fits w8) octets →
    block_digits octets ≡ encode_lower octets
block_written octets long fits =
    subst (λ (o : List ℕ). block_digits o ≡ digits_in o) (pick_l_whole 0 octets 8 long) refl ∙ written octets fits

-- ---- A block in its text

pub encode_with-append : (t xs ys : List ℕ) → encode_with t (xs ++ ys) ≡ encode_with t xs ++ encode_with t ys
unfolding encode_with
encode_with-append t [] ys = refl
encode_with-append t (x ∷ xs) ys = ap (λ r. slice_index t (x / 16) ∷ slice_index t (x % 16) ∷ r)
    (encode_with-append t xs ys)

-- The octets of two words, which a vector holds low octet first.
abbrev octets_of_words : List ℕ → List ℕ
octets_of_words words = digits_l 256 8 (number_l (2 ^ 32) words)

octets_equal : {a b c d e f g h a' b' c' d' e' f' g' h' : ℕ} → a ≡ a' → b ≡ b' → c ≡ c' → d ≡ d' → e ≡ e' → f ≡ f' →
    g ≡ g' → h ≡ h'
    → ◌≡◌ {A = List ℕ} (a ∷ b ∷ c ∷ d ∷ e ∷ f ∷ g ∷ h ∷ []) (a' ∷ b' ∷ c' ∷ d' ∷ e' ∷ f' ∷ g' ∷ h' ∷ [])
octets_equal p q r s t u v w = rw (p, q, r, s, t, u, v, w) refl

-- Turned round, they are the octets of each word, high octet first.
words_turned : (first second : ℕ) → first < 2 ^ 32 → second < 2 ^ 32
    → pick_l 0 (octets_of_words (first ∷ second ∷ []) ++ octets_of_words (first ∷ second ∷ []))
    (3 ∷ 2 ∷ 1 ∷ 0 ∷ 7 ∷ 6 ∷ 5 ∷ 4 ∷ [])
    ≡ to_be_bytes w32 first ++ to_be_bytes w32 second
words_turned first second fits fits' =
    let words = first ∷ second ∷ [] in
    let octet : (j i : ℕ) → i < 4 → 4 * j + i < 8 → get_or (octets_of_words words) (4 * j + i) 0 ≡ get_or words j 0 /
    256 ^ i % 256 =
    λ j i part within. get_or_narrower (2 ^ 32) 4 256 8 words j i refl (fits, (fits', tt)) part within in
    pick_l_left 0 (octets_of_words words) (octets_of_words words) 8 (3 ∷ 2 ∷ 1 ∷ 0 ∷ 7 ∷ 6 ∷ 5 ∷ 4 ∷ []) refl tt
    ∙ octets_equal (octet 0 3 (omega arith) (omega arith)) (octet 0 2 (omega arith) (omega arith))
    (octet 0 1 (omega arith) (omega arith))
    (octet 0 0 (omega arith) (omega arith) ∙ ap (λ n. n % 256) (div-one first)) (octet 1 3 (omega arith) (omega arith))
    (octet 1 2 (omega arith) (omega arith))
    (octet 1 1 (omega arith) (omega arith)) (octet 1 0 (omega arith) (omega arith) ∙ ap (λ n. n % 256) (div-one second))

-- Each half of a block is written in one half of its digits.
half_digits : (a b c d e f g h : ℕ) (digits : List ℕ) → digits ≡ encode_lower (a ∷ b ∷ c ∷ d ∷ e ∷ f ∷ g ∷ h ∷ [])
    → (pick_l 0 (digits ++ digits) (0 ∷ 1 ∷ 2 ∷ 3 ∷ 4 ∷ 5 ∷ 6 ∷ 7 ∷ []) ≡ encode_lower (a ∷ b ∷ c ∷ d ∷ []))
    × (pick_l 0 (digits ++ digits) (8 ∷ 9 ∷ 10 ∷ 11 ∷ 12 ∷ 13 ∷ 14 ∷ 15 ∷ []) ≡ encode_lower (e ∷ f ∷ g ∷ h ∷ []))
unfolding encode_with
half_digits a b c d e f g h digits is = (rw is refl, rw is refl)

-- So the digits of a word are one half of those that are made of it and another.
pub words_written : (first second : ℕ) (digits : List ℕ) → first < 2 ^ 32 → second < 2 ^ 32
    → digits ≡ encode_lower (pick_l 0 (octets_of_words (first ∷ second ∷ []) ++ octets_of_words (first ∷ second ∷ []))
    (3 ∷ 2 ∷ 1 ∷ 0 ∷ 7 ∷ 6 ∷ 5 ∷ 4 ∷ []))
    → (pick_l 0 (digits ++ digits) (0 ∷ 1 ∷ 2 ∷ 3 ∷ 4 ∷ 5 ∷ 6 ∷ 7 ∷ []) ≡ encode_lower (to_be_bytes w32 first))
    × (pick_l 0 (digits ++ digits) (8 ∷ 9 ∷ 10 ∷ 11 ∷ 12 ∷ 13 ∷ 14 ∷ 15 ∷ []) ≡ encode_lower (to_be_bytes w32 second))
words_written first second digits fits fits' is =
    half_digits _ _ _ _ _ _ _ _ digits (is ∙ ap encode_lower (words_turned first second fits fits'))

-- One block more is written.
pub block_more : (out octets whole : List ℕ) (i : ℕ) → out ++ encode_lower (drop i octets) ≡ whole
    → (out ++ encode_lower (chunk i 8 octets)) ++ encode_lower (drop (i + 8) octets) ≡ whole
block_more out octets whole i so_far =
    append_assoc out (encode_lower (chunk i 8 octets)) (encode_lower (drop (i + 8) octets))
    ∙ ap (λ r. out ++ r) (sym (encode_with-append lower_digits (chunk i 8 octets) (drop (i + 8) octets))
    ∙ ap encode_lower (sym (chunk-drop i 8 octets))) ∙ so_far

-- One octet more is written.
pub octet_more : (out octets whole : List ℕ) (i : ℕ) → i < length octets → out ++ encode_lower (drop i octets) ≡ whole
    → (out ++ slice_index lower_digits (slice_index octets i / 16) ∷ slice_index lower_digits
    (slice_index octets i % 16) ∷ []) ++ encode_lower (drop (i + 1) octets) ≡ whole
octet_more out octets whole i within so_far =
    append_assoc out _ _ ∙ ap (λ r. out ++ r) (sym (encode_with-drop lower_digits octets i within)) ∙ so_far

-- All is written.
pub all_written : (out octets whole : List ℕ) (i : ℕ) → length octets ≤ i →
    out ++ encode_lower (drop i octets) ≡ whole → out ≡ whole
unfolding encode_with
all_written out octets whole i past so_far = sym (append-nil out)
    ∙ ap (λ r. out ++ encode_lower r) (sym (drop_all i octets past)) ∙ so_far
