-- Sixteen digits that are read at once.
use Rattle.std.proofs.Common.{add-zero, suc, ◌≡◌, ℕ, ◌+◌, ◌-◌, ◌*◌, ◌%◌, ◌^◌, ◌<◌, ◌≤◌, Bool, true, false, cond, ◌&&◌, eqb, ltb, leb, List, [], ◌∷◌, ◌++◌, map, length, take, drop, get_or, replicate, bit_and, Option, Some, None, Result, Ok, Err, Fits, w8, refl, sym, ap, ap₂, ◌∙◌, subst, arith, leb-false}
use Rattle.std.proofs.lemmas.Bool.{agree_below_at}
use Rattle.std.proofs.lemmas.Bool.Decides.{nat_tests}
use Rattle.std.proofs.lemmas.Simd.{mask_l-mod, length-zip2, pick_l_whole, chunk-drop, length-chunk, take_more_put_chunk}
use Rattle.std.proofs.lemmas.List.{append_assoc, length-map}
use lib.Lanes.{zip2, sel_l, mask_l, top, pick_l, chunk, put_chunk, Each1}
use Rattle.hex.specs.Hex.{hex_digit_value, pair_value, decode_pairs, decode_of, digit_or_error, ◌>>=◌}
use Rattle.hex.proofs.Pairs.{prepend, cons_byte, decode_pairs-ok_pair, decode_pairs-err_pair}
use Rattle.hex.specs.declared.error.FromHexError.{FromHexError}

-- ---- The steps, lane by lane

abbrev plus : ℕ → ℕ → ℕ
plus a b = (a + b) % 2 ^ 8

abbrev less : ℕ → ℕ → ℕ
less a b = (a + (2 ^ 8 - b)) % 2 ^ 8

abbrev times : ℕ → ℕ → ℕ
times a b = a * b % 2 ^ 8

abbrev below_mask : ℕ → ℕ → ℕ
below_mask a b = cond (ltb a b) 255 0

abbrev at_least : ℕ → ℕ → ℕ
at_least a b = cond (leb a b) 255 0

abbrev smaller : List ℕ → List ℕ → List ℕ
smaller xs ys = sel_l (map (top 7) (zip2 below_mask xs ys)) xs ys

abbrev greater : List ℕ → List ℕ → List ℕ
greater xs ys = sel_l (map (top 7) (zip2 below_mask xs ys)) ys xs

abbrev numbers : List ℕ → List ℕ
numbers digits = zip2 plus (zip2 less (greater (zip2 plus digits (replicate 16 198)) (replicate 16 6)) (replicate 16 6))
    (replicate 16 16)

abbrev letters : List ℕ → List ℕ
letters digits =
    let from_a = zip2 less (zip2 bit_and digits (replicate 16 223)) (replicate 16 65) in
    zip2 plus from_a (smaller (replicate 16 10) (map (λ x. 2 ^ 8 - 1 - x) from_a))

abbrev pub values : List ℕ → List ℕ
values digits = smaller (numbers digits) (letters digits)

-- the bits of the lanes that are no digits
abbrev pub wrong : List ℕ → ℕ
wrong found = mask_l (map (top 7) (zip2 at_least (replicate 16 16) found)) % 2 ^ 64

-- the octets of values
abbrev pub joined : List ℕ → List ℕ
joined found =
    zip2 plus (zip2 times (pick_l 0 (found ++ found) (0 ∷ 2 ∷ 4 ∷ 6 ∷ 8 ∷ 10 ∷ 12 ∷ 14 ∷ [])) (replicate 8 16))
    (pick_l 0 (found ++ found) (1 ∷ 3 ∷ 5 ∷ 7 ∷ 9 ∷ 11 ∷ 13 ∷ 15 ∷ []))

-- ---- One digit

-- what a lane comes to
abbrev lane : ℕ → ℕ
lane octet = get_or (values (octet ∷ [])) 0 0

abbrev is_lane : Option ℕ → ℕ → Bool
is_lane (Some digit) value = eqb value digit && ltb digit 16
is_lane None value = leb 16 value

value_of_lane : (digit : Option ℕ) (value : ℕ) → is_lane digit value ≡ true → value < 16 → digit ≡ Some value
value_of_lane (Some digit) value entry small = grind (arith, nat_tests, entry)
value_of_lane None value entry small = absurd (grind (arith, nat_tests, entry))

digit_in_lane : (octet : ℕ) → octet < 256 → lane octet < 16 → hex_digit_value octet ≡ Some (lane octet)
digit_in_lane octet fits small =
    value_of_lane (hex_digit_value octet) (lane octet)
    (agree_below_at (λ o. is_lane (hex_digit_value o) (lane o)) (λ _. true) 256 octet refl fits) small

-- ---- A block

no_wrong : (xs : List ℕ) → mask_l (map (top 7) (zip2 at_least (replicate (length xs) 16) xs)) ≡ 0 →
    Each1 (λ x. x < 16) xs
no_wrong [] e = tt
no_wrong (x ∷ xs) e = (go (leb 16 x) refl (omega arith), no_wrong xs (omega arith))
  where
    go : (t : Bool) → leb 16 x ≡ t → ◌≡◌ {A = ℕ} (cond (top 7 (cond t 255 0)) 1 0) 0 → x < 16
    go true p q = absurd (omega arith)
    go false p q = leb-false _ _ p

joined_small : (high low : ℕ) → high < 16 → low < 16 → plus (times high 16) low ≡ high * 16 + low
joined_small high low h l = omega arith

pair_in_lanes : (high low i : ℕ) → high < 256 → low < 256 → lane high < 16 → lane low < 16
    → pair_value high low i ≡ Ok (plus (times (lane high) 16) (lane low))
pair_in_lanes high low i high_fits low_fits high_small low_small =
    rw (
      digit_in_lane high high_fits high_small,
      digit_in_lane low low_fits low_small,
      joined_small (lane high) (lane low) high_small low_small,
    ) refl

abbrev octets_in : List ℕ → List ℕ
octets_in [] = []
octets_in (high ∷ []) = []
octets_in (high ∷ low ∷ rest) = plus (times (lane high) 16) (lane low) ∷ octets_in rest

spelled : (n i : ℕ) (digits : List ℕ) → length digits ≡ 2 * n → Each1 (Fits w8) digits → Each1 (λ x. lane x < 16) digits
    → decode_pairs i digits ≡ Ok (octets_in digits)
unfolding decode_pairs
spelled n i [] long fits small = refl
spelled n i (high ∷ []) long fits small = absurd (omega arith)
spelled n i (high ∷ low ∷ rest) long fits small =
    decode_pairs-ok_pair i high low _ rest (pair_in_lanes high low i fits.0.fits fits.1.0.fits small.0 small.1.0)
    ∙ ap (cons_byte (plus (times (lane high) 16) (lane low)))
    (spelled (n - 1) (i + 2) rest (omega arith) fits.1.1 small.1.1)

values_each : (digits : List ℕ) → length digits ≡ 16 → values digits ≡ map lane digits
values_each digits long = subst (λ (d : List ℕ). values d ≡ map lane d) (pick_l_whole 0 digits 16 long) refl

joined_each : (digits : List ℕ) → length digits ≡ 16 → octets_in digits ≡ joined (values digits)
joined_each digits long = subst (λ (d : List ℕ). octets_in d ≡ joined (values d)) (pick_l_whole 0 digits 16 long) refl

Each1-map : (f : ℕ → ℕ) (xs : List ℕ) → Each1 (λ x. x < 16) (map f xs) → Each1 (λ x. f x < 16) xs
Each1-map f [] h = tt
Each1-map f (x ∷ xs) h = (h.0, Each1-map f xs h.1)

-- A block in which no lane is wrong is spelled so.
pub block_spelled : (digits : List ℕ) → length digits ≡ 16 → Each1 (Fits w8) digits → wrong (values digits) ≡ 0
    → decode_of digits ≡ Ok (joined (values digits))
block_spelled digits long fits none =
    let lanes = values_each digits long in
    let count : length (values digits) ≡ 16 = ap length lanes ∙ length-map digits lane ∙ long in
    let mask = mask_l-mod (map (top 7) (zip2 at_least (replicate 16 16) (values digits))) 64
    (omega (
      arith,
      length-map (zip2 at_least (replicate 16 16) (values digits)) (top 7),
      length-zip2 at_least (replicate 16 16) (values digits) (sym count),
    )) in
    let small = no_wrong (values digits)
    (ap (λ n. mask_l (map (top 7) (zip2 at_least (replicate n 16) (values digits)))) count ∙ sym mask ∙ none) in
    let lanes_small = Each1-map lane digits (subst (Each1 (λ x. x < 16)) lanes small) in
    rw long (spelled 8 0 digits (omega arith) fits lanes_small ∙ ap Ok (joined_each digits long))

-- ---- A block in its line

pair_at : (high low : Option ℕ) (a b i j v : ℕ) →
    (digit_or_error a j high >>= (λ h. digit_or_error b (j + 1) low >>= (λ l. Ok (h * 16 + l)))) ≡ Ok v
    → (digit_or_error a i high >>= (λ h. digit_or_error b (i + 1) low >>= (λ l. Ok (h * 16 + l)))) ≡ Ok v
pair_at (Some high) (Some low) a b i j v e = e
pair_at (Some high) None a b i j v e = absurd (cc)
pair_at None low a b i j v e = absurd (cc)

cons_byte_Ok : (v : ℕ) (r : Result (List ℕ) FromHexError) (octets : List ℕ) → cons_byte v r ≡ Ok octets →
    (others : List ℕ) × (r ≡ Ok others) × (octets ≡ v ∷ others)
cons_byte_Ok v (Ok others) octets e = (others, refl, cc)
cons_byte_Ok v (Err fault) octets e = absurd (cc)

prepend-nil : (r : Result (List ℕ) FromHexError) → r ≡ prepend [] r
prepend-nil (Ok rest) = refl
prepend-nil (Err fault) = refl

cons_byte-prepend : (v : ℕ) (octets : List ℕ) (r : Result (List ℕ) FromHexError) →
    cons_byte v (prepend octets r) ≡ prepend (v ∷ octets) r
cons_byte-prepend v octets (Ok rest) = refl
cons_byte-prepend v octets (Err fault) = refl

prepend-prepend : (front octets : List ℕ) (r : Result (List ℕ) FromHexError) →
    prepend front (prepend octets r) ≡ prepend (front ++ octets) r
prepend-prepend front octets (Ok rest) = ap Ok (sym (append_assoc front octets rest))
prepend-prepend front octets (Err fault) = refl

-- Digits that spell octets by themselves spell them at the front of others.
spelled_before : (digits rest octets : List ℕ) (i j : ℕ) → decode_pairs j digits ≡ Ok octets
    → decode_pairs i (digits ++ rest) ≡ prepend octets (decode_pairs (i + length digits) rest)
unfolding decode_pairs
spelled_before [] rest octets i j e =
    let none : [] ≡ octets = cc in
    rw (← none, add-zero) (prepend-nil (decode_pairs i rest))
spelled_before (digit ∷ []) rest octets i j e = absurd (cc)
spelled_before (high ∷ low ∷ digits) rest octets i j e =
    go (λ others e. spelled_before digits rest others (i + 2) (j + 2) e) (pair_value high low j) refl
  where
    go : ((others : List ℕ) → decode_pairs (j + 2) digits ≡ Ok others →
        decode_pairs (i + 2) (digits ++ rest) ≡ prepend others (decode_pairs (i + 2 + length digits) rest))
        → (pair : Result ℕ FromHexError) → pair_value high low j ≡ pair
        → decode_pairs i (high ∷ low ∷ digits ++ rest) ≡ prepend octets
        (decode_pairs (i + suc (suc (length digits))) rest)
    go after (Err fault) is = absurd (cc (sym (decode_pairs-err_pair j high low fault digits is)))
    go after (Ok v) is =
        let parts = cons_byte_Ok v (decode_pairs (j + 2) digits) octets
        (sym (decode_pairs-ok_pair j high low v digits is) ∙ e) in
        let first = decode_pairs-ok_pair i high low v (digits ++ rest)
        (pair_at (hex_digit_value high) (hex_digit_value low) high low i j v is) in
        let later = after parts.0 parts.1 in
        let place : i + 2 + length digits ≡ i + suc (suc (length digits)) = omega arith in
        first ∙ ap (cons_byte v) later ∙ cons_byte-prepend v parts.0 _
        ∙ ap₂ prepend (sym parts.2) (ap (λ k. decode_pairs k rest) place)

-- One block more is decoded.
pub block_step : (line out octets : List ℕ) (i : ℕ) → 2 * i + 16 ≤ length line → i + 8 ≤ length out → length octets ≡ 8
    → decode_of (chunk (2 * i) 16 line) ≡ Ok octets
    → decode_pairs 0 line ≡ prepend (take i out) (decode_pairs (2 * i) (drop (2 * i) line))
    → decode_pairs 0 line ≡ prepend (take (i + 8) (put_chunk i out octets))
    (decode_pairs (2 * (i + 8)) (drop (2 * (i + 8)) line))
block_step line out octets i fits room eight is so_far =
    let long = length-chunk (2 * i) 16 line fits in
    let alone : decode_pairs 0 (chunk (2 * i) 16 line) ≡ Ok octets = rw long at is in
    let place : 2 * i + length (chunk (2 * i) 16 line) ≡ 2 * (i + 8) = omega (arith, long) in
    let next : 2 * i + 16 ≡ 2 * (i + 8) = omega arith in
    let split = ap (decode_pairs (2 * i)) (chunk-drop (2 * i) 16 line) ∙ spelled_before (chunk (2 * i) 16 line)
    (drop (2 * i + 16) line) octets (2 * i) 0 alone in
    so_far ∙ ap (prepend (take i out)) split ∙ prepend-prepend (take i out) octets _
    ∙ ap₂ prepend (sym (take_more_put_chunk i out octets (i + 8) (omega (arith, eight)) room))
    (ap₂ (λ k n. decode_pairs k (drop n line)) place next)
