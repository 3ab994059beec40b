-- Blocks and identifiers: values that a fixed number of octets says.
use Rattle.std.proofs.Common.{◌≡◌, ℕ, zero, suc, ◌+◌, ◌*◌, List, [], ◌∷◌, length, take, drop, refl, sym, ap, ◌∙◌, arith, lit<}
use Rattle.std.proofs.Math.Nat.{mul-zero, mul-suc}
use Rattle.std.proofs.lemmas.List.{take-append-drop, length-drop, length-take-le, nil_from_length, get_or-take}
use Rattle.byteorder.specs.Endian.{big_number}
use Rattle.rtcp_wire.specs.Grammar.{Joins, IsBlock, IsId}
use Rattle.rtcp_wire.specs.Readings.{block_in}
use Rattle.rtcp_wire.proofs.Joining.{IsPrefixFree}
use Rattle.rtcp_wire.proofs.Prefixes.{same_prefixes, length_parts}

-- So many octets say x. A block is said so by 24, an identifier by four.
abbrev pub Says : {A : Type 0} → ℕ → (List ℕ → A) → A → List ℕ → Type 0
Says size value x octets = (length octets ≡ size) × (x ≡ value octets)

-- No such octets are a proper prefix of others.
pub one_fixed : {A : Type 0} (size : ℕ) (value : List ℕ → A) → IsPrefixFree (Says size value)
one_fixed size value x y a c r s h k e = let both = same_prefixes a c r s (h.0 ∙ sym k.0) e in
    (both.0, h.1 ∙ ap value both.0 ∙ sym k.1)

pub one_block : IsPrefixFree IsBlock
one_block = one_fixed 24 block_in

pub one_id : IsPrefixFree IsId
one_id = one_fixed 4 (big_number 4)

-- how long as many of them are
pub fixed_length : {A : Type 0} (size : ℕ) (value : List ℕ → A) (xs : List A) (octets : List ℕ) →
    Joins (Says size value) xs octets → length octets ≡ size * length xs
fixed_length size value [] octets h = ap length h ∙ sym (mul-zero size)
fixed_length size value (x ∷ xs) octets h =
    let more = fixed_length size value xs h.1 h.4 in
    let sum : length octets ≡ size * length xs + size = omega (arith, length_parts octets h.0 h.1 h.2, h.3.0, more) in
    sum ∙ sym (mul-suc size (length xs))

-- Any octets of that length are as many of them.
pub fixed_from : {A : Type 0} (size : ℕ) (value : List ℕ → A) (n : ℕ) (octets : List ℕ) → length octets ≡ size * n →
    (xs : List A) × (length xs ≡ n) × Joins (Says size value) xs octets
fixed_from size value zero octets e = ([], refl, nil_from_length octets (e ∙ mul-zero size))
fixed_from size value (suc n) octets e =
    let sum : length octets ≡ size * n + size = e ∙ mul-suc size n in
    let more = fixed_from size value n (drop size octets) (omega (arith, length-drop size octets)) in
    let len : length (take size octets) ≡ size = length-take-le size octets (omega arith) in (
      value (take size octets) ∷ more.0,
      ap suc more.1,
      (take size octets, drop size octets, sym (take-append-drop size octets), (len, refl), more.2),
    )

-- the number in four octets is in them alone
pub big_number-take : (octets : List ℕ) → big_number 4 (take 4 octets) ≡ big_number 4 octets
big_number-take octets =
    let a = get_or-take 4 octets 0 0 (lit< tt) in
    let b = get_or-take 4 octets 1 0 (lit< tt) in
    let c = get_or-take 4 octets 2 0 (lit< tt) in
    let d = get_or-take 4 octets 3 0 (lit< tt) in
    omega (arith, a, b, c, d)
