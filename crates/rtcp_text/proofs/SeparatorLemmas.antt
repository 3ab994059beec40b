-- The first separator among sixteen octets that are looked through at once.
use Rattle.std.proofs.Common.{◌≡◌, ◌≢◌, ℕ, ◌%◌, ◌^◌, ◌<◌, ◌≤◌, Bool, true, false, not, cond, eqb, List, [], ◌∷◌, map, length, get_or, replicate, w8, refl, sym, ap, subst, ◌∙◌, arith}
use Rattle.std.specs.List.{prefix_len}
use Rattle.std.proofs.lemmas.Simd.{bitmask_splat, trailing_mask_l, length-chunk, run_in_chunk_fails, run_in_chunk_stops}
use lib.Count.{count_trailing_zeros}
use lib.Lanes.{zip2, mask_l, top, chunk}

-- Where a bit is set, not all lanes come before the first that passes.
some_pass : (p : ℕ → Bool) (xs : List ℕ) → 0 < mask_l (map p xs) → prefix_len (λ x. not (p x)) xs < length xs
some_pass p [] set = absurd (omega arith)
some_pass p (x ∷ xs) set = go (λ later. some_pass p xs later) (p x) refl
  where
    go : (0 < mask_l (map p xs) → prefix_len (λ y. not (p y)) xs < length xs) → (b : Bool) → p x ≡ b →
        prefix_len (λ y. not (p y)) (x ∷ xs) < length (x ∷ xs)
    go others true is = rw is (omega arith)
    go others false is =
        let here = rw is at set in
        rw is (omega (arith, others (omega (arith, here))))

module _ (separator : ℕ) where
  abbrev is_separator : ℕ → Bool
  is_separator octet = eqb octet separator

  -- the bits of the lanes that are separators
  abbrev pub separators : List ℕ → ℕ
  separators octets =
      mask_l (map (top 7) (zip2 (λ a b. cond (eqb a b) 255 0) (chunk 0 16 octets) (replicate 16 separator))) % 2 ^ 64

  -- The first separator, where there is one among the first sixteen octets.
  pub record IsFirst (octets : List ℕ) (end : ℕ) : Type 0 where
    pub within : end < length octets
    pub found : eqb (get_or octets end 0) separator ≡ true
    pub before : (k : ℕ) → k < end → eqb (get_or octets k 0) separator ≡ false

  pub first_near : separator < 2 ^ 8 → (octets : List ℕ) → 16 ≤ length octets → separators octets ≢ 0 →
      IsFirst octets (count_trailing_zeros 64 (separators octets))
  first_near small octets room set =
      let first = chunk 0 16 octets in
      let long : length first ≡ 16 = length-chunk 0 16 octets (omega arith) in
      let mask = bitmask_splat w8 eqb first 16 separator long (omega (arith, small)) in
      let some : 0 < mask_l (map is_separator first) = omega (arith, mask, set) in
      let end = prefix_len (λ x. not (is_separator x)) first in
      let counted = trailing_mask_l is_separator 64 first (omega arith) some in
      let few = some_pass is_separator first some in
      let found : IsFirst octets end = record {
        within = omega (arith, few);
        found = subst (λ (i : ℕ). eqb (get_or octets i 0) separator ≡ true) (omega arith)
            (run_in_chunk_stops is_separator octets 0 16 end 0 (omega arith) refl (omega (arith, few)));
        before = λ k lt.
            run_in_chunk_fails is_separator octets 0 16 end 0 (omega arith) refl k (omega arith) (omega arith);
      } in
      subst (IsFirst octets) (sym (ap (count_trailing_zeros 64) mask ∙ counted)) found
