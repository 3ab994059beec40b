-- Prefixes of octets: equal lengths make equal prefixes, and a rest that begins no spelling ends every joined prefix.
use Rattle.std.proofs.Common.{◌≡◌, ℕ, ◌+◌, ◌≤◌, List, [], ◌∷◌, ◌++◌, length, refl, sym, ap, ◌∙◌, append_assoc, arith, inl, inr}
use Rattle.std.specs.List.{flat_map}
use Rattle.std.proofs.lemmas.List.{append_cancel_left, length-append}
use Rattle.std.proofs.lemmas.List.Concat.{flat_map-cons}
use Rattle.rtcp_wire.specs.Grammar.{Joins}
use Rattle.rtcp_wire.proofs.Joining.{IsPrefixFree, Extends, Extends-none, Extends-length, comparing}

-- ---- Lists

-- the parts of two lists that are the same
pub cons_parts : (o u : ℕ) (a c : List ℕ) → o ∷ a ≡ u ∷ c → (o ≡ u) × (a ≡ c)
cons_parts o u a c e = (cc, cc)

-- A list with an octet isn't empty.
pub cons_not_nil : (o : ℕ) (a : List ℕ) → o ∷ a ≡ [] → ⊥
cons_not_nil o a e = cc

-- Prefixes of one length of the same octets are the same.
pub same_prefixes : (a c r s : List ℕ) → length a ≡ length c → a ++ r ≡ c ++ s → (a ≡ c) × (r ≡ s)
same_prefixes [] [] r s len e = (refl, e)
same_prefixes [] (u ∷ c) r s len e = absurd (omega arith)
same_prefixes (o ∷ a) [] r s len e = absurd (omega arith)
same_prefixes (o ∷ a) (u ∷ c) r s len e =
    let parts = cons_parts o u (a ++ r) (c ++ s) e in
    let shorter : length a ≡ length c = omega arith in
    let both = same_prefixes a c r s shorter parts.1 in
    let first : o ≡ u = parts.0 in
    let others : a ≡ c = both.0 in
    (cc, both.1)

-- Where a whole is empty, so is its prefix.
pub no_prefix : (a c : List ℕ) → a ++ c ≡ [] → a ≡ []
no_prefix [] c e = refl
no_prefix (o ∷ a) c e = absurd cc

-- So is its rest.
pub no_rest : (a c : List ℕ) → a ++ c ≡ [] → c ≡ []
no_rest [] c e = e
no_rest (o ∷ a) c e = absurd cc

-- Equal prefixes of one whole leave equal rests.
pub cut_prefix : (a c r s : List ℕ) → a ≡ c → a ++ r ≡ c ++ s → r ≡ s
cut_prefix a c r s same e = append_cancel_left a r s (e ∙ ap (λ (t : List ℕ). t ++ s) (sym same))

-- the length of a whole, by its parts
pub length_parts : (b a c : List ℕ) → b ≡ a ++ c → length b ≡ length a + length c
length_parts b a c e = ap length e ∙ length-append a c

-- What is made of values is no longer than their spellings, where this holds of each.
pub joined_lengths : {A B : Type 0} (Spells : A → List ℕ → Type 0) (f : A → List B)
    → ((x : A) (octets : List ℕ) → Spells x octets → length (f x) ≤ length octets)
    → (xs : List A) (octets : List ℕ) → Joins Spells xs octets → length (flat_map f xs) ≤ length octets
joined_lengths Spells f each [] octets h = omega arith
joined_lengths Spells f each (x ∷ xs) octets h =
    let one = each x h.0 h.3 in
    let others = joined_lengths Spells f each xs h.1 h.4 in
    let back = ap length (flat_map-cons f x xs) in
    omega (arith, length_parts octets h.0 h.1 h.2, one, others, back, length-append (f x) (flat_map f xs))

-- ---- Ends

-- No spelling is a prefix of these octets.
abbrev pub BeginsNone : {A : Type 0} → (A → List ℕ → Type 0) → List ℕ → Type 0
BeginsNone {A = A} S rest = (x : A) (f g : List ℕ) → rest ≡ f ++ g → S x f → ⊥

-- Where nothing begins, nothing is joined.
pub none_joined : {A : Type 0} (S : A → List ℕ → Type 0) (more : List A) (octets r s : List ℕ) → BeginsNone S r →
    Joins S more octets → r ≡ octets ++ s → length more ≡ 0
none_joined S [] octets r s none h e = refl
none_joined S (x ∷ more) octets r s none h e =
    absurd (none x h.0 (h.1 ++ s) (e ∙ ap (λ (t : List ℕ). t ++ s) h.2 ∙ append_assoc h.0 h.1 s) h.3)

-- Where nothing begins after the shorter prefix, the longer one is the same.
pub Extends-end : {A : Type 0} (S : A → List ℕ → Type 0) (xs : List A) (a r : List ℕ) (ys : List A) (c s : List ℕ) →
    BeginsNone S r → Extends A S xs a r ys c s → (a ≡ c) × (xs ≡ ys)
Extends-end S xs a r ys c s none e = Extends-none S xs a r ys c s e
    (none_joined S e.more e.octets r s none e.each e.rest)

-- Two joined prefixes, after each of which nothing begins, are the same.
pub same_end : {A : Type 0} (S : A → List ℕ → Type 0) → IsPrefixFree S → (xs ys : List A) (a c r s : List ℕ) →
    Joins S xs a → Joins S ys c → a ++ r ≡ c ++ s → BeginsNone S r → BeginsNone S s → (a ≡ c) × (xs ≡ ys) × (r ≡ s)
same_end S free xs ys a c r s h k e none_r none_s =
    elim (comparing S free xs ys a c r s h k e) [
      | inl on ↦ (let both = Extends-end S xs a r ys c s none_r on in (both.0, both.1, cut_prefix a c r s both.0 e))
      | inr on ↦ (let both = Extends-end S ys c s xs a r none_s on in
          (sym both.0, sym both.1, cut_prefix a c r s (sym both.0) e))
    ]

-- Where nothing begins after these values, no other joined prefix has more values.
pub no_longer : {A : Type 0} (S : A → List ℕ → Type 0) → IsPrefixFree S → (xs ys : List A) (a c r s : List ℕ) →
    Joins S xs a → Joins S ys c → a ++ r ≡ c ++ s → BeginsNone S r → length ys ≤ length xs
no_longer S free xs ys a c r s h k e none =
    elim (comparing S free xs ys a c r s h k e) [
      | inl on ↦ omega (
        arith,
        Extends-length S xs a r ys c s on,
        none_joined S on.more on.octets r s none on.each
            on.rest,
      )
      | inr on ↦ omega (arith, Extends-length S ys c s xs a r on)
    ]
