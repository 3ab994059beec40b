-- Spellings (encodings) that are joined: one more after them, and that two ways to join the same octets agree.
use Rattle.std.proofs.Common.{◌≡◌, ℕ, ◌+◌, ◌⊎◌, List, [], ◌∷◌, ◌++◌, length, refl, sym, ap, subst, ◌∙◌, append_assoc, append-nil, arith, inl, inr}
use Rattle.std.proofs.lemmas.List.{append_cancel_left, nil_from_length, length-append}
use Rattle.rtcp_wire.specs.Grammar.{Joins}

-- No spelling is a proper prefix of another, and a spelling says one value.
abbrev pub IsPrefixFree : {A : Type 0} → (A → List ℕ → Type 0) → Type 0
IsPrefixFree {A = A} S = (x y : A) (a c r s : List ℕ) → S x a → S y c → a ++ r ≡ c ++ s → (a ≡ c) × (x ≡ y)

-- Each spelling has an octet.
abbrev pub IsNeverEmpty : {A : Type 0} → (A → List ℕ → Type 0) → Type 0
IsNeverEmpty {A = A} S = (x : A) → S x [] → ⊥

-- ---- Joining

-- one list of spellings after another
pub Joins-append : {A : Type 0} (S : A → List ℕ → Type 0) (xs ys : List A) (a c : List ℕ) → Joins S xs a →
    Joins S ys c → Joins S (xs ++ ys) (a ++ c)
Joins-append S [] ys a c h k = subst (λ (t : List ℕ). Joins S ys (t ++ c)) (sym h) k
Joins-append S (x ∷ xs) ys a c h k = (
  h.0,
  h.1 ++ c,
  ap (λ (t : List ℕ). t ++ c) h.2 ∙ append_assoc h.0 h.1 c,
  h.3,
  Joins-append S xs ys h.1 c h.4 k,
)

-- one spelling alone
pub Joins-one : {A : Type 0} (S : A → List ℕ → Type 0) (y : A) (c : List ℕ) → S y c → Joins S (y ∷ []) c
Joins-one S y c k = (c, [], sym (append-nil c), k, refl)

-- one more at the end
pub Joins-push : {A : Type 0} (S : A → List ℕ → Type 0) (xs : List A) (y : A) (a c : List ℕ) → Joins S xs a → S y c →
    Joins S (xs ++ y ∷ []) (a ++ c)
Joins-push S xs y a c h k = Joins-append S xs (y ∷ []) a c h (Joins-one S y c k)

-- one more at the start
pub Joins-cons : {A : Type 0} (S : A → List ℕ → Type 0) (x : A) (ys : List A) (a c : List ℕ) → S x a → Joins S ys c →
    Joins S (x ∷ ys) (a ++ c)
Joins-cons S x ys a c h k = (a, c, refl, h, k)

-- ---- Comparing

-- The values ys with their octets c go on after the values xs with their octets a.
pub record Extends (A : Type 0) (S : A → List ℕ → Type 0) (xs : List A) (a r : List ℕ) (ys : List A) (c s : List ℕ) :
    Type 0 where
  pub more : List A
  pub octets : List ℕ
  pub values : ys ≡ xs ++ more
  pub prefix : c ≡ a ++ octets
  pub each : Joins S more octets
  pub rest : r ≡ octets ++ s

-- Both sides begin with one value more.
Extends-cons : {A : Type 0} (S : A → List ℕ → Type 0) (x y : A) (f g : List ℕ) (xs : List A) (a b r : List ℕ)
    (ys : List A) (c d s : List ℕ) → x ≡ y → f ≡ g → a ≡ f ++ b → c ≡ g ++ d → Extends A S xs b r ys d s →
    Extends A S (x ∷ xs) a r (y ∷ ys) c s
Extends-cons S x y f g xs a b r ys c d s same_value same a-is c-is e = record {
  more = e.more;
  octets = e.octets;
  values = let v : ys ≡ xs ++ e.more = e.values in cc;
  prefix = c-is ∙ ap (λ (t : List ℕ). g ++ t) e.prefix ∙ ap (λ (t : List ℕ). t ++ (b ++ e.octets)) (sym same)
      ∙ sym (append_assoc f b e.octets) ∙ ap (λ (t : List ℕ). t ++ e.octets) (sym a-is);
  each = e.each;
  rest = e.rest;
}

-- An empty prefix leaves all.
none_before : (a c r s : List ℕ) → a ≡ [] → a ++ r ≡ c ++ s → r ≡ c ++ s
none_before a c r s nil e = ap (λ (t : List ℕ). t ++ r) (sym nil) ∙ e

-- Of two joined prefixes of the same octets, one goes on after the other.
pub comparing : {A : Type 0} (S : A → List ℕ → Type 0) → IsPrefixFree S → (xs ys : List A) (a c r s : List ℕ) →
    Joins S xs a → Joins S ys c → a ++ r ≡ c ++ s → Extends A S xs a r ys c s ⊎ Extends A S ys c s xs a r
comparing S free [] ys a c r s h k e =
    inl (record {
      more = ys;
      octets = c;
      values = refl;
      prefix = ap (λ (t : List ℕ). t ++ c) (sym h);
      each = k;
      rest = none_before a c r s h e;
    })
comparing S free (x ∷ xs) [] a c r s h k e =
    inr (record {
      more = x ∷ xs;
      octets = a;
      values = refl;
      prefix = ap (λ (t : List ℕ). t ++ a) (sym k);
      each = h;
      rest = none_before c a s r k (sym e);
    })
comparing S free (x ∷ xs) (y ∷ ys) a c r s h k e =
    let regrouped : h.0 ++ (h.1 ++ r) ≡ k.0 ++ (k.1 ++ s) = sym (append_assoc h.0 h.1 r)
    ∙ ap (λ (t : List ℕ). t ++ r) (sym h.2) ∙ e ∙ ap (λ (t : List ℕ). t ++ s) k.2 ∙ append_assoc k.0 k.1 s in
    let both = free x y h.0 k.0 (h.1 ++ r) (k.1 ++ s) h.3 k.3 regrouped in
    let rests : h.1 ++ r ≡ k.1 ++ s = append_cancel_left h.0 (h.1 ++ r) (k.1 ++ s)
    (regrouped ∙ ap (λ (t : List ℕ). t ++ (k.1 ++ s)) (sym both.0)) in
    elim (comparing S free xs ys h.1 k.1 r s h.4 k.4 rests) [
      | inl on ↦ inl (Extends-cons S x y h.0 k.0 xs a h.1 r ys c k.1 s both.1 both.0 h.2 k.2 on)
      | inr on ↦ inr (Extends-cons S y x k.0 h.0 ys c k.1 s xs a h.1 r (sym both.1) (sym both.0) k.2 h.2 on)
    ]

-- what goes on by no value goes on by no octet
pub Extends-none : {A : Type 0} (S : A → List ℕ → Type 0) (xs : List A) (a r : List ℕ) (ys : List A) (c s : List ℕ)
    (e : Extends A S xs a r ys c s) → length e.more ≡ 0 → (a ≡ c) × (xs ≡ ys)
Extends-none {A = A} S xs a r ys c s e none =
    let no_more : e.more ≡ [] = nil_from_length e.more none in
    let no_octets : e.octets ≡ [] = subst (λ (zs : List A). Joins S zs e.octets) no_more e.each in (
      sym (e.prefix ∙ ap (λ (t : List ℕ). a ++ t) no_octets ∙ append-nil a),
      sym (e.values ∙ ap (λ (zs : List A). xs ++ zs) no_more ∙ append-nil xs),
    )

-- the count of what goes on
pub Extends-length : {A : Type 0} (S : A → List ℕ → Type 0) (xs : List A) (a r : List ℕ) (ys : List A) (c s : List ℕ)
    (e : Extends A S xs a r ys c s) → length ys ≡ length xs + length e.more
Extends-length S xs a r ys c s e = ap length e.values ∙ length-append xs e.more

-- As many spellings from the same place are the same spellings of the same values.
pub same_count : {A : Type 0} (S : A → List ℕ → Type 0) → IsPrefixFree S → (xs ys : List A) (a c r s : List ℕ) →
    Joins S xs a → Joins S ys c → a ++ r ≡ c ++ s → length xs ≡ length ys → (a ≡ c) × (xs ≡ ys)
same_count S free xs ys a c r s h k e same =
    elim (comparing S free xs ys a c r s h k e) [
      | inl on ↦ Extends-none S xs a r ys c s on (omega (arith, Extends-length S xs a r ys c s on))
      | inr on ↦ (let both = Extends-none S ys c s xs a r on (omega (arith, Extends-length S ys c s xs a r on)) in
          (sym both.0, sym both.1))
    ]

-- No octets are no spellings.
pub nothing_joined : {A : Type 0} (S : A → List ℕ → Type 0) → IsNeverEmpty S → (xs : List A) (a : List ℕ) → a ≡ [] →
    Joins S xs a → xs ≡ []
nothing_joined S some [] a nil h = refl
nothing_joined S some (x ∷ xs) a nil h =
    absurd (some x (subst (λ (t : List ℕ). S x t) (no_prefix h.0 h.1 (sym h.2 ∙ nil)) h.3))
  where
    no_prefix : (f g : List ℕ) → f ++ g ≡ [] → f ≡ []
    no_prefix [] g e = refl
    no_prefix (o ∷ f) g e = absurd cc

-- Octets that are joined are joined in one way.
pub same_whole : {A : Type 0} (S : A → List ℕ → Type 0) → IsPrefixFree S → IsNeverEmpty S →
    (xs ys : List A) (b : List ℕ) → Joins S xs b → Joins S ys b → xs ≡ ys
same_whole S free some xs ys b h k =
    elim (comparing S free xs ys b b [] [] h k refl) [
      | inl on ↦ (Extends-none S xs b [] ys b [] on
          (ap length (nothing_joined S some on.more on.octets (sym (on.rest ∙ append-nil on.octets)) on.each))).1
      | inr on ↦ sym (Extends-none S ys b [] xs b [] on
          (ap length (nothing_joined S some on.more on.octets (sym (on.rest ∙ append-nil on.octets)) on.each))).1
    ]
