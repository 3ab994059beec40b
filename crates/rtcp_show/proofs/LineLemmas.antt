-- Parts of lines, one after the other.
use Rattle.std.proofs.Common.{◌≡◌, ◌++◌, ◌∷◌, [], ◌∙◌, ap, ℕ, List, append_assoc, map, refl}

-- What is said of a datagram follows what was written before it.
pub passed :
    (before middle after head : List ℕ) → (P : List ℕ → Type 0)
    → middle ≡ before ++ head
    → (text : List ℕ) × P text × (after ≡ middle ++ text)
    → (whole : List ℕ) × ((text : List ℕ) × P text × (whole ≡ head ++ text)) × (after ≡ before ++ whole)
passed before middle after head P first given = (
  head ++ given.0,
  (given.0, given.1, refl),
  given.2 ∙ ap (λ xs. xs ++ given.0) first
      ∙ append_assoc before head given.0,
)

-- Four parts are written one after the other.
pub four_parts :
    (o0 o1 o2 o3 o4 a b c d : List ℕ)
    → o1 ≡ o0 ++ a → o2 ≡ o1 ++ b → o3 ≡ o2 ++ c → o4 ≡ o3 ++ d → o4 ≡ o0 ++ (a ++ b ++ c ++ d)
four_parts o0 o1 o2 o3 o4 a b c d h1 h2 h3 h4 = rw (h4, h3, h2, h1) (simp append_assoc)

-- So are five.
pub five_parts :
    (o0 o1 o2 o3 o4 o5 a b c d e : List ℕ)
    → o1 ≡ o0 ++ a → o2 ≡ o1 ++ b → o3 ≡ o2 ++ c → o4 ≡ o3 ++ d → o5 ≡ o4 ++ e
    → o5 ≡ o0 ++ (a ++ b ++ c ++ d ++ e)
five_parts o0 o1 o2 o3 o4 o5 a b c d e h1 h2 h3 h4 h5 = rw (h5, h4, h3, h2, h1) (simp append_assoc)

-- So are seven.
pub seven_parts :
    (o0 o1 o2 o3 o4 o5 o6 o7 a b c d e f g : List ℕ)
    → o1 ≡ o0 ++ a → o2 ≡ o1 ++ b → o3 ≡ o2 ++ c → o4 ≡ o3 ++ d → o5 ≡ o4 ++ e → o6 ≡ o5 ++ f → o7 ≡ o6 ++ g
    → o7 ≡ o0 ++ (a ++ b ++ c ++ d ++ e ++ f ++ g)
seven_parts o0 o1 o2 o3 o4 o5 o6 o7 a b c d e f g h1 h2 h3 h4 h5 h6 h7 =
    rw (h7, h6, h5, h4, h3, h2, h1) (simp append_assoc)

-- What is read of each, one reading after the other.
pub map_twice : {A B C : Type 0} (f : A → B) (g : B → C) (xs : List A) → map g (map f xs) ≡ map (λ x. g (f x)) xs
map_twice f g [] = refl
map_twice {C = C} f g (x ∷ xs) = ap (λ (rest : List C). g (f x) ∷ rest) (map_twice f g xs)
