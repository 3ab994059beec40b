-- Parts that are appended one after the other.
use Rattle.std.proofs.Common.{◌≡◌, ℕ, List, [], ◌∷◌, ◌++◌, map, Result, OnOk, Ok, Err, refl, ap, ◌∙◌}
use Rattle.std.specs.List.{flat_map}
use Rattle.std.proofs.lemmas.List.{append_assoc}

-- two options with their values
pub pair : {E : Type 0} (r : Result (Unit {0}) E) (out a b c d first second : List ℕ) → first ≡ out ++ a ++ b
    → OnOk r (second ≡ first ++ c ++ d) → OnOk r (second ≡ out ++ (a ++ b ++ c ++ d))
pair (Ok x) out a b c d first second one two =
    two ∙ ap (λ xs. xs ++ c ++ d) (one ∙ append_assoc out a b) ∙ ap (λ xs. xs ++ d) (append_assoc out (a ++ b) c)
    ∙ append_assoc out (a ++ b ++ c) d
pair (Err e) out a b c d first second one two = two

-- the same with a text between them
pub pair_around : {E : Type 0} (r : Result (Unit {0}) E) (out a b between c d first next second : List ℕ)
    → first ≡ out ++ a ++ b → next ≡ first ++ between → OnOk r (second ≡ next ++ c ++ d)
    → OnOk r (second ≡ out ++ (a ++ b ++ between ++ c ++ d))
pair_around (Ok x) out a b between c d first next second one two three = rw (three, two, one) (simp append_assoc)
pair_around (Err x) out a b between c d first next second one two three = three

-- five parts
pub five : {E : Type 0} (r : Result (Unit {0}) E) (out a b c d e n1 n2 n3 n4 n5 : List ℕ) → n1 ≡ out ++ a → n2 ≡ n1 ++ b
    → n3 ≡ n2 ++ c → n4 ≡ n3 ++ d → OnOk r (n5 ≡ n4 ++ e) → OnOk r (n5 ≡ out ++ (a ++ b ++ c ++ d ++ e))
five (Ok x) out a b c d e n1 n2 n3 n4 n5 h1 h2 h3 h4 h5 =
    h5 ∙ ap (λ xs. xs ++ e)
    (h4 ∙ ap (λ xs. xs ++ d) (h3 ∙ ap (λ xs. xs ++ c) (h2 ∙ ap (λ xs. xs ++ b) h1 ∙ append_assoc out a b)
    ∙ append_assoc out (a ++ b) c) ∙ append_assoc out (a ++ b ++ c) d) ∙ append_assoc out (a ++ b ++ c ++ d) e
five (Err x) out a b c d e n1 n2 n3 n4 n5 h1 h2 h3 h4 h5 = h5

-- each of some values, as a text
pub flat_map-map : {X Y Z : Type 0} (f : X → Y) (g : Y → List Z) (xs : List X) → flat_map g (map f xs)
    ≡ flat_map (λ x. g (f x)) xs
flat_map-map f g [] = refl
flat_map-map f g (x ∷ xs) = ap (λ ys. g (f x) ++ ys) (flat_map-map f g xs)
