-- A text that is appended as a whole.
use Rattle.std.proofs.Common.{◌≡◌, ℕ, ◌-◌, ◌≤◌, List, [], ◌∷◌, ◌++◌, length, take, drop, Result, Ok, Err, cond, ap, ◌∙◌, arith}
use Rattle.std.proofs.lemmas.List.{append_assoc, length-take, drop-drop, drop_at}
use borrow.Rule.Slice.PartMut.{put_mid}
use Rattle.std.specs.Prelude.{OnOk, is_ok}

pub appended : {T E : Type 0} (result : Result T E) (old new text whole : List ℕ) →
    new ≡ cond (is_ok result) (old ++ text) old → text ≡ whole
    → OnOk result (new ≡ old ++ whole)
appended (Ok x) old new text whole items same = items ∙ ap (λ (t : List ℕ). old ++ t) same
appended (Err e) old new text whole items same = tt

-- seven parts with an octet between each two of them, which were put in front one after the other
pub seven_parts : (octet : ℕ) (a b c d e f g : List ℕ)
    → a ++ octet ∷ (b ++ octet ∷ (c ++ octet ∷ (d ++ octet ∷ (e ++ octet ∷ (f ++ octet ∷ g)))))
    ≡ a ++ (octet ∷ []) ++ b ++ (octet ∷ []) ++ c ++ (octet ∷ []) ++ d ++ (octet ∷ []) ++ e ++ (octet ∷ []) ++ f
    ++ (octet ∷ []) ++ g
seven_parts octet a b c d e f g = simp append_assoc

-- What stands from a place on where a text was written up to another.
pub text_written : (xs text : List ℕ) (a e : ℕ) → a ≤ e → e ≤ length xs → length text ≡ e - a
    → drop a (put_mid a (e - a) xs text) ≡ text ++ drop e xs
text_written xs text a e before within long =
    let front : length (take a xs) ≡ a = omega (arith, length-take a xs) in
    let after : drop (e - a) (drop a xs) ≡ drop e xs = drop-drop _ _ xs ∙ ap (λ (n : ℕ). drop n xs) (omega arith) in
    let seam = drop_at (take a xs) (text ++ drop (e - a) (drop a xs)) a front in
    seam ∙ ap (λ (r : List ℕ). text ++ r) after
