-- A line that ends what was written, cut.
use Rattle.std.proofs.Common.{◌≡◌, ◌++◌, ◌+◌, ◌-◌, ◌<◌, ◌≤◌, ◌∷◌, [], ℕ, Bool, true, false, List, length, take, drop, codes, if◌then◌else◌, nat_lt, refl, sym, ap, ◌∙◌, append_assoc, arith}
use Rattle.std.proofs.lemmas.Bool.Decides.{nat_tests}
use Rattle.std.proofs.lemmas.List.{take-append-drop, length-append, length-drop, length-take, length-take-le}
use Rattle.std.proofs.Math.Seq.{take-append-add}
use Rattle.rtcp_show.specs.ShortRows.{cut_text}

-- More of a list is what was taken of it, and what is taken of the rest.
pub take_further :
    (start more : ℕ) (xs : List ℕ) → start ≤ length xs
    → take (start + more) xs ≡ take start xs ++ take more (drop start xs)
take_further start more xs within =
    let front = take start xs in
    let size : length front ≡ start = length-take-le start xs within in
    ap (take (start + more)) (sym (take-append-drop start xs))
    ∙ ap (λ n. take (n + more) (front ++ drop start xs)) (sym size)
    ∙ take-append-add front (drop start xs) more

-- What was cut off after 97 octets of the line that begins here, and ends with three points, is the line cut.
pub cut_off :
    (start n : ℕ) (xs cut after : List ℕ) → cut ≡ take n xs → n ≡ start + 97 → start ≤ length xs
    → 100 < length xs - start → after ≡ cut ++ codes "..." → after ≡ take start xs ++ cut_text (drop start xs)
cut_off start n xs cut after is seen within long written =
    let size : length (drop start xs) ≡ length xs - start = length-drop start xs in
    let test : nat_lt 100 (length (drop start xs)) ≡ true = grind (arith, nat_tests) in
    rw test (written
    ∙ ap (λ c. c ++ codes "...") (is ∙ ap (λ n. take n xs) seen ∙ take_further start 97 xs within)
    ∙ append_assoc (take start xs) (take 97 (drop start xs)) (codes "..."))

cut_size :
    (line : List ℕ) (long : Bool) → nat_lt 100 (length line) ≡ long
    → length (if long then take 97 line ++ codes "..." else line) ≤ 100
cut_size line true test = omega (arith, length-append (take 97 line) (codes "..."), length-take 97 line)
cut_size line false test = grind (arith, nat_tests)

-- With its line feed it has at most 101 octets.
pub cut_fits : (line : List ℕ) → length (cut_text line ++ 10 ∷ []) ≤ 101
cut_fits line = omega (arith, length-append (cut_text line) (10 ∷ []), cut_size line (nat_lt 100 (length line)) refl)
