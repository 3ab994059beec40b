-- Lemmas on the lines of an input and on their text.
use Rattle.std.proofs.Common.{◌≡◌, ◌≢◌, ℕ, ◌+◌, inl, inr, List, [], ◌∷◌, ◌++◌, length, Option, None, Bool, true, false, eqb, cond, All, refl, sym, ◌∙◌, ap, subst, append_assoc, arith, add-zero}
use Rattle.std.specs.List.{flat_map}
use Rattle.std.proofs.lemmas.List.Elements.{All-head, All-tail}
use Rattle.std.proofs.lemmas.Bool.Decides.{nat_tests}
use Rattle.rtcp_text.specs.declared.fault.LineFault.{LineFault}
use Rattle.rtcp_text.specs.Lines.{with_octet, lines_of, HasNoLineFeed, BeginsWithLines, Answering, Refusing, IsTextBy}

-- not a line feed
abbrev Other : ℕ → Type 0
Other octet = octet ≢ 10

-- a test that fails
eqb-ne : (a b : ℕ) → a ≢ b → eqb a b ≡ false
eqb-ne a b h = grind (arith, nat_tests)

pub lines_of-line : (line rest : List ℕ) → HasNoLineFeed line → lines_of (line ++ 10 ∷ rest) ≡ line ∷ lines_of rest
lines_of-line [] rest each = refl
lines_of-line (octet ∷ line) rest each =
    ap (λ b. cond b ([] ∷ lines_of (line ++ 10 ∷ rest)) (with_octet octet (lines_of (line ++ 10 ∷ rest))))
    (eqb-ne octet 10 (All-head Other octet line each))
    ∙ ap (with_octet octet) (lines_of-line line rest (All-tail Other octet line each))

-- The first line begins with what has no line feed.
pub lines_of-part : (octet : ℕ) (part more : List ℕ) → HasNoLineFeed (octet ∷ part)
    → (tail : List ℕ) × (others : List (List ℕ))
    × (lines_of ((octet ∷ part) ++ more) ≡ ((octet ∷ part) ++ tail) ∷ others)
lines_of-part octet [] more each =
    let first = ap (λ b. cond b ([] ∷ lines_of more) (with_octet octet (lines_of more)))
    (eqb-ne octet 10 (All-head Other octet [] each)) in
    let P : List (List ℕ) → Type 0 = λ lines. (tail : List ℕ) × (others : List (List ℕ))
    × (with_octet octet lines ≡ (octet ∷ tail) ∷ others) in
    let found : P (lines_of more) =
    elim (lines_of more) as P [ [] ↦ ([], [], refl) | line ∷ lines ↦ (line, lines, refl) ] in
    (found.0, found.1, first ∙ found.2)
lines_of-part octet (next ∷ part) more each =
    let inner = lines_of-part next part more (All-tail Other octet (next ∷ part) each) in
    let rest = (next ∷ part) ++ more in (
      inner.0,
      inner.1,
      ap (λ b. cond b ([] ∷ lines_of rest) (with_octet octet (lines_of rest)))
          (eqb-ne octet 10 (All-head Other octet (next ∷ part) each)) ∙ ap (with_octet octet) inner.2,
    )

-- Where there is something, there is a line.
pub lines_of-some : (octet : ℕ) (input : List ℕ) → (line : List ℕ) × (others : List (List ℕ))
    × (lines_of (octet ∷ input) ≡ line ∷ others)
lines_of-some octet input =
    let P : Bool → Type 0 = λ b. (line : List ℕ) × (others : List (List ℕ))
    × (cond b ([] ∷ lines_of input) (with_octet octet (lines_of input)) ≡ line ∷ others) in
    let Q : List (List ℕ) → Type 0 = λ lines. (line : List ℕ) × (others : List (List ℕ))
    × (with_octet octet lines ≡ line ∷ others) in
    let inner : Q (lines_of input) = elim (lines_of input) as Q [
      | [] ↦ (octet ∷ [], [], refl)
      | line ∷ lines ↦ (octet ∷ line, lines, refl)
    ] in
    let found : P (eqb octet 10) = elim (eqb octet 10) as P [ true ↦ ([], lines_of input, refl) | false ↦ inner ] in
    found

pub lines_of-whole : (lines : List (List ℕ)) (rest : List ℕ) → All HasNoLineFeed lines
    → lines_of (flat_map (λ line. line ++ 10 ∷ []) lines ++ rest) ≡ lines ++ lines_of rest
lines_of-whole [] rest each = refl
lines_of-whole (line ∷ lines) rest each =
    let after = flat_map (λ line. line ++ 10 ∷ []) lines in
    ap lines_of (append_assoc (line ++ 10 ∷ []) after rest ∙ append_assoc line (10 ∷ []) (after ++ rest))
    ∙ lines_of-line line (after ++ rest) (All-head HasNoLineFeed line lines each)
    ∙ ap (λ others. line ∷ others) (lines_of-whole lines rest (All-tail HasNoLineFeed line lines each))

pub lines_of-begins : (input : List ℕ) (lines : List (List ℕ)) (rest : List ℕ) → BeginsWithLines input lines rest →
    lines_of input ≡ lines ++ lines_of rest
lines_of-begins input lines rest begins = ap lines_of begins.parts ∙ lines_of-whole lines rest begins.each

-- The texts of two runs of lines, one after the other.
pub IsTextBy-append : {S : Type 0} (most : ℕ) (answers : Answering S) (refuses : Refusing)
    (n : ℕ) (state next last : S) (lines others : List (List ℕ)) (text more : List ℕ) (end : Option (ℕ × LineFault))
    → IsTextBy most answers refuses n state lines text None next →
    IsTextBy most answers refuses (n + length lines) next others more end last
    → IsTextBy most answers refuses n state (lines ++ others) (text ++ more) end last
IsTextBy-append most answers refuses n state next last [] others text more end (none, ends, same) second =
    subst (λ t. IsTextBy most answers refuses n state others (t ++ more) end last) (sym none)
    (subst (λ s. IsTextBy most answers refuses n s others more end last) same
    (subst (λ m. IsTextBy most answers refuses m next others more end last) (add-zero n) second))
IsTextBy-append most answers refuses n state next last (line ∷ lines) others text more end (inl fault) second =
    absurd (let e = fault.3 in cc)
IsTextBy-append most answers refuses n state next last (line ∷ lines) others text more end
    (inr (answer, between, later, few, short, is_answer, parts, first)) second =
    let number : n + length (line ∷ lines) ≡ (n + 1) + length lines = omega arith in
    inr (
      answer,
      between,
      later ++ more,
      few,
      short,
      is_answer,
      ap (λ t. t ++ more) parts ∙ append_assoc answer later more,
      IsTextBy-append most answers refuses (n + 1) between next last lines others later more end first
          (subst (λ m. IsTextBy most answers refuses m next others more end last) number second),
    )

-- What has no line feed is one line.
pub lines_of-last : (octet : ℕ) (part : List ℕ) → HasNoLineFeed (octet ∷ part) →
    lines_of (octet ∷ part) ≡ (octet ∷ part) ∷ []
lines_of-last octet [] each = ap (λ b. cond b ([] ∷ []) (with_octet octet []))
    (eqb-ne octet 10 (All-head Other octet [] each))
lines_of-last octet (next ∷ part) each =
    let rest = next ∷ part in
    ap (λ b. cond b ([] ∷ lines_of rest) (with_octet octet (lines_of rest)))
    (eqb-ne octet 10 (All-head Other octet rest each))
    ∙ ap (with_octet octet) (lines_of-last next part (All-tail Other octet rest each))
