-- Lemmas on the text that answers lines: lines have a text, and only one, and one state may be shown by another.
use Rattle.std.proofs.Common.{◌≡◌, ℕ, ◌+◌, ◌≤◌, ◌⊎◌, inl, inr, List, [], ◌∷◌, ◌++◌, length, Option, Some, None, refl, sym, ◌∙◌, ap, subst, arith}
use Rattle.std.proofs.lemmas.Bool.{cases_lt}
use Rattle.rtcp_text.specs.declared.fault.LineFault.{LineFault}
use Rattle.rtcp_text.specs.declared.fault.LineFault.TheVariants.{LineTooLong, TooManyLines}
use Rattle.rtcp_text.specs.Lines.{Answering, Refusing, IsLineFault, IsTextBy, IsTextFrom}
use Rattle.rtcp_text.proofs.LinesLemmas.{IsTextBy-append}

-- Each line is refused or has an answer.
abbrev pub IsTotal : {S : Type 0} → Answering S → Refusing → Type 0
IsTotal {S} answers refuses =
    (state : S) (line : List ℕ) → ((fault : LineFault) × refuses line fault) ⊎
    ((text : List ℕ) × (next : S) × answers state line text next)

-- No line has two answers, or two faults, or both.
pub record IsUnique {S : Type 0} (answers : Answering S) (refuses : Refusing) : Type 0 where
  pub answer : (state next next' : S) (line text text' : List ℕ) → answers state line text next →
      answers state line text' next' → (text ≡ text') × (next ≡ next')
  pub fault : (line : List ℕ) (fault fault' : LineFault) → refuses line fault → refuses line fault' → fault ≡ fault'
  pub never_both : (state next : S) (line text : List ℕ) (fault : LineFault) → refuses line fault →
      answers state line text next → ⊥

-- ---- Lines have a text

module _ {S : Type 0} (most : ℕ) (answers : Answering S) (refuses : Refusing) (total : IsTotal answers refuses) where
  pub text_exists : (n : ℕ) (state : S) (lines : List (List ℕ)) → (text : List ℕ) × (end : Option (ℕ × LineFault))
      × IsTextFrom most answers refuses n state lines text end
  text_exists n state [] = ([], None, (state, (refl, refl, refl)))
  text_exists n state (line ∷ lines) =
      let Goal = (text : List ℕ) × (end : Option (ℕ × LineFault)) × IsTextFrom most answers refuses n state
      (line ∷ lines) text end in
      let refused : (fault : LineFault) → IsLineFault most refuses n line fault → Goal =
      λ fault h. ([], Some (n, fault), (state, inl (fault, h, refl, refl, refl))) in
      let answered : n ≤ most → length line ≤ 131200 → (text : List ℕ) × (next : S) × answers state line text next →
      Goal =
      λ few short found.
      let others = text_exists (n + 1) found.1 lines in (
        found.0 ++ others.0,
        others.1,
        (others.2.0, inr (found.0, found.1, others.0, few, short, found.2, refl, others.2.1)),
      ) in
      elim (cases_lt most n) [
        | inl late ↦ refused TooManyLines (inl (refl, late))
        | inr few ↦
            elim (cases_lt 131200 (length line)) [
              | inl long ↦ refused LineTooLong (inr (inl (refl, few, long)))
              | inr short ↦ elim (total state line) [
                | inl fault ↦ refused fault.0 (inr (inr (few, short, fault.1)))
                | inr found ↦ answered few short found
              ]
            ]
      ]

  -- What answers some lines is a prefix of what answers more.
  pub text_continues : (n : ℕ) (state : S) (lines others : List (List ℕ)) (text : List ℕ) →
      IsTextFrom most answers refuses n state lines text None
      → (rest : List ℕ) × (end : Option (ℕ × LineFault)) × IsTextFrom most answers refuses n state (lines ++ others)
      (text ++ rest) end
  text_continues n state lines others text (next, texts) =
      let rest = text_exists (n + length lines) next others in (
        rest.0,
        rest.1,
        (
          rest.2.0,
          IsTextBy-append most answers refuses n state next rest.2.0 lines others text rest.0
              rest.1 texts rest.2.1,
        ),
      )

-- ---- Lines have only one text

module _ {S : Type 0} (most : ℕ) (answers : Answering S) (refuses : Refusing) (unique : IsUnique answers refuses) where
  one_line_fault : (n : ℕ) (line : List ℕ) (f g : LineFault) → IsLineFault most refuses n line f →
      IsLineFault most refuses n line g → f ≡ g
  one_line_fault n line f g (inl h) (inl k) = h.0 ∙ sym k.0
  one_line_fault n line f g (inl h) (inr (inl k)) = absurd (omega (arith, h.1, k.1))
  one_line_fault n line f g (inl h) (inr (inr k)) = absurd (omega (arith, h.1, k.0))
  one_line_fault n line f g (inr (inl h)) (inl k) = absurd (omega (arith, h.1, k.1))
  one_line_fault n line f g (inr (inl h)) (inr (inl k)) = h.0 ∙ sym k.0
  one_line_fault n line f g (inr (inl h)) (inr (inr k)) = absurd (omega (arith, h.2, k.1))
  one_line_fault n line f g (inr (inr h)) (inl k) = absurd (omega (arith, h.0, k.1))
  one_line_fault n line f g (inr (inr h)) (inr (inl k)) = absurd (omega (arith, h.1, k.2))
  one_line_fault n line f g (inr (inr h)) (inr (inr k)) = unique.fault line f g h.2 k.2

  -- A line that has a fault has no answer.
  no_answer : (n : ℕ) (state next : S) (line text : List ℕ) (fault : LineFault) →
      IsLineFault most refuses n line fault → n ≤ most → length line ≤ 131200
      → answers state line text next → ⊥
  no_answer n state next line text fault (inl h) few short is_answer = omega (arith, h.1)
  no_answer n state next line text fault (inr (inl h)) few short is_answer = omega (arith, h.2)
  no_answer n state next line text fault (inr (inr h)) few short is_answer = unique.never_both state next line text
      fault h.2 is_answer

  pub one_text : (n : ℕ) (state last last' : S) (lines : List (List ℕ)) (text text' : List ℕ)
      (end end' : Option (ℕ × LineFault))
      → IsTextBy most answers refuses n state lines text end last →
      IsTextBy most answers refuses n state lines text' end' last' → (text ≡ text') × (end ≡ end')
  one_text n state last last' [] text text' end end' h k = (h.0 ∙ sym k.0, h.1 ∙ sym k.1)
  one_text n state last last' (line ∷ lines) text text' end end' (inl h) (inl k) =
      (h.2 ∙ sym k.2, h.3 ∙ ap (λ fault. Some (n, fault)) (one_line_fault n line h.0 k.0 h.1 k.1) ∙ sym k.3)
  one_text n state last last' (line ∷ lines) text text' end end' (inl h) (inr k) =
      absurd (no_answer n state k.1 line k.0 h.0 h.1 k.3 k.4 k.5)
  one_text n state last last' (line ∷ lines) text text' end end' (inr h) (inl k) =
      absurd (no_answer n state h.1 line h.0 k.0 k.1 h.3 h.4 h.5)
  one_text n state last last' (line ∷ lines) text text' end end'
      (inr (answer, next, others, few, short, is_answer, parts, rest))
      (inr (answer', next', others', few', short', is_answer', parts', rest')) =
      let same = unique.answer state next next' line answer answer' is_answer is_answer' in
      let rest'' = subst (λ s. IsTextBy most answers refuses (n + 1) s lines others' end' last') (sym same.1) rest' in
      let later = one_text (n + 1) next last last' lines others others' end end' rest rest'' in
      (parts ∙ ap (λ a. a ++ others) same.0 ∙ ap (λ o. answer' ++ o) later.0 ∙ sym parts', later.1)

-- ---- One state that is shown by another

-- Where each answer in a state is one in each state that shows it, the whole text is too.
pub IsTextBy-shown : {S T : Type 0} (most : ℕ) (answers : Answering S) (answers' : Answering T) (refuses : Refusing)
    (Shows : T → S → Type 0)
    → ((state next : S) (shown : T) (line text : List ℕ) → Shows shown state → answers state line text next →
    (next' : T) × Shows next' next × answers' shown line text next')
    → (n : ℕ) (state last : S) (shown : T) (lines : List (List ℕ)) (text : List ℕ) (end : Option (ℕ × LineFault)) →
    Shows shown state
    → IsTextBy most answers refuses n state lines text end last →
    (last' : T) × Shows last' last × IsTextBy most answers' refuses n shown lines text end last'
IsTextBy-shown most answers answers' refuses Shows each n state last shown [] text end shows (none, ends, same) =
    (shown, subst (λ s. Shows shown s) (sym same) shows, (none, ends, refl))
IsTextBy-shown most answers answers' refuses Shows each n state last shown (line ∷ lines) text end shows
    (inl (fault, is_fault, none, ends, same)) =
    (shown, subst (λ s. Shows shown s) (sym same) shows, inl (fault, is_fault, none, ends, refl))
IsTextBy-shown most answers answers' refuses Shows each n state last shown (line ∷ lines) text end shows
    (inr (answer, next, others, few, short, is_answer, parts, rest)) =
    let first = each state next shown line answer shows is_answer in
    let later = IsTextBy-shown most answers answers' refuses Shows each (n + 1) next last first.0 lines others end
    first.1 rest in
    (later.0, later.1, inr (answer, first.0, others, few, short, first.2, parts, later.2))
