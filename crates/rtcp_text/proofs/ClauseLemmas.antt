-- What a run over lines leaves, in the words of its clauses.
use Rattle.std.proofs.Common.{◌≡◌, ℕ, List, [], ◌++◌, Option, Some, None, Result, Ok, Err, OnOk, sym, subst, append_assoc, append-nil}
use Rattle.rtcp_text.specs.declared.fault.LineFault.{LineFault}
use Rattle.rtcp_text.specs.declared.fault.TextFault.{TextFault}
use Rattle.rtcp_text.specs.declared.fault.TextFault.TheVariants.{Text, Read, Write, Memory}
use Rattle.rtcp_text.specs.Lines.{lines_of, TextOfLines, IsPrefixBy, AnswersUpToBlockBy, AnswersLinesBeforeBy, Writes}
use Rattle.rtcp_text.specs.Progress.{IsPrefixOfAnswers, RunLeaves}
use Rattle.rtcp_text.proofs.LinesLemmas.{lines_of-begins}
use Rattle.rtcp_text.proofs.ProgressLemmas.{ne-append}

-- Whatever answers some lines is a prefix of what answers more.
abbrev pub Continues : TextOfLines → Type 0
Continues IsText =
    (lines others : List (List ℕ)) (text : List ℕ) → IsText lines text None
    → (rest : List ℕ) × (end : Option (ℕ × LineFault)) × IsText (lines ++ others) (text ++ rest) end

-- ---- One text and another

-- What holds of each text holds of what a run leaves.
pub RunLeaves-weaker : (IsText IsText' : TextOfLines)
    → ((lines : List (List ℕ)) (text : List ℕ) (end : Option (ℕ × LineFault)) → IsText lines text end →
    IsText' lines text end)
    → {A : Type 0} (r : Result A TextFault) (left : Option (List ℕ)) (input text : List ℕ) →
    RunLeaves IsText r left input text → RunLeaves IsText' r left input text
RunLeaves-weaker IsText IsText' weaker (Ok x) left input text leaves = weaker _ _ _ leaves
RunLeaves-weaker IsText IsText' weaker (Err (Text number fault)) left input text leaves = weaker _ _ _ leaves
RunLeaves-weaker IsText IsText' weaker (Err Memory) left input text (
  lines,
  part,
  block,
  rest,
  is_left,
  each,
  short,
  some,
  begins,
  texts,
) =
    (lines, part, block, rest, is_left, each, short, some, begins, weaker _ _ _ texts)
RunLeaves-weaker IsText IsText' weaker (Err Read) left input text (lines, part, rest, is_left, each, begins, texts) =
    (lines, part, rest, is_left, each, begins, weaker _ _ _ texts)
RunLeaves-weaker IsText IsText' weaker (Err Write) left input text (lines, others, more, parts, texts) =
    (lines, others, more, parts, weaker _ _ _ texts)

module _ (IsText : TextOfLines) where
  -- Lines that are answered up to a block are lines before some line.
  pub AnswersLinesBeforeBy-block : (left : Option (List ℕ)) (input text : List ℕ) →
      AnswersUpToBlockBy IsText left input text → AnswersLinesBeforeBy IsText input text
  AnswersLinesBeforeBy-block left input text (lines, part, block, rest, is_left, each, short, some, begins, texts) =
      (lines, (part ++ block) ++ rest, ne-append (part ++ block) rest some, begins, texts)

  -- ---- What is written is a prefix

  module _ (continues : Continues IsText) where
    IsPrefixBy-answers : (input text : List ℕ) → IsPrefixOfAnswers IsText input text → IsPrefixBy IsText input text
    IsPrefixBy-answers input text (lines, others, more, parts, texts) =
        let rest = continues lines others (text ++ more) texts in (
          rest.1,
          more ++ rest.0,
          subst (λ all. IsText all (text ++ (more ++ rest.0)) rest.1) (sym parts)
              (subst (λ t. IsText (lines ++ others) t rest.1) (append_assoc text more rest.0) rest.2),
        )

    pub IsPrefixBy-leaves : {A : Type 0} (r : Result A TextFault) (left : Option (List ℕ)) (input text : List ℕ) →
        RunLeaves IsText r left input text → IsPrefixBy IsText input text
    IsPrefixBy-leaves (Ok x) left input text leaves =
        (None, [], subst (λ t. IsText (lines_of input) t None) (sym (append-nil text)) leaves)
    IsPrefixBy-leaves (Err (Text number fault)) left input text leaves = (
      Some (number, fault),
      [],
      subst (λ t. IsText (lines_of input) t (Some (number, fault))) (sym (append-nil text))
          leaves,
    )
    IsPrefixBy-leaves (Err Memory) left input text leaves =
        let (lines, rest, some, begins, texts) = AnswersLinesBeforeBy-block left input text leaves in
        IsPrefixBy-answers input text (
          lines,
          lines_of rest,
          [],
          lines_of-begins input lines rest begins,
          subst (λ t. IsText lines t None) (sym (append-nil text)) texts,
        )
    IsPrefixBy-leaves (Err Read) left input text (lines, part, rest, is_left, each, begins, texts) =
        IsPrefixBy-answers input text (
          lines,
          lines_of (part ++ rest),
          [],
          lines_of-begins input lines (part ++ rest) begins,
          subst (λ t. IsText lines t None) (sym (append-nil text)) texts,
        )
    IsPrefixBy-leaves (Err Write) left input text leaves = IsPrefixBy-answers input text leaves

  -- ---- The outcomes

  pub Writes-whole : (remaining held holds left : Option (List ℕ)) {A : Type 0} (r : Result A TextFault) →
      Writes remaining held holds (RunLeaves IsText r left)
      → OnOk r (Writes remaining held holds (λ input text. IsText (lines_of input) text None))
  Writes-whole remaining held holds left (Ok x) writes = writes
  Writes-whole remaining held holds left (Err e) writes = tt

  pub Writes-refused : (remaining held holds left : Option (List ℕ)) {A : Type 0} (r : Result A TextFault) →
      Writes remaining held holds (RunLeaves IsText r left)
      → (fault : TextFault) → r ≡ Err fault → Writes remaining held holds (RunLeaves IsText {A = A} (Err fault) left)
  Writes-refused remaining held holds left {A} r writes fault is =
      subst (λ (s : Result A TextFault). Writes remaining held holds (RunLeaves IsText s left)) is writes

-- ---- What is written

-- What is written stays what it is.
pub Writes-weaker : (remaining held holds : Option (List ℕ)) (P Q : List ℕ → List ℕ → Type 0) →
    ((input text : List ℕ) → P input text → Q input text)
    → Writes remaining held holds P → Writes remaining held holds Q
Writes-weaker remaining held holds P Q weaker writes = λ input before known written.
    let found = writes input before known written in (found.0, found.1, weaker input found.0 found.2)
