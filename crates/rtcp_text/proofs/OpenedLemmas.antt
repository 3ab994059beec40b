-- What a run writes that begins with an opening: that, and then what the answers leave.
use Rattle.std.proofs.Common.{◌≡◌, ℕ, inl, inr, List, [], ◌++◌, Option, Some, None, Result, Ok, Err, refl, sym, ◌∙◌, ap, subst, append_assoc, append-nil}
use Rattle.std.specs.Io.KnownBytes.{Appends}
use Rattle.rtcp_text.specs.declared.fault.LineFault.{LineFault}
use Rattle.rtcp_text.specs.declared.fault.TextFault.{TextFault}
use Rattle.rtcp_text.specs.declared.fault.TextFault.TheVariants.{Text, Read, Write, Memory}
use Rattle.rtcp_text.specs.declared.fault.ReplayFault.{ReplayFault}
use Rattle.rtcp_text.specs.declared.fault.ReplayFault.TheVariants.{Run}
use Rattle.rtcp_text.specs.Lines.{lines_of, TextOfLines, Writes}
use Rattle.rtcp_text.specs.Progress.{RunLeaves}
use Rattle.rtcp_text.specs.Opened.{IsPrefixOfOpened, OpenedBefore, OpenedLeaves, OpenedRunLeaves, OpenedUpToBlock, ReplaysWith}
use Rattle.rtcp_text.proofs.ClauseLemmas.{AnswersLinesBeforeBy-block, Continues, IsPrefixBy-leaves, RunLeaves-weaker, Writes-weaker}

-- ---- What is written

-- a run's outcome as a replay's
abbrev pub replayed : Result (Unit {0}) TextFault → Result (Unit {0}) ReplayFault
replayed (Ok x) = Ok x
replayed (Err fault) = Err (Run fault)

-- What a writer held is known where it grew by a text.
appended_to : (held holds : Option (List ℕ)) (before text : List ℕ) → Appends held holds text → held ≡ Some before →
    holds ≡ Some (before ++ text)
appended_to None holds before text appends known = absurd (cc known)
appended_to (Some x) None before text appends known = absurd appends
appended_to (Some x) (Some y) before text appends known = cc (appends, known)

module _ (opening : List ℕ) (IsText : TextOfLines) where
  -- A prefix of the opening is written.
  pub Writes-cut : (A : Type 0) (fault : TextFault) (remaining held holds left : Option (List ℕ))
      (prefix more : List ℕ)
      → opening ≡ prefix ++ more → Appends held holds prefix → fault ≡ Write →
      Writes remaining held holds (OpenedRunLeaves opening IsText {A = A} (Err fault) left)
  Writes-cut A fault remaining held holds left prefix more parts appends is_write =
      λ input before known written. (
        prefix,
        appended_to held holds before prefix appends written,
        inl (ap Err is_write, (more, parts)),
      )

  -- The opening is written, and then what the answers leave.
  pub Writes-opened : {A : Type 0} (r : Result A TextFault) (remaining held holds last left : Option (List ℕ))
      (prefix more : List ℕ)
      → opening ≡ prefix ++ more → more ≡ [] → Appends held holds prefix →
      Writes remaining holds last (RunLeaves IsText r left)
      → Writes remaining held last (OpenedRunLeaves opening IsText r left)
  Writes-opened r remaining held holds last left prefix more parts none appends writes =
      λ input before known written.
      let is_prefix : prefix ≡ opening = sym (append-nil prefix) ∙ ap (λ m. prefix ++ m) (sym none) ∙ sym parts in
      let found = writes input (before ++ prefix) known (appended_to held holds before prefix appends written) in
      let same : (before ++ prefix) ++ found.0 ≡ before ++ (opening ++ found.0) =
      append_assoc before prefix found.0 ∙ ap (λ p. before ++ (p ++ found.0)) is_prefix in
      (opening ++ found.0, found.1 ∙ ap Some same, inr (found.0, refl, found.2))

  -- ---- Clauses

  OpenedBefore-block : (left : Option (List ℕ)) (input text : List ℕ) →
      OpenedUpToBlock opening IsText left input text → OpenedBefore opening IsText input text
  OpenedBefore-block left input text (inl none) = inl none
  OpenedBefore-block left input text (inr (answers, parts, block)) =
      inr (answers, parts, AnswersLinesBeforeBy-block IsText left input answers block)

  opened_prefix : (input text answers : List ℕ) → text ≡ opening ++ answers
      → ((end : Option (ℕ × LineFault)) × (more : List ℕ) × IsText (lines_of input) (answers ++ more) end) →
      IsPrefixOfOpened opening IsText input text
  opened_prefix input text answers parts (end, more, texts) = (
    end,
    answers ++ more,
    more,
    texts,
    sym (append_assoc opening answers more) ∙ ap (λ t. t ++ more) (sym parts),
  )

  -- Each input has a text, and what answers some lines is a prefix of what answers more.
  module _ (exists : (lines : List (List ℕ)) → (text : List ℕ) × (end : Option (ℕ × LineFault)) × IsText lines text end)
      (continues : Continues IsText) where
    -- A prefix of the opening is one of the whole text.
    IsPrefixOfOpened-start : (input text more : List ℕ) → opening ≡ text ++ more →
        IsPrefixOfOpened opening IsText input text
    IsPrefixOfOpened-start input text more parts =
        let found = exists (lines_of input) in
        (found.1, found.0, more ++ found.0, found.2, ap (λ t. t ++ found.0) parts ∙ append_assoc text more found.0)

    -- After the opening
    OpenedLeaves-opened : {A : Type 0} (r : Result A TextFault) (left : Option (List ℕ)) (input text answers : List ℕ) →
        text ≡ opening ++ answers → RunLeaves IsText r left input answers →
        OpenedLeaves opening IsText r left input text
    OpenedLeaves-opened (Err Memory) left input text answers parts leaves = inr (answers, parts, leaves)
    OpenedLeaves-opened {A} (Err Write) left input text answers parts leaves =
        opened_prefix input text answers parts
        (IsPrefixBy-leaves IsText continues {A = A} (Err Write) left input answers leaves)
    OpenedLeaves-opened r left input text answers parts leaves = (answers, parts, leaves)

    IsPrefixOfOpened-leaves : {A : Type 0} (r : Result A TextFault) (left : Option (List ℕ)) (input text : List ℕ) →
        OpenedLeaves opening IsText r left input text → IsPrefixOfOpened opening IsText input text
    IsPrefixOfOpened-leaves (Err Memory) left input text (inl none) =
        let found = exists (lines_of input) in
        (found.1, found.0, opening ++ found.0, found.2, ap (λ t. t ++ (opening ++ found.0)) (sym none))
    IsPrefixOfOpened-leaves {A} (Err Memory) left input text (inr (answers, parts, texts)) =
        opened_prefix input text answers parts
        (IsPrefixBy-leaves IsText continues {A = A} (Err Memory) left input answers texts)
    IsPrefixOfOpened-leaves (Err Write) left input text leaves = leaves
    IsPrefixOfOpened-leaves {A} r left input text leaves =
        opened_prefix input text leaves.0 leaves.1
        (IsPrefixBy-leaves IsText continues {A = A} r left input leaves.0 leaves.2)

    -- ---- A replay

    -- What the lines leave of a text that shows this one is what an opened run leaves.
    pub Writes-leaves : (IsText' : TextOfLines)
        → ((lines : List (List ℕ)) (text : List ℕ) (end : Option (ℕ × LineFault)) → IsText' lines text end →
        IsText lines text end)
        → {A : Type 0} (r : Result A TextFault) (remaining held holds left : Option (List ℕ)) →
        Writes remaining held holds (OpenedRunLeaves opening IsText' r left) →
        Writes remaining held holds (OpenedLeaves opening IsText r left)
    Writes-leaves IsText' weaker {A} r remaining held holds left writes =
        Writes-weaker remaining held holds (OpenedRunLeaves opening IsText' r left) (OpenedLeaves opening IsText r left)
        (λ input text leaves. elim leaves [
          | inl cut ↦
              subst (λ (s : Result A TextFault). OpenedLeaves opening IsText s left input text) (sym cut.0)
              (IsPrefixOfOpened-start input text cut.1.0 cut.1.1)
          | inr opened ↦
              OpenedLeaves-opened r left input text opened.0 opened.1
              (RunLeaves-weaker IsText' IsText weaker r left input opened.0 opened.2)
        ])
        writes

    -- What a run's fault leaves is what a replay's fault says.
    leaves_so : {remaining held holds : Option (List ℕ)} (left : Option (List ℕ)) (fault wanted : TextFault)
        → ◌≡◌ {A = Result (Unit {0}) ReplayFault} (Err (Run fault)) (Err (Run wanted)) →
        Writes remaining held holds (OpenedLeaves opening IsText {A = Unit {0}} (Err fault) left)
        → Writes remaining held holds (OpenedLeaves opening IsText {A = Unit {0}} (Err wanted) left)
    leaves_so {remaining} {held} {holds} left fault wanted is writes =
        let same : fault ≡ wanted = cc is in
        subst (λ f. Writes remaining held holds (OpenedLeaves opening IsText {A = Unit {0}} (Err f) left)) same writes

    -- Each promise of a replay is one case of what its run leaves.
    pub replays : (IsUsable : Type 0) (result : Result (Unit {0}) TextFault) (left : Option (List ℕ))
        {remaining held holds : Option (List ℕ)} →
        Writes remaining held holds (OpenedLeaves opening IsText result left) →
        ReplaysWith opening IsText IsUsable (replayed result) left (Writes remaining held holds)
    replays IsUsable (Ok x) left leaves = record {
      prefix = λ usable. Writes-weaker _ _ _ (OpenedLeaves opening IsText {A = Unit {0}} (Ok x) left)
          (IsPrefixOfOpened opening IsText) (IsPrefixOfOpened-leaves (Ok x) left) leaves;
      whole = leaves;
      refused = λ line fault is. absurd (cc is);
      read = λ is. absurd (cc is);
      memory = λ is. absurd (cc is);
      memory_block = λ is. absurd (cc is);
    }
    replays IsUsable (Err fault) left leaves = record {
      prefix = λ usable. Writes-weaker _ _ _ (OpenedLeaves opening IsText {A = Unit {0}} (Err fault) left)
          (IsPrefixOfOpened opening IsText) (IsPrefixOfOpened-leaves {A = Unit {0}} (Err fault) left) leaves;
      whole = tt;
      refused = λ line wanted is. leaves_so left fault (Text line wanted) is leaves;
      read = λ is. leaves_so left fault Read is leaves;
      memory = λ is. Writes-weaker _ _ _ (OpenedUpToBlock opening IsText left) (OpenedBefore opening IsText)
          (OpenedBefore-block left) (leaves_so left fault Memory is leaves);
      memory_block = λ is. leaves_so left fault Memory is leaves;
    }
