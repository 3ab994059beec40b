-- Lemmas on what a whole run over lines leaves.
use Rattle.std.proofs.Common.{◌≡◌, ◌≢◌, ℕ, ◌+◌, ◌≤◌, List, [], ◌∷◌, ◌++◌, length, length-append, Option, Some, None, Result, Ok, Err, refl, sym, ◌∙◌, ap, subst, append_assoc, append-nil, arith}
use Rattle.std.specs.List.{flat_map}
use Rattle.std.proofs.lemmas.List.Elements.{All-nil, All-head, All-tail}
use Rattle.std.specs.Io.KnownBytes.{Keeps, Appends, Consumes, IsAtEnd}
use Rattle.rtcp_text.specs.declared.fault.LineFault.{LineFault}
use Rattle.rtcp_text.specs.declared.fault.TextFault.{TextFault}
use Rattle.rtcp_text.specs.declared.fault.TextFault.TheVariants.{Text, Read, Write, Memory}
use Rattle.rtcp_text.specs.Lines.{lines_of, HasNoLineFeed, BeginsWithLines, Answering, Refusing, IsTextBy, IsTextFrom, Writes}
use Rattle.rtcp_text.specs.Progress.{AnswersLines, PartLeaves, EndLeaves, RunLeaves}
use Rattle.rtcp_text.proofs.LinesLemmas.{lines_of-begins, IsTextBy-append}
use Rattle.rtcp_text.proofs.ProgressLemmas.{BeginsWithLines-append, BeginsWithLines-longer, PartLeaves-after}
use Rattle.std.proofs.KnownBytes.{Consumes-trans, Appends-trans, Appends-kept}

-- The input is what was taken, and what the reader has left.
pub taken_of : (a b : Option (List ℕ)) (taken input : List ℕ) → Consumes a b taken → a ≡ Some input →
    (rest : List ℕ) × (b ≡ Some rest) × (input ≡ taken ++ rest)
taken_of None b taken input consumed e = absurd (cc e)
taken_of (Some x) None taken input consumed e = absurd consumed
taken_of (Some x) (Some y) taken input consumed e = (y, refl, cc (consumed, e))

-- The writer holds what it held, and the text.
pub written_of : (a b : Option (List ℕ)) (text before : List ℕ) → Appends a b text → a ≡ Some before →
    b ≡ Some (before ++ text)
written_of None b text before appended e = absurd (cc e)
written_of (Some x) None text before appended e = absurd appended
written_of (Some x) (Some y) text before appended e = cc (appended, e)

-- Nothing is left at the end.
nothing_left : (b : Option (List ℕ)) (rest : List ℕ) → b ≡ Some rest → IsAtEnd b → rest ≡ []
nothing_left None rest e end = absurd (cc e)
nothing_left (Some x) rest e end = cc (e, end)

-- ---- A block

-- What comes after the first line feed of a part of a line and a block is no longer than the block.
after_feed : (pending block line more : List ℕ) → HasNoLineFeed pending → pending ++ block ≡ line ++ 10 ∷ more →
    length more ≤ length block
after_feed [] block line more each e =
    let long = length-append line (10 ∷ more) in
    let same : length block ≡ length (line ++ 10 ∷ more) = ap length e in
    omega arith
after_feed (octet ∷ pending) block [] more each e = absurd (All-head (λ octet. octet ≢ 10) octet pending each (cc e))
after_feed (octet ∷ pending) block (first ∷ line) more each e = after_feed pending block line more
    (All-tail (λ octet. octet ≢ 10) octet pending each) (cc e)

-- What is left of a part of a line and a block after whole lines is a part of a line, and then no more than the block.
left_of_block : (pending block : List ℕ) (lines : List (List ℕ)) (rest : List ℕ) → HasNoLineFeed pending →
    BeginsWithLines (pending ++ block) lines rest
    → (part : List ℕ) × (after : List ℕ) × (rest ≡ part ++ after) × HasNoLineFeed part × (length after ≤ length block)
left_of_block pending block [] rest each begins = (pending, block, sym begins.parts, each, omega arith)
left_of_block pending block (line ∷ lines) rest each begins =
    let others = flat_map (λ line. line ++ 10 ∷ []) lines in
    let parts : pending ++ block ≡ line ++ 10 ∷ (others ++ rest) =
    begins.parts ∙ append_assoc (line ++ 10 ∷ []) others rest ∙ append_assoc line (10 ∷ []) (others ++ rest) in
    let within = after_feed pending block line (others ++ rest) each parts in
    let long = length-append others rest in
    ([], rest, refl, All-nil (λ octet. octet ≢ 10), omega arith)

-- ---- From the beginning to the end

module _ {S : Type 0} (most : ℕ) (answers : Answering S) (refuses : Refusing) (state between : S) where
  -- what a text is for lines from the first one on
  abbrev IsText : List (List ℕ) → List ℕ → Option (ℕ × LineFault) → Type 0
  IsText = IsTextFrom most answers refuses 1 state

  -- The last line's outcome, after the answers to the lines before it.
  ends : {A : Type 0} (r : Result A TextFault) (left : Option (List ℕ)) (taken pending text text' : List ℕ)
      (answered : ℕ) → left ≡ Some [] → HasNoLineFeed pending
      → AnswersLines most answers refuses 0 state taken answered between pending text →
      EndLeaves most answers refuses r answered between pending text'
      → RunLeaves IsText r left taken (text ++ text')
  ends r left taken pending text text' answered nothing each first last =
      let all = lines_of-begins taken first.lines pending first.begins in
      let joined : (end : Option (ℕ × LineFault)) (more : List ℕ) →
      IsTextFrom most answers refuses (answered + 1) between (lines_of pending) more end →
      IsText (lines_of taken) (text ++ more) end =
      λ end more h. subst (λ lines. IsText lines (text ++ more) end) (sym all) (
        h.0,
        IsTextBy-append most answers refuses 1 state between h.0 first.lines (lines_of pending) text more end
            first.texts
            (subst (λ m. IsTextBy most answers refuses m between (lines_of pending) more end h.0)
            (let number = first.number in omega arith) h.1),
      ) in
      by_cases r joined last
    where
      by_cases : {A : Type 0} (r : Result A TextFault)
          → ((end : Option (ℕ × LineFault)) (more : List ℕ) → IsTextFrom most answers refuses (answered + 1) between
          (lines_of pending) more end → IsText (lines_of taken) (text ++ more) end)
          → EndLeaves most answers refuses r answered between pending text' →
          RunLeaves IsText r left taken (text ++ text')
      by_cases (Ok x) joined last = joined None text' last
      by_cases (Err (Text number fault)) joined last = joined (Some (number, fault)) text' last
      by_cases (Err Memory) joined last = (
        first.lines,
        pending,
        [],
        [],
        nothing,
        each,
        omega arith,
        subst (λ l. l ≢ []) (sym (append-nil pending)) last.0,
        subst (λ l. BeginsWithLines taken first.lines l) (sym (append-nil (pending ++ []) ∙ append-nil pending))
            first.begins,
        subst (λ t. IsText first.lines t None) (sym (ap (λ t. text ++ t) last.1 ∙ append-nil text))
            (between, first.texts),
      )
      by_cases (Err Write) joined last = (
        lines_of taken,
        [],
        last.0,
        sym (append-nil (lines_of taken)),
        subst (λ t. IsText (lines_of taken) t None) (sym (append_assoc text text' last.0))
            (joined None (text' ++ last.0) last.1),
      )
      by_cases (Err Read) joined last = absurd last

  -- The reader is at its end, and the last line is answered.
  pub Writes-at_end : {A : Type 0} (r : Result A TextFault) (start now left held holds last : Option (List ℕ))
      (taken pending text gone text' : List ℕ) (answered : ℕ)
      → Consumes start now taken → Appends held holds text →
      AnswersLines most answers refuses 0 state taken answered between pending text
      → Consumes now left gone → gone ≡ [] → IsAtEnd left → HasNoLineFeed pending → Appends holds last text'
      → EndLeaves most answers refuses r answered between pending text' →
      Writes start held last (RunLeaves IsText r left)
  Writes-at_end r start now left held holds last taken pending text gone text' answered consumed appended first none
      is_none end each appended' leaves =
      λ input before known written.
      let found = taken_of start left (taken ++ gone) input (Consumes-trans _ _ _ taken gone consumed none) known in
      let whole : taken ≡ input =
      sym (found.2 ∙ ap (λ l. (taken ++ l) ++ found.0) is_none
      ∙ ap (λ l. (taken ++ []) ++ l) (nothing_left left found.0 found.1 end)
      ∙ append-nil (taken ++ []) ∙ append-nil taken) in (
        text ++ text',
        written_of held last (text ++ text') before (Appends-trans _ _ _ text text' appended appended') written,
        subst (λ i. RunLeaves IsText r left i (text ++ text')) whole
            (ends r left taken pending text text' answered (found.1 ∙ ap Some (nothing_left left found.0 found.1 end))
            each first leaves),
      )

  module _ (next : S) where
    fails : (left : Option (List ℕ)) (taken pending block after text text' rest : List ℕ) (answered answered' : ℕ)
        (fault : TextFault) → left ≡ Some after → HasNoLineFeed pending
        → length block ≤ 8192 → AnswersLines most answers refuses 0 state taken answered between pending text
        → PartLeaves most answers refuses {A = Unit {0}} (Err fault) answered between (pending ++ block) answered' next
        rest text'
        → RunLeaves IsText {A = Unit {0}} (Err fault) left ((taken ++ block) ++ after) (text ++ text')
    fails left taken pending block after text text' rest answered answered' (Text number fault) is_left each short first
        leaves =
        PartLeaves-after most answers refuses 0 answered state between taken pending text block first {A = Unit {0}}
        (Err (Text number fault)) answered' next rest text' leaves after
    fails left taken pending block after text text' rest answered answered' Memory is_left each short first leaves =
        let lines = first.lines ++ leaves.lines in
        let last = leaves.texts.0 in
        let texts = IsTextBy-append most answers refuses 1 state between last first.lines leaves.lines text text' None
        first.texts
        (subst (λ m. IsTextBy most answers refuses m between leaves.lines text' None last) (let number = first.number in
        omega arith) leaves.texts.1) in
        let all = BeginsWithLines-append taken block first.lines leaves.lines pending leaves.rest first.begins
        leaves.begins in
        let cut = left_of_block pending block leaves.lines leaves.rest each leaves.begins in
        let begins : BeginsWithLines (taken ++ block) lines (cut.0 ++ cut.1) =
        subst (λ l. BeginsWithLines (taken ++ block) lines l) cut.2 all in (
          lines,
          cut.0,
          cut.1,
          after,
          is_left,
          cut.3,
          omega (arith, cut.4),
          subst (λ l. l ≢ []) cut.2 leaves.some,
          BeginsWithLines-longer (taken ++ block) after lines (cut.0 ++ cut.1) begins,
          (last, texts),
        )
    fails left taken pending block after text text' rest answered answered' Write is_left each short first leaves =
        let all = PartLeaves-after most answers refuses 0 answered state between taken pending text block first
        {A = Unit {0}} (Err Write) answered' next rest text' leaves in (
          all.lines,
          lines_of (all.rest ++ after),
          all.more,
          lines_of-begins ((taken ++ block) ++ after) all.lines (all.rest ++ after)
              (BeginsWithLines-longer (taken ++ block) after all.lines all.rest all.begins),
          all.texts,
        )
    fails left taken pending block after text text' rest answered answered' Read is_left each short first leaves =
        absurd leaves

    -- A fault in a block.
    pub Writes-at_fault : (fault : TextFault) (start now left held holds last : Option (List ℕ))
        (taken pending text block text' rest : List ℕ) (answered answered' : ℕ)
        → Consumes start now taken → Appends held holds text →
        AnswersLines most answers refuses 0 state taken answered between pending text → Consumes now left block
        → HasNoLineFeed pending → length block ≤ 8192
        → Appends holds last text' → PartLeaves most answers refuses {A = Unit {0}} (Err fault) answered between
        (pending ++ block) answered' next rest text'
        → Writes start held last (RunLeaves IsText {A = Unit {0}} (Err fault) left)
    Writes-at_fault fault start now left held holds last taken pending text block text' rest answered answered' consumed
        appended first consumed' each short appended' leaves =
        λ input before known written.
        let found = taken_of start left (taken ++ block) input (Consumes-trans _ _ _ taken block consumed consumed')
        known in (
          text ++ text',
          written_of held last (text ++ text') before (Appends-trans _ _ _ text text' appended appended') written,
          subst (λ i. RunLeaves IsText {A = Unit {0}} (Err fault) left i (text ++ text')) (sym found.2)
              (fails left taken pending block found.0 text text' rest answered answered' fault found.1 each short first
              leaves),
        )

  -- All answers so far are written, and the flush failed.
  pub Writes-unflushed : (start left held holds last : Option (List ℕ)) (taken pending text : List ℕ) (answered : ℕ)
      → Consumes start left taken → Appends held holds text →
      AnswersLines most answers refuses 0 state taken answered between pending text
      → HasNoLineFeed pending → Keeps holds last →
      Writes start held last (RunLeaves IsText {A = Unit {0}} (Err Write) left)
  Writes-unflushed start left held holds last taken pending text answered consumed appended first each keeps =
      λ input before known written.
      let found = taken_of start left taken input consumed known in (
        text,
        written_of held last text before (Appends-kept _ _ _ _ appended keeps) written,
        (
          first.lines,
          lines_of (pending ++ found.0),
          [],
          lines_of-begins input first.lines (pending ++ found.0)
              (subst (λ i. BeginsWithLines i first.lines (pending ++ found.0)) (sym found.2)
              (BeginsWithLines-longer taken found.0 first.lines pending first.begins)),
          (
            between,
            subst (λ t. IsTextBy most answers refuses 1 state first.lines t None between)
                (sym (append-nil text)) first.texts,
          ),
        ),
      )
