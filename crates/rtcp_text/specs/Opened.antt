-- A text that begins with an opening, after which it answers the lines of an input.
use Rattle.std.specs.Prelude.{◌≡◌, ℕ, ◌⊎◌, List, [], ◌++◌, Option, Some, None, Result, Ok, Err, OnOk}
use Rattle.rtcp_text.specs.declared.fault.LineFault.{LineFault}
use Rattle.rtcp_text.specs.declared.fault.ReplayFault.{ReplayFault}
use Rattle.rtcp_text.specs.declared.fault.ReplayFault.TheVariants.{Run}
use Rattle.rtcp_text.specs.declared.fault.TextFault.{TextFault}
use Rattle.rtcp_text.specs.declared.fault.TextFault.TheVariants.{Text, Read, Write, Memory}
use Rattle.rtcp_text.specs.Lines.{lines_of, TextOfLines, AnswersWhatCameBy, AnswersUpToBlockBy, AnswersLinesBeforeBy}
use Rattle.rtcp_text.specs.Progress.{RunLeaves}

-- The text is the opening and then answers, of which P holds.
abbrev pub OpensWith : (opening : List ℕ) → (List ℕ → List ℕ → Type 0) → List ℕ → List ℕ → Type 0
OpensWith opening P input text = (answers : List ℕ) × (text ≡ opening ++ answers) × P input answers

module _ (opening : List ℕ) (IsText : TextOfLines) where
  -- the whole text, with its end
  abbrev pub IsOpenedText : Option (ℕ × LineFault) → List ℕ → List ℕ → Type 0
  IsOpenedText end = OpensWith opening (λ input answers. IsText (lines_of input) answers end)

  -- a prefix of the whole text, however it ends
  abbrev pub IsPrefixOfOpened : List ℕ → List ℕ → Type 0
  IsPrefixOfOpened input text =
      (end : Option (ℕ × LineFault)) × (answers : List ℕ) × (more : List ℕ)
      × IsText (lines_of input) answers end × (opening ++ answers ≡ text ++ more)

  -- The reader gave lines and then a part of a line, and has this left: after the opening come the answers to
  -- those lines.
  abbrev pub OpenedOfWhatCame : Option (List ℕ) → List ℕ → List ℕ → Type 0
  OpenedOfWhatCame left = OpensWith opening (AnswersWhatCameBy IsText left)

  -- Nothing, or after the opening the answers to the lines before some line of the input.
  abbrev pub OpenedBefore : List ℕ → List ℕ → Type 0
  OpenedBefore input text = (text ≡ []) ⊎ OpensWith opening (AnswersLinesBeforeBy IsText) input text

  -- Nothing, or after the opening the answers to some lines: the reader gave these, then a part of a line, then at
  -- most 8,192 octets, and has this left.
  abbrev pub OpenedUpToBlock : Option (List ℕ) → List ℕ → List ℕ → Type 0
  OpenedUpToBlock left input text = (text ≡ []) ⊎ OpensWith opening (AnswersUpToBlockBy IsText left) input text

  -- What a text is for the whole input, with the outcome and what the reader has left.
  abbrev pub OpenedLeaves : {A : Type 0} → Result A TextFault → Option (List ℕ) → List ℕ → List ℕ → Type 0
  OpenedLeaves (Ok x) left input text = IsOpenedText None input text
  OpenedLeaves (Err (Text line fault)) left input text = IsOpenedText (Some (line, fault)) input text
  OpenedLeaves (Err Memory) left input text = OpenedUpToBlock left input text
  OpenedLeaves (Err Read) left input text = OpenedOfWhatCame left input text
  OpenedLeaves (Err Write) left input text = IsPrefixOfOpened input text

  -- The same by the lines that were answered: where the writer fails, a prefix of the opening may be all that is
  -- written.
  abbrev pub OpenedRunLeaves : {A : Type 0} → Result A TextFault → Option (List ℕ) → List ℕ → List ℕ → Type 0
  OpenedRunLeaves r left input text =
      ((r ≡ Err Write) × ((more : List ℕ) × (opening ≡ text ++ more)))
      ⊎ OpensWith opening (RunLeaves IsText r left) input text

  -- What a replay promises where a configuration is usable, by what it wrote, its outcome, and what the reader has
  -- left.
  pub record ReplaysWith
      (IsUsable : Type 0) {A : Type 0} (result : Result A ReplayFault) (left : Option (List ℕ))
      (Leaves : (List ℕ → List ℕ → Type 0) → Type 0)
      : Type 0 where
    pub prefix : IsUsable → Leaves IsPrefixOfOpened
    pub whole : OnOk result (Leaves (IsOpenedText None))
    pub refused : (line : ℕ) (fault : LineFault) → result ≡ Err (Run (Text line fault)) →
        Leaves (IsOpenedText (Some (line, fault)))
    pub read : result ≡ Err (Run Read) → Leaves (OpenedOfWhatCame left)
    pub memory : result ≡ Err (Run Memory) → Leaves OpenedBefore
    pub memory_block : result ≡ Err (Run Memory) → Leaves (OpenedUpToBlock left)
