-- What the parts of a run over lines leave: the lines that they answered, and the text that they wrote.
use Rattle.std.specs.Prelude.{◌≡◌, ◌≢◌, ℕ, ◌+◌, ◌<◌, ◌≤◌, List, [], ◌∷◌, ◌++◌, length, Option, Some, None, Result, Ok, Err}
use Rattle.std.specs.Io.KnownBytes.{Appends}
use Rattle.rtcp_text.specs.declared.fault.LineFault.TheVariants.{LineTooLong, TooManyLines, Words, Hex, Number}
use Rattle.rtcp_text.specs.declared.fault.TextFault.{TextFault}
use Rattle.rtcp_text.specs.declared.fault.TextFault.TheVariants.{Text, Read, Write, Memory}
use Rattle.rtcp_text.specs.Lines.{lines_of, HasNoLineFeed, BeginsWithLines, Answering, Refusing, IsTextBy, IsTextFrom, TextOfLines, AnswersWhatCameBy, AnswersUpToBlockBy}

-- The writer's known octets grow by a text, of which P holds.
abbrev pub Grows : Option (List ℕ) → Option (List ℕ) → (List ℕ → Type 0) → Type 0
Grows held holds P = (text : List ℕ) × Appends held holds text × P text

-- So many lines are answered, and this part of a line comes after the last of them.
pub record IsBetween (most answered : ℕ) (pending : List ℕ) : Type 0 where
  pub few : answered ≤ most
  pub short : length pending ≤ 131200
  pub part : HasNoLineFeed pending
  pub room : 0 < length pending → answered < most

-- nothing, or a line feed and more
abbrev pub IsAfterLine : List ℕ → Type 0
IsAfterLine [] = Unit {0}
IsAfterLine (octet ∷ octets) = octet ≡ 10

-- What becomes of the pending part after n lines when a piece is appended to it, with the outcome.
abbrev pub Lengthens : (most : ℕ) → {A : Type 0} → Result A TextFault → ℕ → List ℕ → List ℕ → List ℕ → Type 0
Lengthens most (Ok x) n pending piece longer = (longer ≡ pending ++ piece) × (n < most) × (length longer ≤ 131200)
Lengthens most (Err (Text number TooManyLines)) n pending piece longer = (number ≡ n + 1) × (most ≤ n)
Lengthens most (Err (Text number LineTooLong)) n pending piece longer =
    (number ≡ n + 1) × (n < most) × (131200 < length (pending ++ piece))
Lengthens most (Err (Text number Words)) n pending piece longer = ⊥
Lengthens most (Err (Text number Hex)) n pending piece longer = ⊥
Lengthens most (Err (Text number Number)) n pending piece longer = ⊥
Lengthens most (Err Memory) n pending piece longer = Unit {0}
Lengthens most (Err Write) n pending piece longer = ⊥
Lengthens most (Err Read) n pending piece longer = ⊥

module _ {S : Type 0} (answers : Answering S) (refuses : Refusing) where
  -- What a text is for line n before it is written, with the outcome, the state before and the state after.
  abbrev pub AnswersLine : {A : Type 0} → Result A TextFault → ℕ → S → List ℕ → List ℕ → S → Type 0
  AnswersLine (Ok x) n state line text next = answers state line text next
  AnswersLine (Err (Text number fault)) n state line text next = (number ≡ n) × refuses line fault
  AnswersLine (Err Memory) n state line text next = Unit {0}
  AnswersLine (Err Write) n state line text next = ⊥
  AnswersLine (Err Read) n state line text next = ⊥

module _ {S : Type 0} (most : ℕ) (answers : Answering S) (refuses : Refusing) where
  -- What a text is for one line, number n, with the answer's outcome.
  abbrev pub LineLeaves : {A : Type 0} → Result A TextFault → ℕ → S → List ℕ → List ℕ → S → Type 0
  LineLeaves (Ok x) n state line text next = IsTextBy most answers refuses n state (line ∷ []) text None next
  LineLeaves (Err (Text number fault)) n state line text next =
      (others : List (List ℕ))
      → IsTextFrom most answers refuses n state (line ∷ others) text (Some (number, fault))
  LineLeaves (Err Memory) n state line text next = text ≡ []
  LineLeaves (Err Write) n state line text next =
      (more : List ℕ) × IsTextFrom most answers refuses n state (line ∷ []) (text ++ more) None
  LineLeaves (Err Read) n state line text next = ⊥

  -- After n lines come these octets: whole lines, of which the text is the answers, and a rest.
  pub record AnswersLines (n : ℕ) (state : S) (octets : List ℕ) (answered : ℕ) (next : S) (rest text : List ℕ)
      : Type 0 where
    pub lines : List (List ℕ)
    pub begins : BeginsWithLines octets lines rest
    pub number : answered ≡ n + length lines
    pub texts : IsTextBy most answers refuses (n + 1) state lines text None next

  -- After n lines come these octets: whole lines, of which the text is the answers, and a rest, which is not
  -- empty.
  pub record StopsAfterLines (n : ℕ) (state : S) (octets text : List ℕ) : Type 0 where
    pub lines : List (List ℕ)
    pub rest : List ℕ
    pub some : rest ≢ []
    pub begins : BeginsWithLines octets lines rest
    pub texts : IsTextFrom most answers refuses (n + 1) state lines text None

  -- After n lines come these octets: whole lines, of which the text is a prefix of the answers, and a rest.
  pub record StopsInsideAnswers (n : ℕ) (state : S) (octets text : List ℕ) : Type 0 where
    pub lines : List (List ℕ)
    pub rest : List ℕ
    pub more : List ℕ
    pub begins : BeginsWithLines octets lines rest
    pub texts : IsTextFrom most answers refuses (n + 1) state lines (text ++ more) None

  -- What a text is for the octets after n lines, with the outcome. Where all went well, so many lines are
  -- answered, and this state and this rest are left.
  abbrev pub PartLeaves : {A : Type 0} → Result A TextFault
      → ℕ → S → List ℕ → ℕ → S → List ℕ → List ℕ → Type 0
  PartLeaves (Ok x) n state octets answered next rest text =
      AnswersLines n state octets answered next rest text
  PartLeaves (Err (Text number fault)) n state octets answered next rest text =
      (more : List ℕ)
      → IsTextFrom most answers refuses (n + 1) state (lines_of (octets ++ more)) text (Some (number, fault))
  PartLeaves (Err Memory) n state octets answered next rest text = StopsAfterLines n state octets text
  PartLeaves (Err Write) n state octets answered next rest text = StopsInsideAnswers n state octets text
  PartLeaves (Err Read) n state octets answered next rest text = ⊥

  -- What a text is for the last octets after n lines, with the outcome.
  abbrev pub EndLeaves : {A : Type 0} → Result A TextFault → ℕ → S → List ℕ → List ℕ → Type 0
  EndLeaves (Ok x) n state octets text = IsTextFrom most answers refuses (n + 1) state (lines_of octets) text None
  EndLeaves (Err (Text number fault)) n state octets text =
      IsTextFrom most answers refuses (n + 1) state (lines_of octets) text (Some (number, fault))
  EndLeaves (Err Memory) n state octets text = (octets ≢ []) × (text ≡ [])
  EndLeaves (Err Write) n state octets text =
      (more : List ℕ) × IsTextFrom most answers refuses (n + 1) state (lines_of octets) (text ++ more) None
  EndLeaves (Err Read) n state octets text = ⊥

-- The text is a prefix of the answers to the first lines of the input.
abbrev pub IsPrefixOfAnswers : TextOfLines → List ℕ → List ℕ → Type 0
IsPrefixOfAnswers IsText input text =
    (lines : List (List ℕ)) × (others : List (List ℕ)) × (more : List ℕ) × (lines_of input ≡ lines ++ others)
    × IsText lines (text ++ more) None

-- What a text is for the whole input, with the outcome and what the reader has left.
abbrev pub RunLeaves : TextOfLines → {A : Type 0} → Result A TextFault
    → Option (List ℕ) → List ℕ → List ℕ → Type 0
RunLeaves IsText (Ok x) left input text = IsText (lines_of input) text None
RunLeaves IsText (Err (Text number fault)) left input text =
    IsText (lines_of input) text (Some (number, fault))
RunLeaves IsText (Err Memory) left input text = AnswersUpToBlockBy IsText left input text
RunLeaves IsText (Err Read) left input text = AnswersWhatCameBy IsText left input text
RunLeaves IsText (Err Write) left input text = IsPrefixOfAnswers IsText input text
