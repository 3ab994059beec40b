-- The lines of an input, and a text that answers them one after the other.
use Rattle.std.specs.Prelude.{◌≡◌, ◌≢◌, ℕ, ◌+◌, ◌<◌, ◌≤◌, ◌⊎◌, ◌==◌, if◌then◌else◌, List, [], ◌∷◌, ◌++◌, length, All, Option, Some, None}
use Rattle.std.specs.List.{flat_map}
use Rattle.rtcp_text.specs.Counted.{inner_of}
use Rattle.rtcp_text.specs.declared.counted.Counted.{Counted}
use Rattle.rtcp_text.specs.declared.fault.LineFault.{LineFault}
use Rattle.rtcp_text.specs.declared.fault.LineFault.TheVariants.{LineTooLong, TooManyLines}

-- ---- Lines

-- an octet before the first line
abbrev pub with_octet : ℕ → List (List ℕ) → List (List ℕ)
with_octet octet [] = (octet ∷ []) ∷ []
with_octet octet (line ∷ lines) = (octet ∷ line) ∷ lines

-- The lines of an input: a line feed (10) ends each, and the last may lack it. Where nothing comes after the
-- last line feed, that is not a line.
abbrev pub lines_of : List ℕ → List (List ℕ)
lines_of [] = []
lines_of (octet ∷ input) = if octet == 10 then [] ∷ lines_of input else with_octet octet (lines_of input)

-- a part of a line
abbrev pub HasNoLineFeed : List ℕ → Type 0
HasNoLineFeed part = All (λ octet. octet ≢ 10) part

-- The input is these lines, each with its line feed, and then the rest.
pub record BeginsWithLines (input : List ℕ) (lines : List (List ℕ)) (rest : List ℕ) : Type 0 where
  pub parts : input ≡ flat_map (λ line. line ++ 10 ∷ []) lines ++ rest
  pub each : All HasNoLineFeed lines

-- ---- Texts

-- What answers a line in a state: the text, and the state after it.
abbrev pub Answering : Type 0 → Type 1
Answering S = S → (line : List ℕ) → (text : List ℕ) → S → Type 0

-- what is wrong with a line by itself
abbrev pub Refusing : Type 1
Refusing = (line : List ℕ) → LineFault → Type 0

-- What is wrong with line n of the input, counted from 1, where so many lines at most are answered. The faults are
-- tested
-- in this order.
abbrev pub IsLineFault : (most : ℕ) → Refusing → ℕ → List ℕ → LineFault → Type 0
IsLineFault most refuses n line fault =
    ((fault ≡ TooManyLines) × (most < n))
    ⊎ ((fault ≡ LineTooLong) × (n ≤ most) × (131200 < length line))
    ⊎ ((n ≤ most) × (length line ≤ 131200) × refuses line fault)

-- The text of the lines from number n on, from a state to the last one. The end is None where each line has
-- its answer, and otherwise the number of the first faulty line with its fault: the text is then the answers
-- to the lines before it.
abbrev pub IsTextBy : {S : Type 0} → (most : ℕ) → Answering S → Refusing
    → ℕ → S → List (List ℕ) → List ℕ → Option (ℕ × LineFault) → S → Type 0
IsTextBy most answers refuses n state [] text end last = (text ≡ []) × (end ≡ None) × (last ≡ state)
IsTextBy {S} most answers refuses n state (line ∷ lines) text end last =
    ((fault : LineFault) × IsLineFault most refuses n line fault
    × (text ≡ []) × (end ≡ Some (n, fault)) × (last ≡ state))
    ⊎ ((answer : List ℕ) × (next : S) × (others : List ℕ) × (n ≤ most) × (length line ≤ 131200)
    × answers state line answer next × (text ≡ answer ++ others)
    × IsTextBy most answers refuses (n + 1) next lines others end last)

-- The same, whichever state comes last.
abbrev pub IsTextFrom : {S : Type 0} → (most : ℕ) → Answering S → Refusing
    → ℕ → S → List (List ℕ) → List ℕ → Option (ℕ × LineFault) → Type 0
IsTextFrom {S} most answers refuses n state lines text end =
    (last : S) × IsTextBy most answers refuses n state lines text end last

-- ---- What a run leaves

-- Where the reader had the input and the writer held some octets, the writer holds those and then a text, and
-- P holds of the input and the text.
abbrev pub Writes : Option (List ℕ) → Option (List ℕ) → Option (List ℕ) → (List ℕ → List ℕ → Type 0) → Type 0
Writes remaining held holds P =
    (input : List ℕ) (before : List ℕ) → remaining ≡ Some input → held ≡ Some before
    → (text : List ℕ) × (holds ≡ Some (before ++ text)) × P input text

-- The same of a reader and a writer that count their failed calls, as they were, and the writer as it is.
abbrev pub Wrote : {R W : Type 0} → (R → Option (List ℕ)) → (W → Option (List ℕ))
    → Counted R → Counted W → Counted W → (List ℕ → List ℕ → Type 0) → Type 0
Wrote remaining contents reader writer writer' P =
    Writes (remaining (inner_of reader)) (contents (inner_of writer)) (contents (inner_of writer')) P

-- which text lines have, with its end
abbrev pub TextOfLines : Type 1
TextOfLines = List (List ℕ) → List ℕ → Option (ℕ × LineFault) → Type 0

-- a prefix of the text of the whole input, however it ends
abbrev pub IsPrefixBy : TextOfLines → List ℕ → List ℕ → Type 0
IsPrefixBy IsText input text =
    (end : Option (ℕ × LineFault)) × (more : List ℕ) × IsText (lines_of input) (text ++ more) end

-- The reader gave lines and then a part of a line, and has this left: the text is the answers to those lines.
abbrev pub AnswersWhatCameBy : TextOfLines → Option (List ℕ) → List ℕ → List ℕ → Type 0
AnswersWhatCameBy IsText left input text =
    (lines : List (List ℕ)) × (part : List ℕ) × (rest : List ℕ) × (left ≡ Some rest) × HasNoLineFeed part
    × BeginsWithLines input lines (part ++ rest) × IsText lines text None

-- The reader gave lines, then a part of a line, then at most 8,192 octets, and has this left: the text is the
-- answers to those lines. So each line that ended before the last 8,192 octets that were read has its answer.
abbrev pub AnswersUpToBlockBy : TextOfLines → Option (List ℕ) → List ℕ → List ℕ → Type 0
AnswersUpToBlockBy IsText left input text =
    (lines : List (List ℕ)) × (part : List ℕ) × (block : List ℕ) × (rest : List ℕ) × (left ≡ Some rest)
    × HasNoLineFeed part × (length block ≤ 8192) × (part ++ block ≢ [])
    × BeginsWithLines input lines ((part ++ block) ++ rest) × IsText lines text None

-- The text is the answers to the lines before some line of the input.
abbrev pub AnswersLinesBeforeBy : TextOfLines → List ℕ → List ℕ → Type 0
AnswersLinesBeforeBy IsText input text =
    (lines : List (List ℕ)) × (rest : List ℕ) × (rest ≢ [])
    × BeginsWithLines input lines rest × IsText lines text None
