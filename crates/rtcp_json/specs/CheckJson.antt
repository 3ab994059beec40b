-- The text that a check of an input is in JSON: a line of answer for each line of hex, as far as the input is good.
use Rattle.std.specs.Prelude.{◌≡◌, ℕ, List, Option, Some, None, Result, Ok, Err, OnOk}
use Rattle.hex.specs.Hex.{decode_of}
use Rattle.json.specs.Json.{Json}
use Rattle.rtcp_text.specs.declared.fault.LineFault.{LineFault}
use Rattle.rtcp_text.specs.declared.fault.TextFault.{TextFault}
use Rattle.rtcp_text.specs.declared.fault.TextFault.TheVariants.{Text, Read, Memory}
use Rattle.rtcp_text.specs.Check.{IsNotHex}
use Rattle.rtcp_text.specs.Lines.{lines_of, IsTextBy, IsPrefixBy, TextOfLines, AnswersWhatCameBy, AnswersUpToBlockBy, AnswersLinesBeforeBy}
use Rattle.rtcp_json.specs.JsonValues.{json_line}
use Rattle.rtcp_json.specs.PacketValues.{IsShownAs}

-- ---- Answers

-- the line for a datagram: its packets, or its first fault
abbrev pub IsJsonAnswer : List ℕ → List ℕ → Type 0
IsJsonAnswer octets text = (value : Json) × IsShownAs octets value × (text ≡ json_line value)

-- The line spells octets in hex, of either case, and the text is the answer to that datagram.
abbrev pub AnswersHexInJson : (line text : List ℕ) → Type 0
AnswersHexInJson line text = (octets : List ℕ) × (decode_of line ≡ Ok octets) × IsJsonAnswer octets text

-- The text of a check of lines, with its end. Each line is answered by itself, so there is one state.
abbrev pub IsJsonText : (most : ℕ) → TextOfLines
IsJsonText most lines text end =
    IsTextBy {S = Unit {0}} most (λ state line answer next. AnswersHexInJson line answer) IsNotHex 1 tt lines text
    end tt

-- ---- What a check leaves

-- the text of the whole input, with its end
abbrev pub IsJsonOf : (most : ℕ) → Option (ℕ × LineFault) → List ℕ → List ℕ → Type 0
IsJsonOf most end input text = IsJsonText most (lines_of input) text end

-- What a check promises that answers so many lines at most, by what it wrote, its outcome, and what the reader has
-- left: the words are those of `Checks` in rtcp_text.
pub record ChecksInJson
    (most : ℕ) {A : Type 0} (result : Result A TextFault) (left : Option (List ℕ))
    (Leaves : (List ℕ → List ℕ → Type 0) → Type 0)
    : Type 0 where
  pub prefix : Leaves (IsPrefixBy (IsJsonText most))
  pub whole : OnOk result (Leaves (IsJsonOf most None))
  pub refused : (line : ℕ) (fault : LineFault) → result ≡ Err (Text line fault) →
      Leaves (IsJsonOf most (Some (line, fault)))
  pub read : result ≡ Err Read → Leaves (AnswersWhatCameBy (IsJsonText most) left)
  pub memory : result ≡ Err Memory → Leaves (AnswersLinesBeforeBy (IsJsonText most))
  pub memory_block : result ≡ Err Memory → Leaves (AnswersUpToBlockBy (IsJsonText most) left)
