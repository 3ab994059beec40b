-- The text that a check of an input is: a line of answer for each line of hex, as far as the input is good.
use Rattle.std.specs.Prelude.{◌≡◌, ℕ, ◌⊎◌, List, Option, Some, None, Result, Ok, Err, IsErr, OnOk}
use Rattle.hex.specs.Hex.{decode_of}
use Rattle.rtcp_wire.specs.Values.{RtcpPacket}
use Rattle.rtcp_wire.specs.Grammar.{IsAccepted}
use Rattle.rtcp_wire.specs.Faults.{IsFirstFault}
use Rattle.rtcp_wire.specs.declared.fault.WireFault.{WireFault}
use Rattle.rtcp_text.specs.declared.fault.LineFault.{LineFault}
use Rattle.rtcp_text.specs.declared.fault.LineFault.TheVariants.{Hex}
use Rattle.rtcp_text.specs.declared.fault.TextFault.{TextFault}
use Rattle.rtcp_text.specs.declared.fault.TextFault.TheVariants.{Text, Read, Memory}
use Rattle.rtcp_text.specs.Lines.{lines_of, IsTextBy, IsPrefixBy, AnswersWhatCameBy, AnswersUpToBlockBy, AnswersLinesBeforeBy}
use Rattle.rtcp_text.specs.Text.{fault_text}

-- ---- Answers, where accepted datagrams are shown so

module _ (shows : List RtcpPacket → List ℕ) where
  -- the line of text for a datagram: its packets, or its first fault
  abbrev pub IsAnswerBy : List ℕ → List ℕ → Type 0
  IsAnswerBy octets text =
      ((packets : List RtcpPacket) × IsAccepted octets packets × (text ≡ shows packets))
      ⊎ ((fault : WireFault) × IsFirstFault octets fault × (text ≡ fault_text fault))

  -- The line spells octets in hex, of either case, and the text is the answer to that datagram.
  abbrev pub AnswersHexBy : (line text : List ℕ) → Type 0
  AnswersHexBy line text = (octets : List ℕ) × (decode_of line ≡ Ok octets) × IsAnswerBy octets text

-- the one fault that a line can have by itself
abbrev pub IsNotHex : (line : List ℕ) → LineFault → Type 0
IsNotHex line fault = (fault ≡ Hex) × IsErr (decode_of line)

module _ (shows : List RtcpPacket → List ℕ) where
  -- The text of a check of the lines from number n on, with its end. Each line is answered by itself, so there
  -- is one state.
  abbrev pub IsCheckTextBy : (most : ℕ) → ℕ → List (List ℕ) → List ℕ → Option (ℕ × LineFault) → Type 0
  IsCheckTextBy most n lines text end =
      IsTextBy {S = Unit {0}} most (λ state line answer next. AnswersHexBy shows line answer) IsNotHex n tt lines text
      end tt

  -- ---- What a check leaves

  -- the text of the whole input, with its end
  abbrev pub IsTextOfBy : (most : ℕ) → Option (ℕ × LineFault) → List ℕ → List ℕ → Type 0
  IsTextOfBy most end input text = IsCheckTextBy most 1 (lines_of input) text end

  -- a prefix of the text of the whole input, however it ends
  abbrev pub IsPrefixOfTextBy : (most : ℕ) → List ℕ → List ℕ → Type 0
  IsPrefixOfTextBy most input text = IsPrefixBy (IsCheckTextBy most 1) input text

  -- The reader gave lines and then a part of a line, and has this left: the text is the answers to those lines.
  abbrev pub ShowsWhatCame : (most : ℕ) → Option (List ℕ) → List ℕ → List ℕ → Type 0
  ShowsWhatCame most left input text = AnswersWhatCameBy (IsCheckTextBy most 1) left input text

  -- The reader gave lines, then a part of a line, then at most 8,192 octets, and has this left: the text is the
  -- answers to those lines. So each line that ended before the last 8,192 octets that were read has its answer.
  abbrev pub ShowsUpToBlock : (most : ℕ) → Option (List ℕ) → List ℕ → List ℕ → Type 0
  ShowsUpToBlock most left input text = AnswersUpToBlockBy (IsCheckTextBy most 1) left input text

  -- The text is the answers to the lines before some line of the input.
  abbrev pub ShowsLinesBefore : (most : ℕ) → List ℕ → List ℕ → Type 0
  ShowsLinesBefore most input text = AnswersLinesBeforeBy (IsCheckTextBy most 1) input text

-- What a check promises that shows packets so and answers so many lines at most, by what it wrote, its outcome, and
-- what the reader has left.
pub record Checks
    (shows : List RtcpPacket → List ℕ) (most : ℕ) {A : Type 0} (result : Result A TextFault) (left : Option (List ℕ))
    (Leaves : (List ℕ → List ℕ → Type 0) → Type 0)
    : Type 0 where
  pub prefix : Leaves (IsPrefixOfTextBy shows most)
  pub whole : OnOk result (Leaves (IsTextOfBy shows most None))
  pub refused : (line : ℕ) (fault : LineFault) → result ≡ Err (Text line fault) →
      Leaves (IsTextOfBy shows most (Some (line, fault)))
  pub read : result ≡ Err Read → Leaves (ShowsWhatCame shows most left)
  pub memory : result ≡ Err Memory → Leaves (ShowsLinesBefore shows most)
  pub memory_block : result ≡ Err Memory → Leaves (ShowsUpToBlock shows most left)
