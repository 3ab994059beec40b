-- The text of a check in JSON: each line of hex has one answer, since each datagram has one reading.
use Rattle.std.proofs.Common.{◌≡◌, ℕ, ◌⊎◌, inl, inr, List, Option, Result, Ok, Err, IsErr, refl, sym, ◌∙◌, ap, subst}
use Rattle.hex.specs.Hex.{decode_of}
use Rattle.hex.specs.declared.error.FromHexError.{FromHexError}
use Rattle.json.specs.Json.{Json}
use Rattle.rtcp_wire.proofs.LawLemmas.{accepted_or_faulty-always_one, accepted_or_faulty-never_both, one_fault, one_reading}
use Rattle.rtcp_text.specs.declared.fault.LineFault.{LineFault}
use Rattle.rtcp_text.specs.declared.fault.LineFault.TheVariants.{Hex}
use Rattle.rtcp_text.specs.Check.{IsNotHex}
use Rattle.rtcp_text.specs.declared.fault.TextFault.{TextFault}
use Rattle.rtcp_text.specs.Lines.{IsTextFrom, Writes}
use Rattle.rtcp_text.specs.Progress.{RunLeaves}
use Rattle.rtcp_text.proofs.TextLemmas.{IsTotal, IsUnique, text_exists, text_continues, one_text, IsTextBy-shown}
use Rattle.rtcp_text.proofs.ClauseLemmas.{Continues, RunLeaves-weaker, Writes-weaker}
use Rattle.rtcp_json.specs.CheckJson.{IsJsonAnswer, AnswersHexInJson, IsJsonText}
use Rattle.rtcp_json.specs.JsonValues.{json_line}
use Rattle.rtcp_json.specs.PacketValues.{IsShownAs, datagram_json, fault_json}

-- A line is answered by itself.
abbrev answers_alone : {S : Type 0} → S → List ℕ → List ℕ → S → Type 0
answers_alone state line text next = AnswersHexInJson line text

-- ---- Each line has an answer or a fault

pub shown_exists : (octets : List ℕ) → (value : Json) × IsShownAs octets value
shown_exists octets =
    elim (accepted_or_faulty-always_one octets) [
      | inl accepted ↦ (datagram_json accepted.0, inl (accepted.0, accepted.1, refl))
      | inr refused ↦ (fault_json refused.0, inr (refused.0, refused.1, refl))
    ]

answer_exists : (octets : List ℕ) → (answer : List ℕ) × IsJsonAnswer octets answer
answer_exists octets = let shown = shown_exists octets in (json_line shown.0, (shown.0, shown.1, refl))

line_exists : (line : List ℕ) (r : Result (List ℕ) FromHexError) → decode_of line ≡ r
    → ((fault : LineFault) × IsNotHex line fault) ⊎
    ((text : List ℕ) × (next : Unit {0}) × AnswersHexInJson line text)
line_exists line (Ok octets) is = let answer = answer_exists octets in inr (answer.0, tt, (octets, is, answer.1))
line_exists line (Err e) is = inl (Hex, (refl, subst IsErr (sym is) refl))

total : IsTotal {S = Unit {0}} answers_alone IsNotHex
total state line = line_exists line (decode_of line) refl

-- ---- And only one

pub one_shown : (octets : List ℕ) (value value' : Json) → IsShownAs octets value → IsShownAs octets value' →
    value ≡ value'
one_shown octets value value' (inl h) (inl k) =
    h.2 ∙ ap datagram_json (one_reading octets h.0 k.0 h.1 k.1) ∙ sym k.2
one_shown octets value value' (inl h) (inr k) = absurd (accepted_or_faulty-never_both octets h.0 k.0 h.1 k.1)
one_shown octets value value' (inr h) (inl k) = absurd (accepted_or_faulty-never_both octets k.0 h.0 k.1 h.1)
one_shown octets value value' (inr h) (inr k) =
    h.2 ∙ ap fault_json (one_fault octets h.0 k.0 h.1 k.1) ∙ sym k.2

one_answer : (octets text text' : List ℕ) → IsJsonAnswer octets text → IsJsonAnswer octets text' → text ≡ text'
one_answer octets text text' (value, shown, is) (value', shown', is') =
    is ∙ ap json_line (one_shown octets value value' shown shown') ∙ sym is'

one_of_line : (line text text' : List ℕ) → AnswersHexInJson line text → AnswersHexInJson line text' → text ≡ text'
one_of_line line text text' (octets, is, is_answer) (octets', is', is_answer') =
    let same : octets ≡ octets' = cc (is, is') in
    one_answer octets text text' is_answer (subst (λ o. IsJsonAnswer o text') (sym same) is_answer')

never_both : (line text : List ℕ) (fault : LineFault) → IsNotHex line fault → AnswersHexInJson line text → ⊥
never_both line text fault (same, is_err) (octets, is, is_answer) = let failed = rw is at is_err in cc

unique : IsUnique {S = Unit {0}} answers_alone IsNotHex
unique = record {
  answer = λ state next next' line text text' h k. (one_of_line line text text' h k, refl);
  fault = λ line fault fault' h k. h.0 ∙ sym k.0;
  never_both = λ state next line text fault h k. never_both line text fault h k;
}

-- ---- The text of a check

pub check_text_exists : (most : ℕ) (lines : List (List ℕ)) → (text : List ℕ) × (end : Option (ℕ × LineFault))
    × IsJsonText most lines text end
check_text_exists most lines = let found = text_exists most answers_alone IsNotHex total 1 tt lines in
    (found.0, found.1, found.2.1)

pub one_check_text : (most : ℕ) (lines : List (List ℕ)) (text text' : List ℕ) (end end' : Option (ℕ × LineFault))
    → IsJsonText most lines text end → IsJsonText most lines text' end' → (text ≡ text') × (end ≡ end')
one_check_text most lines text text' end end' h k =
    one_text most answers_alone IsNotHex unique 1 tt tt tt lines text text' end end' h k

pub check_text_continues : (most : ℕ) → Continues (IsJsonText most)
check_text_continues most lines others text texts =
    let found = text_continues most answers_alone IsNotHex total 1 tt lines others text (tt, texts) in
    (found.0, found.1, found.2.1)

-- What an answerer of single lines writes is the text of a check.
IsJsonText-from : {S : Type 0} (most : ℕ) (state : S) (lines : List (List ℕ)) (text : List ℕ)
    (end : Option (ℕ × LineFault))
    → IsTextFrom {S = S} most answers_alone IsNotHex 1 state lines text end → IsJsonText most lines text end
IsJsonText-from {S} most state lines text end (last, texts) =
    (IsTextBy-shown {S = S} {T = Unit {0}} most answers_alone answers_alone IsNotHex (λ shown s. Unit {0})
    (λ s next shown line answer same h. (tt, tt, h))
    1 state last tt lines text end tt texts).2

-- And so what it leaves is what a check leaves.
pub check_leaves : {S A : Type 0} (most : ℕ) (state : S) (r : Result A TextFault)
    (remaining held holds left : Option (List ℕ))
    → Writes remaining held holds (RunLeaves (IsTextFrom {S = S} most answers_alone IsNotHex 1 state) r left) →
    Writes remaining held holds (RunLeaves (IsJsonText most) r left)
check_leaves {S} most state r remaining held holds left writes =
    let IsText = IsTextFrom {S = S} most answers_alone IsNotHex 1 state in
    Writes-weaker remaining held holds (RunLeaves IsText r left) (RunLeaves (IsJsonText most) r left)
    (RunLeaves-weaker IsText (IsJsonText most) (IsJsonText-from most state) r left) writes
