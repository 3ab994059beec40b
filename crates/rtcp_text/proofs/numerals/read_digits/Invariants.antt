use Rattle.std.proofs.Common.{◌≡◌, take}
use Rattle.std.specs.Str.Parse.{AllDigits, digits_value}
use Rattle.rtcp_text.proofs.numerals.read_digits.Given as goal

-- the digits so far, and the number that they write
abbrev pub invariant-loop-octet : goal.invariant-loop-octet
invariant-loop-octet l = record {
  digits : AllDigits 10 (take l.octet-index l.text);
  number : l.number ≡ digits_value 10 (take l.octet-index l.text);
}
