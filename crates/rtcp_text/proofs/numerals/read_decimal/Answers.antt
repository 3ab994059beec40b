use Rattle.std.proofs.Common.{◌∙◌, arith}
use Rattle.rtcp_text.proofs.NumeralLemmas.{other_first, too_great, decimal_summed}
use Rattle.rtcp_text.proofs.numerals.read_decimal.Goals as goal

pub returns-in_err-read_digits : goal.returns-in_err-read_digits
returns-in_err-read_digits c =
    c.from_residual-in_err-read_digits.ensures
    ∙ other_first c.args.text.now c.in_ok-last.others.now c.in_ok-last.last.now c.in_ok-last.ensures.cases.0
    c.in_err-read_digits.ensures

pub returns-in_err-tens : goal.returns-in_err-tens
returns-in_err-tens c =
    c.from_residual-in_err-tens.ensures
    ∙ too_great c.args.text.now c.in_ok-last.others.now c.in_ok-last.last.now c.in_ok-last.ensures.cases.0
    (omega (arith, c.in_err-tens.ensures, c.in_ok-read_digits.ensures.1))

pub returns : goal.returns
returns c =
    decimal_summed c.args.text.now c.in_ok-last.others.now c.in_ok-last.last.now c.in_ok-read_digits.field-0
    c.in_ok-tens.tens c.in_ok-digit_of.field-0 c.checked_add.result
    c.checked_add.ensures c.in_ok-last.ensures.cases.0 c.if-others-ge-MAX_DIGITS.false c.in_ok-read_digits.ensures.0
    c.in_ok-read_digits.ensures.1
    (omega (arith, c.in_ok-tens.ensures)) c.in_ok-digit_of.ensures.0 c.in_ok-digit_of.ensures.1
