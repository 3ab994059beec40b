use Rattle.std.proofs.Common.{arith}
use Rattle.std.proofs.lemmas.Int.Digits.{digits_more, digits_value_more}
use Rattle.rtcp_text.proofs.NumeralLemmas.{not_digits, below_eighteen_digits}
use Rattle.rtcp_text.proofs.numerals.read_digits.Goals as goal

pub loop-octet-preserved : goal.loop-octet-preserved
loop-octet-preserved c =
    let i = c.loop-octet.octet-index in
    let text = c.args.text.now in
    let digit = c.in_ok-number.ensures in
    let so_far = c.loop-octet.invariant in
    let more = digits_value_more 10 text i c.loop-octet-test.true in
    record {
      digits = digits_more 10 text i c.loop-octet-test.true so_far.digits (omega (arith, digit.0, digit.1));
      number = omega (arith, more, so_far.number, digit.0);
    }

pub overflow_mul-number : goal.overflow_mul-number
overflow_mul-number c =
    let small = below_eighteen_digits c.args.text.now c.loop-octet.octet-index c.loop-octet-test.true c.requires
    c.loop-octet.invariant.digits in
    omega (arith, small, c.loop-octet.invariant.number)

pub overflow_add-number : goal.overflow_add-number
overflow_add-number c =
    let small = below_eighteen_digits c.args.text.now c.loop-octet.octet-index c.loop-octet-test.true c.requires
    c.loop-octet.invariant.digits in
    omega (arith, small, c.loop-octet.invariant.number, c.in_ok-number.ensures.1)

pub returns-in_err-number : goal.returns-in_err-number
returns-in_err-number c =
    rw c.from_residual.ensures (not_digits c.args.text.now c.loop-octet.octet-index c.loop-octet-test.true
    c.in_err-number.ensures)
