use Rattle.std.proofs.Common.{arith}
use Rattle.rtcp_text.proofs.DigitText.{words_written}
use Rattle.rtcp_text.proofs.text.digits.words_digits.Goals as goal

pub returns-clause-first : goal.returns-clause-first
returns-clause-first c = (words_written c.args.first c.args.second c.digits_of-digits.result (omega arith) (omega arith)
    c.digits_of-digits.ensures).0

pub returns-clause-second : goal.returns-clause-second
returns-clause-second c = (words_written c.args.first c.args.second c.digits_of-digits.result (omega arith)
    (omega arith) c.digits_of-digits.ensures).1
