-- A datagram has one first fault.
use Rattle.std.proofs.Common.{refl}
use Rattle.jalwedd_c.proofs.reading.jalwedd_check.Goals as goal

pub returns-in-Ok-clause-refused : goal.returns-in-Ok-clause-refused
returns-in-Ok-clause-refused c first is = absurd (cc (c.in-Ok.ensures.finds first is))

pub returns-in-Err-clause-refused : goal.returns-in-Err-clause-refused
returns-in-Err-clause-refused c first is =
    let same = c.in-Err.ensures.finds first is in (refl, (cc (c.reason_number.ensures, same), cc same))
