-- Octets have one head, or one first fault.
use Rattle.std.proofs.Common.{refl}
use Rattle.jalwedd_c.proofs.head.jalwedd_rtp_fault.Goals as goal

pub returns-in-Ok-clause-refused : goal.returns-in-Ok-clause-refused
returns-in-Ok-clause-refused c first is fits = absurd (cc (c.in-Ok.ensures.finds first is))

pub returns-in-Err-clause-accepted : goal.returns-in-Err-clause-accepted
returns-in-Err-clause-accepted c value is fits = absurd (c.in-Err.ensures.reads value is)

pub returns-in-Err-clause-refused : goal.returns-in-Err-clause-refused
returns-in-Err-clause-refused c first is fits =
    let same = c.in-Err.ensures.finds first is in (refl, (cc (c.head_reason_number.ensures, same), refl))
