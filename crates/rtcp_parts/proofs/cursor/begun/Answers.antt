-- What is accepted has no fault, and the first fault is one.
use Rattle.rtcp_parts.proofs.cursor.begun.Goals as goal

pub returns-in-Ok-clause-refused : goal.returns-in-Ok-clause-refused
returns-in-Ok-clause-refused c fault first at_first = absurd (cc (c.in-Ok.ensures.finds fault first))

pub returns-in-Err-clause-refused : goal.returns-in-Err-clause-refused
returns-in-Err-clause-refused c fault first at_first = cc (c.in-Err.ensures.finds fault first)
