-- The walk is over a datagram that is a compound, or its fault is told.
use Rattle.std.proofs.Common.{Err}
use Rattle.rtcp_parts.proofs.Boundaries.{boundary_begun}
use Rattle.rtcp_parts.proofs.Calls.{gives, refuses}
use Rattle.rtcp_parts.proofs.walk.Walk.next.Goals as goal

pub returns-in-Err-clause-gives : goal.returns-in-Err-clause-gives
returns-in-Err-clause-gives g c =
    refuses c.args.datagram.now c.args.cursor.now (Err c.in-Err.fault)
    (λ packets accepted. absurd (cc (c.in-Err.ensures.accepted packets accepted)))
    (λ fault first begins. cc (c.in-Err.ensures.refused fault first begins))
    (λ begun. absurd (cc (c.in-Err.ensures.later begun))) (tt {0})

pub returns-clause-gives : goal.returns-clause-gives
returns-clause-gives g c =
    gives c.args.datagram.now c.args.cursor.now c.in-Ok.at _ c.in-Ok.ensures.begins _
    (λ fault first begins. cc (c.in-Ok.ensures.refused fault first begins)) c.take-part.ensures.takes

pub returns-clause-own : goal.returns-clause-own
returns-clause-own g c keeps here =
    c.take-part.ensures.own keeps
    (boundary_begun c.args.datagram.now c.args.cursor.now c.in-Ok.at c.in-Ok.ensures.begins here)
