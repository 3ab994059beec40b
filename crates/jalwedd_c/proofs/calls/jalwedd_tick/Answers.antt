-- The moment is counted from the start of the session that is held.
use Rattle.rtcp_engine.specs.answers.Acts.{time_passed}
use Rattle.jalwedd_c.proofs.Guarding.{tells_refused}
use Rattle.jalwedd_c.proofs.Serving.{tells}
use Rattle.jalwedd_c.proofs.calls.jalwedd_tick.Goals as goal

pub returns-clause-tells : goal.returns-clause-tells
returns-clause-tells c =
    let (gives, left, counted) = c.in-Ok.ensures in
    let put = c.put_back.ensures in
    let reply = c.tick-reply.ensures.participant in
    tells (λ m. time_passed m c.args.first_word c.args.second_word) _ gives counted c.deref_mut.ensures.value
    c.tick-reply.ensures.start reply
    put.held (put.status _)
    (put.handed _ _ reply.writes.leaves) put.shown

pub returns-clause-guarded : goal.returns-clause-guarded
returns-clause-guarded c =
    let (gives, left, counted) = c.in-Ok.ensures in
    let put = c.put_back.ensures in
    let reply = c.tick-reply.ensures in
    tells_refused (λ m. time_passed m c.args.first_word c.args.second_word) _ gives counted c.deref_mut.ensures.value
    reply.start reply.guarded put.held (put.status _) (put.handed _ _ reply.participant.writes.leaves) put.shown
