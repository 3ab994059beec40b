-- The moment is counted from the start of the session that is held.
use Rattle.std.proofs.Common.{refl}
use Rattle.rtcp_engine.specs.answers.Acts.{packet_sent, rtp_sent}
use Rattle.jalwedd_host.specs.declared.session.HostSession.{HostSession}
use Rattle.jalwedd_c.proofs.Guarding.{tells_refused, unseen}
use Rattle.jalwedd_c.proofs.Serving.{tells}
use Rattle.jalwedd_c.proofs.calls.jalwedd_sent_rtp.Goals as goal

pub returns-clause-tells : goal.returns-clause-tells
returns-clause-tells c =
    let (gives, left, counted) = c.in-Ok.ensures in
    let put = c.put_back.ensures in
    let reply = c.sent_rtp_into-reply.ensures.replies in
    tells (λ m. packet_sent m c.args.timestamp c.args.size) _ gives counted c.deref_mut.ensures.value refl reply
    put.held (put.status _)
    (put.handed _ _ reply.writes.leaves) put.shown

pub returns-clause-guarded : goal.returns-clause-guarded
returns-clause-guarded c =
    let (gives, left, counted) = c.in-Ok.ensures in
    let put = c.put_back.ensures in
    let before = c.deref_mut.result.now in
    let after : HostSession = record before { participant = c.sent_rtp_into-reply.new.self } in
    let reply = c.sent_rtp_into-reply.ensures.replies in
    tells_refused {before = before} {after = after} (λ m. packet_sent m c.args.timestamp c.args.size) _ gives counted
    c.deref_mut.ensures.value refl
    (unseen before after (packet_sent _ c.args.timestamp c.args.size) (rtp_sent _ c.args.timestamp c.args.size) _
    (λ settings course. (refl, refl)) (λ other is. is) refl refl reply) put.held
    (put.status _) (put.handed _ _ reply.writes.leaves) put.shown
