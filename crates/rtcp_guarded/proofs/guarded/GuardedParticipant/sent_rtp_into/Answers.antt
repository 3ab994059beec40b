use Rattle.std.proofs.Common.{refl, subst}
use Rattle.rtcp_engine.specs.answers.Acts.{packet_sent, rtp_sent}
use Rattle.rtcp_guarded.specs.Promises.{Replies}
use Rattle.rtcp_guarded.specs.Views.{GuardedValue, as_refused}
use Rattle.rtcp_guarded.proofs.Calling.{unseen_reply}
use Rattle.rtcp_guarded.proofs.guarded.GuardedParticipant.sent_rtp_into.Goals as goal

pub returns : goal.returns
returns g c =
    let event = packet_sent c.args.now c.args.rtp_ts c.args.size in
    let old : GuardedValue = record { participant = c.self.inside.participant; guard = c.self.inside.guard } in
    let new : GuardedValue = record { participant = c.sent_rtp_into.new.self; guard = c.self.inside.guard } in
    subst (λ (x : GuardedValue). Replies x event c.args.octets.now c.sent_rtp_into.new.octets
    (as_refused c.sent_rtp_into.result) new)
    c.self.view_is (unseen_reply {old = old} {new = new} event (rtp_sent c.args.now c.args.rtp_ts c.args.size)
    c.sent_rtp_into.result (λ settings course. (refl, refl))
    (λ other is. is) refl refl c.sent_rtp_into.ensures.replies)
