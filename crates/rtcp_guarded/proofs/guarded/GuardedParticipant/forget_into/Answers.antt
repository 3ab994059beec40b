use Rattle.std.proofs.Common.{refl, subst}
use Rattle.rtcp_engine.specs.answers.Acts.{forget_asked, forgotten}
use Rattle.rtcp_guarded.specs.Promises.{Replies}
use Rattle.rtcp_guarded.specs.Views.{GuardedValue, as_refused}
use Rattle.rtcp_guarded.proofs.Calling.{unseen_reply}
use Rattle.rtcp_guarded.proofs.guarded.GuardedParticipant.forget_into.Goals as goal

pub returns : goal.returns
returns g c =
    let event = forget_asked c.args.now c.args.ssrc in
    let old : GuardedValue = record { participant = c.self.inside.participant; guard = c.self.inside.guard } in
    let new : GuardedValue = record { participant = c.forget_into.new.self; guard = c.self.inside.guard } in
    subst (λ (x : GuardedValue). Replies x event c.args.octets.now c.forget_into.new.octets
    (as_refused c.forget_into.result) new)
    c.self.view_is (unseen_reply {old = old} {new = new} event (forgotten c.args.now c.args.ssrc) c.forget_into.result
    (λ settings course. (refl, refl))
    (λ other is. is) refl refl c.forget_into.ensures.replies)
