use Rattle.std.proofs.Common.{refl, subst}
use Rattle.rtcp_engine.specs.answers.Acts.{leave_asked, left}
use Rattle.rtcp_guarded.specs.Promises.{Replies}
use Rattle.rtcp_guarded.specs.Views.{GuardedValue, as_refused}
use Rattle.rtcp_guarded.proofs.Calling.{unseen_reply}
use Rattle.rtcp_guarded.proofs.guarded.GuardedParticipant.leave_into.Goals as goal

pub returns : goal.returns
returns g c =
    let event = leave_asked c.args.now c.args.w in
    let old : GuardedValue = record { participant = c.self.inside.participant; guard = c.self.inside.guard } in
    let new : GuardedValue = record { participant = c.leave_into.new.self; guard = c.self.inside.guard } in
    subst (λ (x : GuardedValue). Replies x event c.args.octets.now c.leave_into.new.octets
    (as_refused c.leave_into.result) new)
    c.self.view_is (unseen_reply {old = old} {new = new} event (left c.args.now c.args.w) c.leave_into.result
    (λ settings course. (refl, refl))
    (λ other is. is) refl refl c.leave_into.ensures)
