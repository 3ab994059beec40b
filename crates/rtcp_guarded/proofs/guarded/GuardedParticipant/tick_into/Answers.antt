use Rattle.std.proofs.Common.{Ok, Err, refl, subst}
use Rattle.rtcp_engine.specs.answers.Acts.{time_passed}
use Rattle.rtcp_guarded.specs.Promises.{Replies}
use Rattle.rtcp_guarded.specs.Views.{GuardedValue, as_refused}
use Rattle.rtcp_guarded.proofs.Calling.{tick_reply}
use Rattle.rtcp_guarded.proofs.guarded.GuardedParticipant.tick_into.Goals as goal

pub returns-in-Ok : goal.returns-in-Ok
returns-in-Ok g c =
    let old : GuardedValue = record { participant = c.self.inside.participant; guard = c.self.inside.guard } in
    let new : GuardedValue = record { participant = c.tick_into.new.self; guard = c.check.new.self } in
    subst (λ (x : GuardedValue). Replies x (time_passed c.args.now c.args.w1 c.args.w2) c.args.octets.now
    c.tick_into.new.octets (as_refused (Ok c.in-Ok.step)) new) c.self.view_is
    (tick_reply {old = old} {new = new} c.args.now c.args.w1 c.args.w2 c.silent_before-silent_before.result
    (Ok c.in-Ok.step) c.silent_before-silent_before.ensures c.check.ensures c.in-Ok.ensures)

pub returns-in-Err : goal.returns-in-Err
returns-in-Err g c =
    let old : GuardedValue = record { participant = c.self.inside.participant; guard = c.self.inside.guard } in
    let new : GuardedValue = record { participant = c.tick_into.new.self; guard = c.self.inside.guard } in
    subst (λ (x : GuardedValue). Replies x (time_passed c.args.now c.args.w1 c.args.w2) c.args.octets.now
    c.tick_into.new.octets (as_refused (Err c.in-Err.refusal)) new) c.self.view_is
    (tick_reply {old = old} {new = new} c.args.now c.args.w1 c.args.w2 c.silent_before-silent_before.result
    (Err c.in-Err.refusal) c.silent_before-silent_before.ensures refl c.in-Err.ensures)
