use Rattle.std.proofs.Common.{refl, subst}
use Rattle.rtcp_engine.specs.answers.Acts.{settings_given, configured, settings_value}
use Rattle.rtcp_guarded.specs.Promises.{Replies}
use Rattle.rtcp_guarded.specs.Views.{GuardedValue, as_refused}
use Rattle.rtcp_guarded.proofs.Calling.{unseen_reply}
use Rattle.rtcp_guarded.proofs.guarded.GuardedParticipant.configure_into.Goals as goal

pub returns : goal.returns
returns g c =
    let event = settings_given c.args.now (settings_value c.args.settings.now) in
    let old : GuardedValue = record { participant = c.self.inside.participant; guard = c.self.inside.guard } in
    let new : GuardedValue = record { participant = c.configure_into.new.self; guard = c.self.inside.guard } in
    subst (λ (x : GuardedValue). Replies x event c.args.octets.now c.configure_into.new.octets
    (as_refused c.configure_into.result) new)
    c.self.view_is (unseen_reply {old = old} {new = new} event
    (configured c.args.now (settings_value c.args.settings.now)) c.configure_into.result
    (λ settings course. (refl, refl))
    (λ other is. is) refl refl c.configure_into.ensures.replies)
