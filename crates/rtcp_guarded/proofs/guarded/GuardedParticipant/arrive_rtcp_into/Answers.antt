use Rattle.std.proofs.Common.{List, ℕ, Err, sym, subst}
use Rattle.rtcp_engine.specs.answers.Acts.{rtcp_arrived}
use Rattle.rtcp_engine.specs.state.Promises.{Replies as ParticipantReplies}
use Rattle.rtcp_guarded.specs.Promises.{Replies}
use Rattle.rtcp_guarded.specs.Views.{GuardedValue, both}
use Rattle.rtcp_guarded.proofs.guarded.GuardedParticipant.arrive_rtcp_into.Goals as goal

pub returns-in-Err : goal.returns-in-Err
returns-in-Err g c =
    subst (λ (x : GuardedValue). Replies x (rtcp_arrived c.args.now c.args.peer c.args.w c.args.bytes.now)
    c.args.octets.now c.args.octets.now (Err c.in-Err.untaken)
    (both c.self.inside.participant c.admit_rtcp.new.guard)) c.self.view_is
    (c.in-Err.ensures.held c.args.octets.now)

pub returns-in-Ok : goal.returns-in-Ok
returns-in-Ok g c =
    let taken = subst (λ (bytes : List ℕ). ParticipantReplies c.self.inside.participant
    (rtcp_arrived c.args.now c.args.peer c.args.w bytes) c.args.octets.now c.take_rtcp_into.new.octets
    c.take_rtcp_into.result c.take_rtcp_into.new.self) c.in-Ok.ensures.octets c.take_rtcp_into.ensures in
    let replies = c.in-Ok.ensures.passes _ _ _ _ taken in
    let new = both c.take_rtcp_into.new.self c.admit_rtcp.new.guard in
    subst (λ (x : GuardedValue). Replies x (rtcp_arrived c.args.now c.args.peer c.args.w c.args.bytes.now)
    c.args.octets.now c.take_rtcp_into.new.octets c.as_untaken.result new) c.self.view_is
    (subst (λ r. Replies (both c.self.inside.participant c.self.inside.guard)
    (rtcp_arrived c.args.now c.args.peer c.args.w c.args.bytes.now)
    c.args.octets.now c.take_rtcp_into.new.octets r new) (sym c.as_untaken.ensures) replies)
