use Rattle.std.proofs.Common.{◌∙◌, refl, ap, sym}
use Rattle.rtcp_engine.specs.answers.Acts.{forgotten, moment_of}
use Rattle.rtcp_engine.specs.state.States.{ParticipantValue}
use Rattle.rtcp_engine.proofs.ActLemmas.{alone, call_refused, leaves_all, outside_at, plain_call, replied, takes}
use Rattle.rtcp_engine.proofs.participant.Participant.forget_into.Goals as goal

pub returns-in-Some-clause-replies : goal.returns-in-Some-clause-replies
returns-in-Some-clause-replies g c =
    call_refused (λ act is. ap moment_of is) (sym c.refusal.ensures.exact ∙ c.in-Some.is) c.refusal.ensures.within

pub returns-clause-replies : goal.returns-clause-replies
returns-clause-replies g c =
    let act = forgotten c.args.now c.args.ssrc in
    replied (alone (takes _ (plain_call c.args.self.now act (sym c.refusal.ensures.exact ∙ c.in_default.is)
    (λ session. refl) (λ session. refl))
    (outside_at (λ (x : ParticipantValue). forgotten x.presence.latest c.args.ssrc) c.take_call.ensures.new
    c.take_forget-others_changed.ensures.new) (c.written_step.ensures.exact c.args.octets.now) c.ranges.ssrc.fits))
    c.take_forget-others_changed.ensures.within c.written_step.ensures.standing c.written_step.ensures.out leaves_all
