use Rattle.std.proofs.Common.{◌∙◌, refl, ap, sym}
use Rattle.rtcp_engine.specs.answers.Acts.{moment_of, ticked}
use Rattle.rtcp_engine.specs.state.States.{ParticipantValue}
use Rattle.rtcp_engine.proofs.ActLemmas.{alone, call_refused, outside_at, plain_call, replied, takes}
use Rattle.rtcp_engine.proofs.participant.Participant.tick_into.Goals as goal

pub returns-in-Some : goal.returns-in-Some
returns-in-Some g c =
    call_refused (λ act is. ap moment_of is) (sym c.refusal.ensures.exact ∙ c.in-Some.is) c.refusal.ensures.within

pub returns : goal.returns
returns g c =
    let act = ticked c.args.now c.args.w1 c.args.w2 in
    let brought = c.take_tick-brought.ensures in
    replied (alone (takes _ (plain_call c.args.self.now act (sym c.refusal.ensures.exact ∙ c.in_default.is)
    (λ session. refl) (λ session. refl))
    (outside_at (λ (x : ParticipantValue). ticked x.presence.latest c.args.w1 c.args.w2) c.take_call.ensures.new
    brought.new) (c.written_step.ensures.exact c.take_tick-brought.new.octets) (c.ranges.w1.fits, c.ranges.w2.fits)))
    brought.within c.written_step.ensures.standing c.written_step.ensures.out brought.leaves
