use Rattle.std.proofs.Common.{refl, ap}
use Rattle.rtcp_engine.specs.answers.Acts.{ticked}
use Rattle.rtcp_engine.specs.state.States.{ParticipantValue}
use Rattle.rtcp_engine.specs.state.Views.{phase_value}
use Rattle.rtcp_engine.proofs.ActLemmas.{acts_present, acts_gone, outside_at}
use Rattle.rtcp_engine.proofs.participant.Participant.take_tick.Goals as goal

pub returns-in-Present-clause-new : goal.returns-in-Present-clause-new
returns-in-Present-clause-new g c =
    let phase = ap phase_value c.in-Present.is in
    outside_at (λ (p : ParticipantValue). ticked p.presence.latest c.args.w1 c.args.w2) c.self.view_is
    (acts_present (λ settings. refl) phase phase refl c.tick.ensures.new (λ setup outcome. refl) c.tick.ensures.report
    c.tick.ensures.moved)

pub returns-in-Finished-clause-new : goal.returns-in-Finished-clause-new
returns-in-Finished-clause-new g c =
    acts_gone (λ settings. refl) c.self.view_is (ap phase_value c.in-Finished.is)

pub returns-in-BackingOff-clause-new : goal.returns-in-BackingOff-clause-new
returns-in-BackingOff-clause-new g c = c.try_bye.ensures.new c.args.w2
