use Rattle.std.proofs.Common.{refl, ap, ◌∙◌}
use Rattle.rtcp_engine.specs.state.States.{ParticipantValue}
use Rattle.rtcp_engine.proofs.ActLemmas.{acts_present, outside}
use Rattle.rtcp_engine.proofs.participant.Participant.take_in_session.Goals as goal

pub returns-clause-new : goal.returns-clause-new
returns-clause-new g c peer word =
    let phase = ap (λ (p : ParticipantValue). p.phase) c.self.view_is ∙ c.requires.present in
    outside c.self.view_is (acts_present (λ settings. refl) phase phase refl c.take_datagram.ensures.new
    (λ setup outcome. refl)
    (λ outcome agrees. refl) c.take_datagram.ensures.moved)
