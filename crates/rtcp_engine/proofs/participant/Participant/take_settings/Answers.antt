use Rattle.rtcp_engine.specs.answers.Acts.{configured, settings_value}
use Rattle.rtcp_engine.specs.state.States.{ParticipantValue}
use Rattle.rtcp_engine.proofs.ActLemmas.{acts_set, outside_at}
use Rattle.rtcp_engine.proofs.participant.Participant.take_settings.Goals as goal

pub returns-clause-new : goal.returns-clause-new
returns-clause-new g c =
    let settings = settings_value c.args.settings.now in
    outside_at (λ (p : ParticipantValue). configured p.presence.latest settings) c.self.view_is
    (acts_set settings c.configure.ensures.new c.configure.ensures.pace)
