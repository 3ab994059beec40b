use Rattle.std.proofs.Common.{◌≡◌, ap}
use Rattle.rtcp_engine.specs.answers.Lives.{silent_in_life}
use Rattle.rtcp_engine.specs.state.Views.{phase_value}
use Rattle.rtcp_engine.proofs.ActLemmas.{said_present}
use Rattle.rtcp_engine.proofs.participant.Participant.silent_before.Goals as goal

pub returns-in-Present : goal.returns-in-Present
returns-in-Present g c = said_present c.self.view_is (ap phase_value c.in-Present.is)
    (λ setup life. c.silent_before.result ≡ silent_in_life setup c.args.now life)
    (λ outcome agrees. c.silent_before.ensures outcome agrees)
