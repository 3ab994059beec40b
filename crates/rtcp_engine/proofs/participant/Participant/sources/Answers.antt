use Rattle.std.proofs.Common.{ap}
use Rattle.rtcp_engine.specs.answers.Lives.{WalksInLife}
use Rattle.rtcp_engine.specs.state.Views.{phase_value}
use Rattle.rtcp_engine.proofs.ActLemmas.{said_present}
use Rattle.rtcp_engine.proofs.Agreeing.{walks_agree}
use Rattle.rtcp_engine.proofs.participant.Participant.sources.Goals as goal

pub returns-in-Present : goal.returns-in-Present
returns-in-Present g c = said_present c.self.view_is (ap phase_value c.in-Present.is)
    (λ setup life. WalksInLife setup life c.sources.result)
    (λ outcome agrees. walks_agree _ outcome agrees c.sources.result c.sources.ensures)
