use Rattle.std.proofs.Common.{◌≡◌, Some, ap, ◌∙◌}
use Rattle.rtcp_engine.specs.answers.OwnCounts.{counts_of, own_counts_in_life}
use Rattle.rtcp_engine.specs.state.Views.{phase_value}
use Rattle.rtcp_engine.proofs.ActLemmas.{said_present}
use Rattle.rtcp_engine.proofs.participant.Participant.own_counts.Goals as goal

pub returns-in-Present : goal.returns-in-Present
returns-in-Present g c = said_present c.self.view_is (ap phase_value c.in-Present.is)
    (λ setup life. Some c.own_counts.result ≡ own_counts_in_life life)
    (λ outcome agrees. ap Some (c.own_counts.ensures ∙ ap counts_of agrees.still.own))
