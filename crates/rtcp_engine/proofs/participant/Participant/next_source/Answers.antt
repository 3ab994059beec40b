use Rattle.std.proofs.Common.{option_map, ap}
use Rattle.rtcp_members.specs.ListViews.{state_value}
use Rattle.rtcp_engine.specs.answers.Lives.{ListsInLife}
use Rattle.rtcp_engine.specs.state.Views.{phase_value}
use Rattle.rtcp_engine.proofs.ActLemmas.{said_present}
use Rattle.rtcp_engine.proofs.Agreeing.{lists_agree}
use Rattle.rtcp_engine.proofs.participant.Participant.next_source.Goals as goal

pub returns-in-Present-clause-listed : goal.returns-in-Present-clause-listed
returns-in-Present-clause-listed g c =
    let listed = option_map state_value c.next_source.result in
    said_present c.self.view_is (ap phase_value c.in-Present.is)
    (λ setup life. ListsInLife setup c.args.after life listed)
    (λ outcome agrees. lists_agree _ outcome agrees c.args.after listed c.next_source.ensures.listed)
