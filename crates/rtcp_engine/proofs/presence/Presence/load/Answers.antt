use Rattle.std.proofs.Common.{sym, ap, ◌∙◌}
use Rattle.rtcp_engine.specs.answers.Setups.{Setup}
use Rattle.rtcp_engine.specs.answers.Outcomes.{load_of}
use Rattle.rtcp_engine.specs.state.States.{State}
use Rattle.rtcp_engine.proofs.Agreeing.{loads_agree}
use Rattle.rtcp_engine.proofs.StepLemmas.{seen}
use Rattle.rtcp_engine.proofs.presence.Presence.load.Goals as goal

pub returns-clause-exact : goal.returns-clause-exact
returns-clause-exact g c outcome agrees =
    let setup = ap (λ (x : State). x.setup) c.self.view_is in
    loads_agree (seen c.self.view_is outcome agrees) c.member_count.result c.sender_count.result c.value.result
    c.is_sending.result
    (c.member_count.ensures.exact outcome agrees
    ∙ ap (λ (st : Setup). Rattle.rtcp_engine.specs.answers.Outcomes.member_count st outcome) (sym setup))
    (c.sender_count.ensures outcome agrees
    ∙ ap (λ (st : Setup). Rattle.rtcp_engine.specs.answers.Outcomes.sender_count st outcome) (sym setup))
    c.is_sending.ensures c.value.ensures.exact
    ∙ ap (λ (st : Setup). load_of st outcome) setup
