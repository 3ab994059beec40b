use Rattle.std.proofs.Common.{◌∙◌, arith}
use Rattle.rtcp_engine.proofs.Agreeing.{members_agree}
use Rattle.rtcp_engine.proofs.StepLemmas.{of_view}
use Rattle.rtcp_engine.proofs.presence.Presence.member_count.Goals as goal

pub member_count-requires : goal.member_count-requires
member_count-requires g c = omega (arith, c.self.invariant.room, c.self.invariant.usable.capacity.1)

pub returns-clause-exact : goal.returns-clause-exact
returns-clause-exact g c = of_view c.self.view_is
    (λ setup outcome. Rattle.rtcp_engine.specs.answers.Outcomes.member_count setup outcome)
    (λ outcome agrees. c.member_count.ensures.exact ∙ members_agree _ outcome agrees)
