use Rattle.std.proofs.Common.{◌∙◌}
use Rattle.rtcp_timer.specs.Schedules.{after, recounted}
use Rattle.rtcp_engine.specs.answers.Outcomes.{member_count}
use Rattle.rtcp_engine.proofs.StepLemmas.{schedules}
use Rattle.rtcp_engine.proofs.presence.Presence.recount.Goals as goal

pub returns-clause-new : goal.returns-clause-new
returns-clause-new g c =
    schedules c.self.view_is c.departed.new.self
    (λ setup outcome. recounted c.args.self.now.latest (member_count setup outcome))
    (λ outcome agrees. c.departed.ensures.steps
    ∙ (λ i. after (recounted (c.self.view_is i).latest (c.member_count-members.ensures.exact outcome agrees i))
    c.self.inside.schedule))
    c.self.invariant.room
