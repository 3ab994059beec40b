use Rattle.std.proofs.Common.{◌∙◌}
use Rattle.rtcp_clock.specs.Intervals.{drawn_interval}
use Rattle.rtcp_timer.specs.Schedules.{after, transmitted}
use Rattle.rtcp_engine.proofs.StepLemmas.{draws}
use Rattle.rtcp_engine.proofs.presence.Presence.draw_next.Goals as goal

pub returns : goal.returns
returns g c =
    draws c.self.view_is c.sent.new.self (λ interval members. transmitted c.args.self.now.latest interval members)
    c.args.w2 c.interval-td.result c.member_count-members.result
    c.interval-td.ensures.exact c.member_count-members.ensures.exact
    (c.sent.ensures.steps ∙ (λ i. after
    (transmitted (c.self.view_is i).latest (drawn_interval c.interval-td.result c.args.w2)
    c.member_count-members.result) c.self.inside.schedule)) c.self.invariant.room
