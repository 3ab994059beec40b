use Rattle.std.proofs.Common.{◌≡◌, ◌+◌, ◌&&◌, ◌∙◌, nat_le, arith}
use Rattle.std.proofs.lemmas.Grind.{common_steps}
use Rattle.rtcp_clock.specs.Intervals.{drawn_interval}
use Rattle.rtcp_timer.specs.Schedules.{Timing}
use Rattle.rtcp_engine.specs.answers.Ticks.{is_report_due, tried_at}
use Rattle.rtcp_engine.proofs.StepLemmas.{at_latest, does_at, due_by, tries}
use Rattle.rtcp_engine.proofs.presence.Presence.try_report.Goals as goal

pub returns-clause-due : goal.returns-clause-due
returns-clause-due g c outcome agrees =
    let timing : Timing = c.self.inside.schedule in
    let t = c.self.inside.latest in
    let found : c.eq.result ≡ (nat_le timing.next t && nat_le
    (timing.last + drawn_interval c.interval-td.result c.args.w1) t) = grind (arith, common_steps) in
    at_latest c.self.view_is (λ t. c.eq.result ≡ is_report_due c.args.self.now.setup t c.args.w1 outcome)
    (found ∙ due_by c.self.view_is t c.args.w1 c.interval-td.result c.interval-td.ensures.exact outcome agrees)

pub returns-clause-new : goal.returns-clause-new
returns-clause-new g c =
    does_at c.self.view_is (λ t setup. tried_at setup t c.args.w1)
    (tries c.self.view_is c.expire.new.self c.self.inside.latest c.args.w1 c.interval-td.result
    c.member_count-members.result
    c.interval-td.ensures.exact c.member_count-members.ensures.exact c.expire.ensures.unchanged c.expire.ensures.steps
    c.self.invariant.room)
