use Rattle.std.proofs.Common.{◌≡◌, ◌+◌, ◌&&◌, ◌∙◌, nat_le, arith}
use Rattle.std.proofs.lemmas.Grind.{common_steps}
use Rattle.rtcp_clock.specs.Intervals.{drawn_interval}
use Rattle.rtcp_timer.specs.Schedules.{Timing}
use Rattle.rtcp_engine.specs.answers.Leaving.{after_wait, is_bye_due}
use Rattle.rtcp_engine.proofs.StepLemmas.{at_latest, bye_due_by, waiting_at, waits_on}
use Rattle.rtcp_engine.proofs.presence.Presence.expire_backoff.Goals as goal

pub returns-clause-due : goal.returns-clause-due
returns-clause-due g c outcome backoff h count =
    let timing : Timing = c.self.inside.schedule in
    let t = c.self.inside.latest in
    let found : c.eq.result ≡ (nat_le timing.next t && nat_le
    (timing.last + drawn_interval c.backoff_interval-td.result c.args.w) t) = grind (arith, common_steps) in
    at_latest c.self.view_is (λ t. c.eq.result ≡ is_bye_due c.args.self.now.setup t c.args.w backoff)
    (found ∙ bye_due_by c.self.view_is t c.args.w c.backoff_interval-td.result c.args.members
    c.backoff_interval-td.ensures.exact outcome backoff h count)

pub returns-clause-new : goal.returns-clause-new
returns-clause-new g c =
    waiting_at c.self.view_is (λ t setup. after_wait setup t c.args.w)
    (waits_on c.self.view_is c.expire.new.self c.self.inside.latest c.args.w c.backoff_interval-td.result c.args.members
    c.backoff_interval-td.ensures.exact
    c.expire.ensures.unchanged c.expire.ensures.steps c.self.invariant.room)
