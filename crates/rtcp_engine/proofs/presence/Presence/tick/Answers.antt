use Rattle.std.proofs.Common.{◌∙◌, option_map}
use Rattle.rtcp_engine.specs.answers.Lives.{report_out}
use Rattle.rtcp_engine.specs.answers.Ticks.{after_check, checked, report_due}
use Rattle.rtcp_engine.proofs.StepLemmas.{both_now}
use Rattle.rtcp_engine.proofs.RolesChanged.{moves_tick}
use Rattle.rtcp_engine.proofs.presence.Presence.tick.Goals as goal

pub returns-clause-report : goal.returns-clause-report
returns-clause-report g c outcome agrees =
    let t = c.args.self.now.latest in
    let now = checked c.args.self.now.setup t outcome in
    let stays = c.check_members-others_changed.ensures.does.stays in
    c.report_if_due.ensures.report now (c.check_members-others_changed.ensures.does.follows outcome agrees)
    ∙ (λ i. option_map report_out (report_due (stays.setup i) (stays.latest i) c.args.w1 now))

pub returns-clause-new : goal.returns-clause-new
returns-clause-new g c = both_now (λ t setup. after_check setup t c.args.w1 c.args.w2)
    c.check_members-others_changed.ensures.does c.report_if_due.ensures.new

pub returns-clause-moved : goal.returns-clause-moved
returns-clause-moved g c = moves_tick c.args.self.now.latest c.args.w1 c.args.w2 c.check_members-others_changed.result
    c.check_members-others_changed.ensures.moves
