use Rattle.std.proofs.Common.{◌∙◌, Some, sym}
use Rattle.rtcp_engine.specs.state.Views.{out_in}
use Rattle.rtcp_engine.proofs.StepLemmas.{puts_off, reports_now, hands_out}
use Rattle.rtcp_engine.proofs.presence.Presence.report_if_due.Goals as goal

pub returns-then-not-try_report-clause-new : goal.returns-then-not-try_report-clause-new
returns-then-not-try_report-clause-new g c =
    puts_off c.args.self.now.latest c.args.w1 c.args.w2 (λ outcome agrees. sym c.if-not-try_report.true
    ∙ c.try_report.ensures.due outcome agrees) c.try_report.ensures.new

pub returns-clause-report : goal.returns-clause-report
returns-clause-report g c outcome agrees =
    hands_out c.args.w1 (out_in c.send_report.new.octets (Some c.send_report.result))
    (λ o a. sym c.if-not-try_report.false ∙ c.try_report.ensures.due o a) c.try_report.ensures.new
    c.send_report.ensures.report outcome agrees

pub returns-clause-new : goal.returns-clause-new
returns-clause-new g c =
    reports_now c.args.w1 c.args.w2 (λ outcome agrees. sym c.if-not-try_report.false
    ∙ c.try_report.ensures.due outcome agrees) c.try_report.ensures.new c.send_report.ensures.new
