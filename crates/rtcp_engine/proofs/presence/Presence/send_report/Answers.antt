use Rattle.rtcp_engine.specs.answers.Ticks.{drawn_anew}
use Rattle.rtcp_engine.proofs.StepLemmas.{both_now}
use Rattle.rtcp_engine.proofs.presence.Presence.send_report.Goals as goal

pub returns-clause-new : goal.returns-clause-new
returns-clause-new g c = both_now (λ t setup. drawn_anew setup t c.args.w2) c.make_report-size.ensures.new
    c.draw_next.ensures
