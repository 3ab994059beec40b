use Rattle.std.proofs.Common.{ℕ, List, [], ◌∙◌, length, ap}
use Rattle.rtcp_wire.specs.Writing.{written_all}
use Rattle.rtcp_report.specs.Reports.{bye_of}
use Rattle.rtcp_timer.specs.Loads.{average_of}
use Rattle.rtcp_engine.proofs.StepLemmas.{backs_off}
use Rattle.rtcp_engine.proofs.presence.Presence.back_off.Goals as goal

pub returns-clause-waits : goal.returns-clause-waits
returns-clause-waits g c =
    let ssrc = c.self.inside.config.ssrc in
    let size = c.bye_size.ensures.exact ssrc ∙ ap (λ (cname : List ℕ). length (written_all (bye_of ssrc cname)))
    c.deref.ensures.0 in
    backs_off c.self.view_is c.start-self-inside.result c.args.w c.backoff_interval-td.result c.leave.new.self
    (c.start-self-inside.ensures ∙ ap (λ (n : ℕ). average_of n []) size) c.backoff_interval-td.ensures.exact
    c.leave.ensures.steps
