use Rattle.std.proofs.Common.{ℕ, ◌∙◌, ap}
use Rattle.rtcp_timer.specs.Loads.{interval_of}
use Rattle.rtcp_engine.specs.answers.Leaving.{leaving_load}
use Rattle.rtcp_engine.proofs.presence.Presence.backoff_interval.Goals as goal

pub returns-clause-exact : goal.returns-clause-exact
returns-clause-exact g c outcome backoff h count =
    c.interval.ensures.exact ∙ ap interval_of (c.backoff_load.ensures.exact outcome backoff h
    ∙ ap (λ (m : ℕ). leaving_load c.args.self.now.setup m backoff.bye_compounds) count)
