use Rattle.std.proofs.Common.{ℕ, ◌∙◌, subst}
use Rattle.rtcp_engine.specs.state.States.{Does}
use Rattle.rtcp_engine.specs.answers.Ticks.{with_recount}
use Rattle.rtcp_engine.proofs.StepLemmas.{both}
use Rattle.rtcp_engine.proofs.presence.Presence.take_compound.Goals as goal

pub returns-clause-new : goal.returns-clause-new
returns-clause-new g c =
    both c.take_facts-moved.ensures.new
    (subst (λ (t : ℕ). Does c.take_facts-moved.new.self c.recount.new.self (λ setup. with_recount setup t))
    (c.take_facts-moved.ensures.new.stays.latest ∙ c.requires.order) c.recount.ensures.new)
