use Rattle.std.proofs.Common.{sym, ◌∙◌}
use Rattle.jalwedd_host.proofs.LawLemmas.{leads_as}
use Rattle.jalwedd_c.proofs.begin.begin.Goals as goal

pub returns-in-Ok-clause-shows : goal.returns-in-Ok-clause-shows
returns-in-Ok-clause-shows c start history leads taken =
    c.step.ensures.shown start history
    (leads_as _ _ start history (sym (c.deref.ensures ∙ c.in-Ok.ensures.ok)) leads)
