-- The error is the one that the configuration has, or there is none.
use Rattle.std.proofs.Common.{Some, Err, sym, ap, ◌∙◌}
use Rattle.rtcp_engine.proofs.participant.Participant.new.Goals as goal

pub returns-in-Some-clause-refused : goal.returns-in-Some-clause-refused
returns-in-Some-clause-refused g c error = (
  λ same. sym c.error.ensures.exact ∙ (c.in-Some.is ∙ ap Some (cc same)),
  λ is. ap Err (cc (sym c.in-Some.is ∙ (c.error.ensures.exact ∙ is))),
)

pub returns-clause-refused : goal.returns-clause-refused
returns-clause-refused g c error =
    (λ same. absurd (cc same), λ is. absurd (cc (sym c.in_default.is ∙ (c.error.ensures.exact ∙ is))))
