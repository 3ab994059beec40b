-- What is told is what was given.
use Rattle.std.proofs.Common.{Ok, ap, ◌∙◌}
use Rattle.jalwedd_host.proofs.Locating.{located, missing, no_compound}
use Rattle.jalwedd_host.proofs.walks.show_at.Goals as goal

pub returns-in-Ok-Some-clause-tells : goal.returns-in-Ok-Some-clause-tells
returns-in-Ok-Some-clause-tells g c =
    located c.nth.ensures.gives c.in-Ok-Some.part c.args.place.now c.shown.result
    (c.in-Ok-Some.is ∙ ap Ok c.in-Ok-Some.field-0-is) (λ part gave. (c.in-Ok-Some.part, gave, c.shown.ensures.shows))

pub returns-in-Ok-None-clause-tells : goal.returns-in-Ok-None-clause-tells
returns-in-Ok-None-clause-tells g c =
    missing c.nth.ensures.gives c.args.place.now (c.in-Ok-None.is ∙ ap Ok c.in-Ok-None.field-0-is)

pub returns-in-Err-clause-tells : goal.returns-in-Err-clause-tells
returns-in-Err-clause-tells g c = no_compound c.nth.ensures.gives c.in-Err.field-0 c.args.place.now c.in-Err.is
