use Rattle.std.proofs.Common.{map, ap, ◌∙◌}
use Rattle.rtcp_wire.specs.Facts.{subject}
use Rattle.rtcp_engine.proofs.Marking.{none_marked}
use Rattle.rtcp_engine.proofs.arrival.names_of_compound.Goals as goal

pub facts-init : goal.facts-init
facts-init c = λ place within. none_marked _ _ _ _ (c.none-named.ensures place within)
    (ap (map subject) (c.into_iter-fact-iterator.ensures.into_iter_gives ∙ c.facts-fact-items.ensures))
