-- What is marked so far and what is left are all names.
use Rattle.std.proofs.Common.{◌≡◌, ℕ, ◌<◌, ◌||◌, map}
use Rattle.rtcp_wire.specs.Facts.{facts_of, subject}
use Rattle.rtcp_engine.specs.answers.Changes.{is_among}
use Rattle.rtcp_engine.specs.state.Named.{after, is_marked}
use Rattle.rtcp_engine.proofs.arrival.names_of_compound.Given as goal

abbrev pub invariant-facts : goal.invariant-facts
invariant-facts l =
    (place : ℕ) → place < 32 →
    (is_marked l.named place || is_among (map subject l.fact-iterator) (after l.first place))
    ≡ is_among (map subject (facts_of l.compound)) (after l.first place)
