-- What is marked so far and what is left are all names.
use Rattle.std.proofs.Common.{◌≡◌, ℕ, ◌<◌, ◌||◌}
use Rattle.rtcp_engine.specs.answers.Acts.{rtp}
use Rattle.rtcp_engine.specs.answers.Changes.{named_by, is_among}
use Rattle.rtcp_engine.specs.state.Named.{after, is_marked}
use Rattle.std.proofs.Common.{Ok}
use Rattle.rtcp_engine.proofs.arrival.names_of_packet.Given as goal

abbrev pub invariant-csrcs : goal.invariant-csrcs
invariant-csrcs l =
    (place : ℕ) → place < 32 →
    (is_marked l.named place || is_among l.csrc-iterator (after l.first place))
    ≡ is_among (named_by (rtp (Ok l.head))) (after l.first place)
