use Rattle.std.proofs.Common.{◌≡◌, ◌==◌}
use Rattle.std.specs.List.{list_any}
use Rattle.rtcp_wire.specs.Facts.{subject}
use Rattle.rtcp_engine.specs.state.Sayings.{facts_of_chunks}
use Rattle.rtcp_engine.proofs.sayings.describe.Given as goal

-- what is left tells it as all does
abbrev pub invariant-chunks : goal.invariant-chunks
invariant-chunks l = list_any (λ fact. subject fact == l.ssrc) (facts_of_chunks l.chunk-iterator) ≡ list_any
    (λ fact. subject fact == l.ssrc) (facts_of_chunks l.fn.chunks)
