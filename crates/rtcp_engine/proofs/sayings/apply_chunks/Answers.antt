use Rattle.std.proofs.Common.{ap}
use Rattle.rtcp_wire.specs.Facts.{facts_of_chunk}
use Rattle.rtcp_engine.specs.state.Sayings.{facts_of_chunks}
use Rattle.rtcp_engine.proofs.Saying.{leads_on}
use Rattle.rtcp_engine.proofs.sayings.apply_chunks.Goals as goal

pub chunks-preserved : goal.chunks-preserved
chunks-preserved g c = leads_on (facts_of_chunk c.in-Some.chunk) (facts_of_chunks c.next.new.self)
    (ap facts_of_chunks c.in-Some.ensures.steps)
    c.apply_chunk-by_this.ensures.content c.apply_chunk-by_this.ensures.moved c.chunks.invariant
