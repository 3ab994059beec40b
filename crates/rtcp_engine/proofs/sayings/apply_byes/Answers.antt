use Rattle.std.proofs.Common.{◌∷◌, [], ap}
use Rattle.rtcp_wire.specs.declared.fact.Fact.TheVariants.{Gone}
use Rattle.rtcp_engine.specs.state.Sayings.{facts_of_byes}
use Rattle.rtcp_engine.proofs.Saying.{leads_on}
use Rattle.rtcp_engine.proofs.sayings.apply_byes.Goals as goal

pub ids-preserved : goal.ids-preserved
ids-preserved g c = leads_on (Gone c.in-Some.id ∷ []) (facts_of_byes c.next.new.self)
    (ap facts_of_byes c.in-Some.ensures.steps)
    c.apply_one-by_this.ensures.content c.apply_one-by_this.ensures.moved c.ids.invariant
