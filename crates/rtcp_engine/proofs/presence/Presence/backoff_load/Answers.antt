use Rattle.rtcp_engine.proofs.StepLemmas.{waiting_load}
use Rattle.rtcp_engine.proofs.presence.Presence.backoff_load.Goals as goal

pub returns-clause-exact : goal.returns-clause-exact
returns-clause-exact g c = waiting_load c.self.view_is c.args.members c.value.result c.value.ensures.exact
