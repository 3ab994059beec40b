use Rattle.rtcp_engine.proofs.StepLemmas.{hears}
use Rattle.rtcp_engine.proofs.presence.Presence.hear_byes.Goals as goal

pub returns-clause-waits : goal.returns-clause-waits
returns-clause-waits g c = hears c.self.view_is c.add.new.self c.args.size c.add.ensures.moves
