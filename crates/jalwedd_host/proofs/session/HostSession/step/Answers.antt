use Rattle.jalwedd_host.proofs.Telling.{shows}
use Rattle.jalwedd_host.proofs.session.HostSession.step.Goals as goal

pub returns-clause-shown : goal.returns-clause-shown
returns-clause-shown c = shows c.args.self.now c.standing.result c.standing-2.result c.standing.ensures.says
    c.standing-2.ensures.shown
