use Rattle.jalwedd_host.proofs.Telling.{shows}
use Rattle.jalwedd_host.proofs.session.HostSession.step_after.Goals as goal

pub returns-clause-shown : goal.returns-clause-shown
returns-clause-shown c = shows c.args.self.now c.args.told.now.standing c.written.result c.requires.standing
    c.written.ensures.shown
