-- The session is the one that the box holds.
use Rattle.std.proofs.Common.{◌≡◌}
use Rattle.jalwedd_host.proofs.Held.{leads_as}
use Rattle.jalwedd_host.proofs.handle.Handle.put_back_untold.Goals as goal

pub returns-clause-shown : goal.returns-clause-shown
returns-clause-shown c start history leads =
    let same : c.args.session.value ≡ c.deref.result.now = cc in
    c.step.ensures.shown start history (leads_as _ _ start history same leads)
