use Rattle.std.proofs.Common.{◌≡◌}
use Rattle.jalwedd_host.proofs.Held.{leads_as, session_of}
use Rattle.jalwedd_host.proofs.handle.Handle.step.Goals as goal

pub returns-in-Some-clause-shown : goal.returns-in-Some-clause-shown
returns-in-Some-clause-shown c start history leads =
    let same : c.in-Some.session.value ≡ c.deref.result.now = cc in
    let holds = session_of _ _ start history c.in-Some.ensures.gives leads in
    c.step-step.ensures.shown start history (leads_as _ _ start history same holds)
