-- The session is the one that the box holds.
use Rattle.std.proofs.Common.{◌≡◌, refl, subst}
use Rattle.rtcp_guarded.specs.Guarded.{guard_at}
use Rattle.jalwedd_host.specs.Guards.{ShowsHeldBack}
use Rattle.jalwedd_host.specs.declared.guarded.HostCounts.{HostCounts}
use Rattle.jalwedd_host.proofs.Held.{guarded_as, guarded_of}
use Rattle.jalwedd_host.proofs.handle.Handle.held_back.Goals as goal

pub returns-in-Some-counts-clause-told : goal.returns-in-Some-counts-clause-told
returns-in-Some-counts-clause-told c start history leads =
    let holds = guarded_of _ _ start history c.in-Some.ensures.gives leads in
    let same : c.in-Some.session.value ≡ c.deref.result.now = cc in
    let (shown, is, shows) = c.held_back-counts.ensures.told start history (guarded_as _ _ start history same holds) in
    let counts : shown ≡ c.in-Some-counts.counts = cc (is, c.in-Some-counts.is) in
    (refl, subst (λ (h : HostCounts). ShowsHeldBack h (guard_at history).held_back) counts shows)

pub returns-in-None-clause-told : goal.returns-in-None-clause-told
returns-in-None-clause-told c start history leads =
    let holds = guarded_of _ _ start history c.in-Some.ensures.gives leads in
    let same : c.in-Some.session.value ≡ c.deref.result.now = cc in
    let (shown, is, shows) = c.held_back-counts.ensures.told start history (guarded_as _ _ start history same holds) in
    absurd (cc (is, c.in-None.is))
