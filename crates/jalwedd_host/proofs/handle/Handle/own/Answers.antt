-- The session is the one that the box holds.
use Rattle.std.proofs.Common.{◌≡◌, Option, refl, sym, subst, ◌∙◌}
use Rattle.rtcp_engine.specs.declared.own.OwnCounts.{OwnCounts}
use Rattle.jalwedd_host.specs.Owns.{ShowsOwn}
use Rattle.jalwedd_host.proofs.Held.{leads_as, session_of}
use Rattle.jalwedd_host.proofs.handle.Handle.own.Goals as goal

pub returns-in-Some-counts-clause-told : goal.returns-in-Some-counts-clause-told
returns-in-Some-counts-clause-told c start history leads =
    let holds = session_of _ _ start history c.in-Some.ensures.gives leads in
    let same : c.in-Some.session.value ≡ c.deref.result.now = cc in
    let is = c.own_counts-counts.ensures history (leads_as _ _ start history same holds).stands in
    subst (λ (counts : Option OwnCounts). ShowsOwn 0 c.args.shown.now c.of.result counts) (sym c.in-Some-counts.is ∙ is)
    (refl, c.of.ensures)

pub returns-in-None-clause-told : goal.returns-in-None-clause-told
returns-in-None-clause-told c start history leads =
    let holds = session_of _ _ start history c.in-Some.ensures.gives leads in
    let same : c.in-Some.session.value ≡ c.deref.result.now = cc in
    let is = c.own_counts-counts.ensures history (leads_as _ _ start history same holds).stands in
    subst (λ (counts : Option OwnCounts). ShowsOwn 1 c.args.shown.now c.args.shown.now counts) (sym c.in-None.is ∙ is)
    (refl, refl)
