-- Where there is no session, or the call comes before the start, it is turned back.
use Rattle.std.proofs.Common.{◌≡◌, ◌<◌, ap, sym, subst, ◌∙◌}
use Rattle.jalwedd_host.specs.Answers.{status_of_refusal}
use Rattle.jalwedd_host.specs.declared.session.HostSession.{HostSession}
use Rattle.jalwedd_host.proofs.Held.{leads_as}
use Rattle.jalwedd_host.proofs.Turning.{early_turned, none_turned}
use Rattle.jalwedd_host.proofs.handle.Handle.open.Goals as goal

pub returns-in_default : goal.returns-in_default
returns-in_default c = none_turned c.in_default.ensures.gives c.take.ensures.empty c.blank.ensures

pub returns-then-now-deref : goal.returns-then-now-deref
returns-then-now-deref c =
    let put = c.put_back_untold.ensures in
    let same : c.in-Some.session.value ≡ c.deref.result.now = cc in
    let again : c.in-Some.session.value ≡ c.deref-then-now-deref.result.now = cc in
    early_turned c.in-Some.ensures.gives put.held
    (subst (λ (session : HostSession). c.args.now < session.start) (sym same) c.if-now-deref.true)
    (λ start history leads. put.status ∙ c.of_refusal.ensures ∙ ap status_of_refusal
    (c.early_refusal-refusal.ensures start history (leads_as _ _ start history again leads))) put.nothing put.shown
