-- The origin's own sources are as few as before.
use Rattle.std.proofs.Common.{arith, sym, take, ap, subst, ◌∙◌}
use Rattle.std.proofs.lemmas.List.{take_all}
use Rattle.rtcp_guard.specs.Claims.{AreOwn}
use Rattle.rtcp_guard.specs.Guarding.{GuardValue, verdict_by}
use Rattle.rtcp_guard.proofs.Bounding.{own_pass}
use Rattle.rtcp_guard.proofs.guard.Guard.judge_rest.Goals as goal

pub returns-then-own-names-clause-verdict : goal.returns-then-own-names-clause-verdict
returns-then-own-names-clause-verdict c = λ moment.
    let guard : GuardValue = record {
      settings = c.self.inside.settings;
      claims = c.self.inside.claims.items;
      trusted = c.self.inside.trusted.items;
      held_back = c.self.inside.held_back;
    } in
    own_pass guard c.args.origin moment c.args.names.now c.self.invariant.bounded
    (subst (λ names. AreOwn c.args.origin names c.self.inside.claims.items)
    (take_all c.args.own c.args.names.now (omega (arith, c.if-own-names.true)))
    (subst (λ (g : GuardValue). AreOwn c.args.origin (take c.args.own c.args.names.now) g.claims)
    (sym c.self.view_is) c.requires.own))
    ∙ ap (verdict_by c.args.origin moment c.args.names.now) c.self.view_is
