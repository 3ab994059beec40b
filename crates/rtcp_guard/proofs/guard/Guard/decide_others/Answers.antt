-- What passes keeps the bounds.
use Rattle.std.proofs.Common.{◌≡◌, arith, sym, ap, subst, ◌∙◌}
use Rattle.rtcp_guard.specs.Guarding.{GuardValue, verdict_by}
use Rattle.rtcp_guard.specs.Tables.{IsBounded}
use Rattle.rtcp_guard.specs.declared.verdict.Verdict.TheVariants.{Pass}
use Rattle.rtcp_guard.proofs.Bounding.{bounded_passing, pass_before}
use Rattle.rtcp_guard.proofs.guard.Guard.decide_others.Goals as goal

abbrev value : (c : goal.After-claim_all-arg-1) → GuardValue
value c = record {
  settings = c.self.inside.settings;
  claims = c.self.inside.claims.items;
  trusted = c.self.inside.trusted.items;
  held_back = c.self.inside.held_back;
}

passes : (c : goal.After-claim_all-arg-1) → verdict_by c.args.origin c.args.t c.args.names.now (value c) ≡ Pass
passes c = ap (verdict_by c.args.origin c.args.t c.args.names.now) (c.self.view_is ∙ c.judge_rest.ensures.kept)
    ∙ sym (c.judge_rest.ensures.verdict c.args.t)
    ∙ pass_before c.args.more c.judge_rest.result c.in-Pass.ensures

pub claim_all-requires-clause-room : goal.claim_all-requires-clause-room
claim_all-requires-clause-room c =
    let within = (bounded_passing c.self.inside.settings c.self.inside.trusted.items c.args.origin c.args.t
    c.args.names.now c.self.inside.claims.items c.self.invariant.bounded (passes c)).within in
    omega (arith, within, c.self.invariant.roomy)

pub invariant_of-self : goal.invariant_of-self
invariant_of-self c =
    let settings = c.self.inside.settings in
    let trusted = c.self.inside.trusted.items in
    let guard : GuardValue = record {
      settings = settings;
      claims = c.self.inside.claims.items;
      trusted = trusted;
      held_back = c.self.inside.held_back;
    } in
    let passes : verdict_by c.args.origin c.args.t c.args.names.now guard ≡ Pass =
    ap (verdict_by c.args.origin c.args.t c.args.names.now) (c.self.view_is ∙ c.judge_rest.ensures.kept)
    ∙ sym (c.judge_rest.ensures.verdict c.args.t)
    ∙ pass_before c.args.more c.judge_rest.result c.in-Pass.ensures in
    record {
      bounded = subst (IsBounded settings trusted) (sym c.claim_all.ensures.items)
          (bounded_passing settings trusted c.args.origin c.args.t c.args.names.now guard.claims
          c.self.invariant.bounded passes);
      roomy = c.claim_all.ensures.room ∙ c.self.invariant.roomy;
    }
