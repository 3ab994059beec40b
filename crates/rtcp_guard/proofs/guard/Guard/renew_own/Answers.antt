-- A datagram that names a source of its origin alone passes, and that source's claim is renewed.
use Rattle.std.proofs.Common.{◌≡◌, ℕ, [], ◌∷◌, true, false, None, Some, arith, refl, sym, ap, subst, ◌∙◌}
use Rattle.rtcp_guard.specs.Claims.{owner_in}
use Rattle.rtcp_guard.specs.Guarding.{GuardValue, after, after_verdict, datagram_came, unless_more, verdict_by, verdict_on}
use Rattle.rtcp_guard.specs.Tables.{IsBounded, IsGuard, TableValue}
use Rattle.rtcp_guard.specs.declared.verdict.Verdict.TheVariants.{Pass}
use Rattle.rtcp_guard.proofs.Bounding.{bounded_passing, own_pass}
use Rattle.rtcp_guard.proofs.Counting.{of_more}
use Rattle.rtcp_guard.proofs.Deciding.{by_names}
use Rattle.rtcp_guard.proofs.guard.Guard.renew_own.Goals as goal

passes : (guard : GuardValue) (origin moment ssrc : ℕ) → IsBounded guard.settings guard.trusted guard.claims →
    owner_in ssrc guard.claims ≡ Some origin → verdict_by origin moment (ssrc ∷ []) guard ≡ Pass
passes guard origin moment ssrc bounded its = sym (own_pass guard origin moment (ssrc ∷ []) bounded
    (of_more (λ other. owner_in other guard.claims ≡ Some origin) ssrc [] (λ other none. absurd (cc none)) its))

pub invariant_of-self : goal.invariant_of-self
invariant_of-self c =
    let guard : GuardValue = record {
      settings = c.self.inside.settings;
      claims = c.self.inside.claims.items;
      trusted = c.self.inside.trusted.items;
      held_back = c.self.inside.held_back;
    } in
    elim c.renew_own.result as (λ b. c.renew_own.result ≡ b → IsGuard c.self.inside.settings
    c.self.inside.trusted.items c.renew_own.new.self.items c.renew_own.new.self.room) [
      | true ↦ λ is. record {
        bounded = subst (IsBounded guard.settings guard.trusted) (sym (c.renew_own.ensures.items is))
            (bounded_passing guard.settings guard.trusted c.args.origin c.args.t (c.args.ssrc ∷ []) guard.claims
            c.self.invariant.bounded (passes guard c.args.origin c.args.t c.args.ssrc c.self.invariant.bounded
            (c.renew_own.ensures.own is)));
        roomy = c.renew_own.ensures.room ∙ c.self.invariant.roomy;
      }
      | false ↦ λ is. subst (λ (t : TableValue). IsGuard guard.settings guard.trusted t.items t.room)
          (sym (c.renew_own.ensures.kept is)) c.self.invariant
    ] refl

pub returns-clause-passes : goal.returns-clause-passes
returns-clause-passes c = λ is.
    let guard : GuardValue = record {
      settings = c.self.inside.settings;
      claims = c.self.inside.claims.items;
      trusted = c.self.inside.trusted.items;
      held_back = c.self.inside.held_back;
    } in
    let names = c.args.ssrc ∷ [] in
    let pass = passes guard c.args.origin c.args.t c.args.ssrc c.self.invariant.bounded (c.renew_own.ensures.own is) in
    ap (verdict_on c.args.origin c.args.t names None) (sym c.self.view_is)
    ∙ sym (by_names c.args.origin c.args.t names guard Pass (after_verdict c.args.origin c.args.t names None Pass guard)
    None (omega arith) refl (sym (ap (unless_more false) pass)) refl).its

pub returns-clause-content : goal.returns-clause-content
returns-clause-content c = λ is.
    let guard : GuardValue = record {
      settings = c.self.inside.settings;
      claims = c.self.inside.claims.items;
      trusted = c.self.inside.trusted.items;
      held_back = c.self.inside.held_back;
    } in
    let names = c.args.ssrc ∷ [] in
    let pass = passes guard c.args.origin c.args.t c.args.ssrc c.self.invariant.bounded (c.renew_own.ensures.own is) in
    (by_names c.args.origin c.args.t names guard Pass (record guard { claims = c.renew_own.new.self.items }) None
    (omega arith) refl (sym (ap (unless_more false) pass))
    (ap (λ claims. record guard { claims = claims }) (c.renew_own.ensures.items is))).content
    ∙ ap (after (datagram_came c.args.origin c.args.t names None)) c.self.view_is
