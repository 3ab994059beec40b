-- The origin's own sources pass, and are as few as before.
use Rattle.std.proofs.Common.{◌≡◌, ◌≤◌, ℕ, List, false, arith, length, take, sym, ap, subst, ◌∙◌}
use Rattle.std.proofs.lemmas.List.{take_all}
use Rattle.rtcp_guard.specs.Claims.{AreOwn, with_names}
use Rattle.rtcp_guard.specs.Guarding.{GuardValue, unless_more, verdict_by}
use Rattle.rtcp_guard.specs.Tables.{IsBounded, TableValue}
use Rattle.rtcp_guard.specs.declared.verdict.Verdict.TheVariants.{Pass}
use Rattle.rtcp_guard.proofs.Bounding.{bounded_passing, own_pass}
use Rattle.rtcp_guard.proofs.guard.Guard.decide.Goals as goal

all_pass : (guard : GuardValue) (origin moment own : ℕ) (names : List ℕ) →
    IsBounded guard.settings guard.trusted guard.claims → length names ≤ own →
    AreOwn origin (take own names) guard.claims → verdict_by origin moment names guard ≡ Pass
all_pass guard origin moment own names bounded all its = sym (own_pass guard origin moment names bounded
    (subst (λ ns. AreOwn origin ns guard.claims) (take_all own names all) its))

pub claim_each-requires-clause-room : goal.claim_each-requires-clause-room
claim_each-requires-clause-room c =
    let guard : GuardValue = record {
      settings = c.self.inside.settings;
      claims = c.self.inside.claims.items;
      trusted = c.self.inside.trusted.items;
      held_back = c.self.inside.held_back;
    } in
    let names = c.args.names.now in
    let passes = all_pass guard c.args.origin c.args.t c.own_first-own.result names c.self.invariant.bounded
    c.if-own-names.false c.own_first-own.ensures.own in
    let within = (bounded_passing guard.settings guard.trusted c.args.origin c.args.t names guard.claims
    c.self.invariant.bounded passes).within in
    let long = ap (λ (t : TableValue). length (with_names c.args.origin c.args.t names t.items))
    c.own_first-own.ensures.kept in
    let wide = ap (λ (t : TableValue). t.room) c.own_first-own.ensures.kept in
    omega (arith, within, c.self.invariant.roomy, long, wide)

pub invariant_of-self-2 : goal.invariant_of-self-2
invariant_of-self-2 c =
    let guard : GuardValue = record {
      settings = c.self.inside.settings;
      claims = c.self.inside.claims.items;
      trusted = c.self.inside.trusted.items;
      held_back = c.self.inside.held_back;
    } in
    let names = c.args.names.now in
    let passes = all_pass guard c.args.origin c.args.t c.own_first-own.result names c.self.invariant.bounded
    c.if-own-names.false c.own_first-own.ensures.own in
    record {
      bounded = subst (IsBounded guard.settings guard.trusted)
          (sym (c.claim_each.ensures.items
          ∙ ap (λ (t : TableValue). with_names c.args.origin c.args.t names t.items) c.own_first-own.ensures.kept))
          (bounded_passing guard.settings guard.trusted c.args.origin c.args.t names guard.claims
          c.self.invariant.bounded passes);
      roomy = c.claim_each.ensures.room ∙ ap (λ (t : TableValue). t.room) c.own_first-own.ensures.kept
          ∙ c.self.invariant.roomy;
    }

pub returns-clause-verdict : goal.returns-clause-verdict
returns-clause-verdict c =
    let guard : GuardValue = record {
      settings = c.self.inside.settings;
      claims = c.self.inside.claims.items;
      trusted = c.self.inside.trusted.items;
      held_back = c.self.inside.held_back;
    } in
    let names = c.args.names.now in
    let passes = all_pass guard c.args.origin c.args.t c.own_first-own.result names c.self.invariant.bounded
    c.if-own-names.false c.own_first-own.ensures.own in
    sym ((λ i. unless_more (c.if-more.false i) (verdict_by c.args.origin c.args.t names c.args.self.now))
    ∙ ap (unless_more false) (ap (verdict_by c.args.origin c.args.t names) (sym c.self.view_is) ∙ passes))
