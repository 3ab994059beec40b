-- One more name is put among the claims.
use Rattle.std.proofs.Common.{◌≡◌, ◌+◌, arith, length, drop, get_or, sym, ap, subst, ◌∙◌}
use Rattle.std.proofs.lemmas.List.{at_drop_more, at_drop_all}
use Rattle.rtcp_guard.specs.Claims.{with_name, with_names}
use Rattle.rtcp_guard.specs.Tables.{AreRising}
use Rattle.rtcp_guard.proofs.Claiming.{length_grows, rising_name}
use Rattle.rtcp_guard.proofs.guard.claim_each.Goals as goal

pub put-requires : goal.put-requires
put-requires c =
    let at = c.names.name-index in
    let names = c.args.names.now in
    let claims = c.names.claims.items in
    let named = with_name c.args.origin c.args.t (get_or names at 0) claims in
    let step : with_names c.args.origin c.args.t (drop at names) claims
    ≡ with_names c.args.origin c.args.t (drop (at + 1) names) named =
    at_drop_more (λ ns. with_names c.args.origin c.args.t ns claims) names at 0 c.names-test.true in
    let long = ap length (sym step ∙ c.names.invariant.goes_on) in
    let grows = length_grows c.args.origin c.args.t (drop (at + 1) names) named
    (rising_name c.args.origin c.args.t (get_or names at 0) claims c.names.invariant.rising) in
    omega (arith, long, grows, c.requires.room, c.names.invariant.roomy)

pub names-preserved : goal.names-preserved
names-preserved c =
    let at = c.names.name-index in
    let names = c.args.names.now in
    let claims = c.names.claims.items in
    let named = with_name c.args.origin c.args.t (get_or names at 0) claims in
    let step : with_names c.args.origin c.args.t (drop at names) claims
    ≡ with_names c.args.origin c.args.t (drop (at + 1) names) named =
    at_drop_more (λ ns. with_names c.args.origin c.args.t ns claims) names at 0 c.names-test.true in
    record {
      goes_on = ap (with_names c.args.origin c.args.t (drop (at + 1) names)) c.put.ensures.items
          ∙ sym step ∙ c.names.invariant.goes_on;
      rising = subst AreRising (sym c.put.ensures.items) (rising_name c.args.origin c.args.t (get_or names at 0) claims
          c.names.invariant.rising);
      roomy = c.put.ensures.room ∙ c.names.invariant.roomy;
    }

pub returns-clause-items : goal.returns-clause-items
returns-clause-items c =
    sym (at_drop_all (λ ns. with_names c.args.origin c.args.t ns c.names.claims.items) c.args.names.now
    c.names.name-index c.names-test.false)
    ∙ c.names.invariant.goes_on
