-- Each name that is seen is gathered, and the first that is not passed says the verdict.
use Rattle.std.proofs.Common.{◌≡◌, ◌<◌, ◌+◌, ◌++◌, ◌∷◌, [], ℕ, List, length, take, drop, get_or, Some, arith, sym, ap, subst, ◌∙◌}
use Rattle.std.proofs.lemmas.List.{append_assoc, drop_more, take-append-drop, take_all, take_more}
use Rattle.rtcp_guard.specs.Claims.{is_of_another}
use Rattle.rtcp_guard.specs.Guarding.{judged}
use Rattle.rtcp_guard.specs.Tables.{AreRisingNames}
use Rattle.rtcp_guard.proofs.Counting.{other_owner}
use Rattle.rtcp_guard.proofs.Gathering.{AreNew, new_first, new_own, new_put, then_strange, then_crowd, then_pass}
use Rattle.rtcp_guard.proofs.judging.judge_each.Goals as goal
use Rattle.rtcp_guard.proofs.judging.judge_each.Goals.{in-Some+else-owner-origin, in-None+else-len-spare}

pub names-init : goal.names-init
names-init g c =
    let none = ap length c.requires.none in
    record {
      new = λ own its. subst (λ fresh. AreNew c.args.origin c.args.claims.now.items (own ++ []) fresh)
          (sym c.requires.none) (new_first c.args.origin c.args.claims.now.items own c.requires.rising its);
      rising = subst AreRisingNames (sym c.requires.none) tt;
      fits = omega (arith, none);
      few = omega (arith, none);
    }

-- the names of which one more was seen
more_seen : (own names : List ℕ) (at : ℕ) → at < length names →
    own ++ take (at + 1) names ≡ (own ++ take at names) ++ get_or names at 0 ∷ []
more_seen own names at within = ap (λ ns. own ++ ns) (take_more names at 0 within)
    ∙ sym (append_assoc own (take at names) (get_or names at 0 ∷ []))

all_names : (own names : List ℕ) (at : ℕ) → at < length names →
    (own ++ take at names) ++ get_or names at 0 ∷ drop (at + 1) names ≡ own ++ names
all_names own names at within = append_assoc own (take at names) (get_or names at 0 ∷ drop (at + 1) names)
    ∙ ap (λ ns. own ++ (take at names ++ ns)) (sym (drop_more names at 0 within))
    ∙ ap (λ ns. own ++ ns) (take-append-drop at names)

pub names-preserved : goal.names-preserved
names-preserved g c =
    let at = c.names.name-index in
    let names = c.args.names.now in
    let n = get_or names at 0 in
    let claims = c.args.claims.now.items in
    let origin = c.args.origin in
    let fresh = c.names.fresh.items in
    let inv = c.names.invariant in
    elim c.match-owner.branch [
      | in-Some+else-owner-origin w ↦
          let same : c.match-owner.fresh.items ≡ fresh = λ i. (w.fresh-is i).items in
          let long = ap length same in
          record {
            new = λ own its. subst (λ seen. AreNew origin claims seen c.match-owner.fresh.items)
                (sym (more_seen own names at c.names-test.true))
                (subst (AreNew origin claims ((own ++ take at names) ++ n ∷ [])) (sym same)
                (new_own origin claims (own ++ take at names) fresh n c.requires.rising
                (inv.new own its)
                (sym w.in-Some.ensures ∙ ap (λ (o : ℕ). Some o) w.if-owner-origin.false)));
            rising = subst AreRisingNames (sym same) inv.rising;
            fits = omega (arith, long, inv.fits);
            few = omega (arith, long, inv.few);
          }
      | in-None+else-len-spare w ↦
          let more = w.put_once.new.names.items in
          let same : c.match-owner.fresh.items ≡ more = λ i. (w.fresh-is i).items in
          let long = ap length same in
          record {
            new = λ own its. subst (λ seen. AreNew origin claims seen c.match-owner.fresh.items)
                (sym (more_seen own names at c.names-test.true))
                (subst (AreNew origin claims ((own ++ take at names) ++ n ∷ [])) (sym same)
                (new_put origin claims (own ++ take at names) fresh n c.requires.rising
                (inv.new own its) more (sym w.in-None.ensures) w.put_once.ensures.named w.put_once.ensures.once));
            rising = subst AreRisingNames (sym same) w.put_once.ensures.rising;
            fits = omega (arith, long, w.len.ensures.value, w.if-len-spare.false);
            few = omega (arith, long, w.put_once.ensures.few, inv.few);
          }
    ]

pub returns-in-Some : goal.returns-in-Some
returns-in-Some g c = λ moment limit room own spare its.
    let at = c.names.name-index in
    let names = c.args.names.now in
    let n = get_or names at 0 in
    let claims = c.args.claims.now.items in
    then_strange limit room c.args.origin moment claims (own ++ take at names) c.names.fresh.items c.args.spare
    c.requires.rising spare (c.names.invariant.new own its) c.names.invariant.fits n (drop (at + 1) names)
    (ap (is_of_another c.args.origin) (sym c.in-Some.ensures)
    ∙ other_owner c.in-Some.owner c.args.origin c.if-owner-origin.true)
    ∙ ap (λ ns. judged limit room c.args.origin moment ns claims) (all_names own names at c.names-test.true)

pub returns-then-len-spare : goal.returns-then-len-spare
returns-then-len-spare g c = λ moment limit room own spare its.
    let at = c.names.name-index in
    let names = c.args.names.now in
    let n = get_or names at 0 in
    let claims = c.args.claims.now.items in
    let seen : List ℕ = own ++ take at names in
    let more = c.put_once.new.names.items in
    then_crowd limit room c.args.origin moment claims (seen ++ n ∷ []) more c.args.spare c.requires.rising spare
    (new_put c.args.origin claims seen c.names.fresh.items n c.requires.rising (c.names.invariant.new own its) more
    (sym c.in-None.ensures) c.put_once.ensures.named c.put_once.ensures.once) (drop (at + 1) names)
    (omega (arith, c.len.ensures.value, c.if-len-spare.true))
    ∙ ap (λ ns. judged limit room c.args.origin moment ns claims)
    (append_assoc seen (n ∷ []) (drop (at + 1) names) ∙ all_names own names at c.names-test.true)

pub returns : goal.returns
returns g c = λ moment limit room own spare its.
    let at = c.names.name-index in
    let names = c.args.names.now in
    let claims = c.args.claims.now.items in
    then_pass limit room c.args.origin moment claims (own ++ take at names) c.names.fresh.items c.args.spare
    c.requires.rising spare (c.names.invariant.new own its) c.names.invariant.fits
    ∙ ap (λ ns. judged limit room c.args.origin moment (own ++ ns) claims) (take_all at names c.names-test.false)
