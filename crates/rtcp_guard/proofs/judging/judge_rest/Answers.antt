-- Where the first of the names belongs to another origin, that says the verdict.
use Rattle.std.proofs.Common.{◌-◌, ◌++◌, ◌∷◌, [], ℕ, length, min, drop, get_or, arith, refl, sym, ap, ◌∙◌}
use Rattle.std.proofs.lemmas.List.{append_assoc, drop_more}
use Rattle.rtcp_guard.specs.Claims.{held}
use Rattle.rtcp_guard.specs.Guarding.{judged}
use Rattle.rtcp_guard.proofs.Gathering.{new_first, then_strange}
use Rattle.rtcp_guard.proofs.judging.judge_rest.Goals as goal

pub returns-then-belongs_elsewhere-clause-verdict : goal.returns-then-belongs_elsewhere-clause-verdict
returns-then-belongs_elsewhere-clause-verdict c = λ moment own its.
    let names = c.args.names.now in
    let claims = c.args.claims.now.items in
    let n = get_or names 0 0 in
    let spare : ℕ = min (c.args.limit - held c.args.origin claims) (c.args.room - length claims) in
    then_strange c.args.limit c.args.room c.args.origin moment claims (own ++ []) [] spare c.requires.rising
    (record { few = c.requires.few; within = c.requires.within; least = refl })
    (new_first c.args.origin claims own c.requires.rising its) (omega arith) n (drop 1 names)
    (sym c.if-belongs_elsewhere.ensures)
    ∙ ap (λ ns. judged c.args.limit c.args.room c.args.origin moment ns claims)
    (append_assoc own [] (n ∷ drop 1 names) ∙ ap (λ ns. own ++ ns) (sym (drop_more names 0 0 c.requires.some)))
