-- Since when all sources were named.
use Rattle.std.proofs.Common.{◌≡◌, ◌≤◌, ◌++◌, ℕ, min, nat_le, true, cond, Some, List, [], ◌∷◌, arith, refl, sym, ap, subst, ◌∙◌}
use Rattle.std.proofs.lemmas.Bool.Decides.{nat_tests}
use Rattle.rtcp_guard.specs.Claims.{Claim, put, after_lapse, with_goodbye}
use Rattle.rtcp_guard.specs.Tables.{AreSince}
use Rattle.rtcp_guard.proofs.Orders.{before, same, behind, order, put_before, put_same, put_behind}

pub since_earlier : (moment earlier : ℕ) (claims : List Claim) → earlier ≤ moment → AreSince moment claims →
    AreSince earlier claims
since_earlier moment earlier [] less since = tt
since_earlier moment earlier (first ∷ rest) less since =
    (let its = since.0 in omega (arith, its, less), since_earlier moment earlier rest less since.1)

pub since_put : (moment : ℕ) (claim : Claim) (claims : List Claim) → AreSince moment claims → moment ≤ claim.last →
    AreSince moment (put claim claims)
since_put moment claim [] since its = (its, tt)
since_put moment claim (first ∷ rest) since its = elim (order first.ssrc claim.ssrc) [
  | before is ↦ subst (AreSince moment) (sym (put_before claim first rest is))
      (since.0, since_put moment claim rest since.1 its)
  | same is ↦ subst (AreSince moment) (sym (put_same claim first rest is)) (its, since.1)
  | behind is ↦ subst (AreSince moment) (sym (put_behind claim first rest is)) (its, since)
]

-- one more is named
pub since_named : (oldest : ℕ) (claim : Claim) (claims : List Claim) → AreSince oldest claims →
    AreSince (min oldest claim.last) (put claim claims)
since_named oldest claim claims since =
    since_put (min oldest claim.last) claim claims
    (since_earlier oldest (min oldest claim.last) claims (omega arith) since) (omega arith)

-- A check that goes by no later moment leaves all claims.
pub all_stay : (oldest from : ℕ) (claims : List Claim) → from ≤ oldest → AreSince oldest claims →
    claims ≡ after_lapse from claims
all_stay oldest from [] early since = refl
all_stay oldest from (first ∷ rest) early since =
    let its = since.0 in
    let stays : nat_le from first.last ≡ true = grind (arith, nat_tests, its, early) in
    ap (λ claims. first ∷ claims) (all_stay oldest from rest early since.1)
    ∙ sym (ap (λ b. cond b (first ∷ after_lapse from rest) (after_lapse from rest)) stays)

pub since_push : (moment : ℕ) (claims : List Claim) (claim : Claim) → AreSince moment claims → moment ≤ claim.last →
    AreSince moment (claims ++ claim ∷ [])
since_push moment [] claim since its = (its, tt)
since_push moment (first ∷ rest) claim since its = (since.0, since_push moment rest claim since.1 its)

-- A goodbye leaves all as late.
pub since_leaving : (moment ssrc : ℕ) (claims : List Claim) → AreSince moment claims →
    AreSince moment (with_goodbye (Some ssrc) claims)
since_leaving moment ssrc [] since = tt
since_leaving moment ssrc (first ∷ rest) since = (since.0, since_leaving moment ssrc rest since.1)
