-- How many sources and goodbyes an origin has, once counted.
use Rattle.std.proofs.Common.{◌≡◌, ◌==◌, ℕ, not, false, cond, List, [], ◌∷◌, Some, arith, sym, ap, ◌∙◌}
use Rattle.std.proofs.lemmas.Bool.Decides.{nat_tests}
use Rattle.rtcp_guard.specs.Claims.{Claim, found, goodbyes_for, goodbyes_of, put, held, is_by}
use Rattle.rtcp_guard.specs.Tables.{AreRising, AreTallies}
use Rattle.rtcp_guard.specs.declared.tallies.Tally.{Tally}
use Rattle.rtcp_guard.proofs.Putting.{one_if, weight, tally_put, total_put, worth}

-- Other claims by which each origin has as many leave the tallies right.
pub tallies_still : (claims next : List Claim) (tallies : List Tally) →
    ((origin : ℕ) → held origin next ≡ held origin claims) →
    ((origin : ℕ) → goodbyes_of origin next ≡ goodbyes_of origin claims) → AreTallies claims tallies →
    AreTallies next tallies
tallies_still claims next [] same as_many so = tt
tallies_still claims next (tally ∷ rest) same as_many so = (
  record {
    count = so.0.count ∙ sym (same tally.origin);
    goodbyes = so.0.goodbyes ∙ sym (as_many tally.origin);
  },
  tallies_still claims next rest same as_many so.1,
)

pub unmoved : (owner origin : ℕ) → not (owner == origin) ≡ false → owner ≡ origin
unmoved owner origin stays = grind (arith, nat_tests, stays)

-- A claim that is renewed leaves each origin as many sources.
pub held_renewed : (claim earlier : Claim) (claims : List Claim) → AreRising claims →
    found claim.ssrc claims ≡ Some earlier → earlier.origin ≡ claim.origin → (origin : ℕ) →
    held origin (put claim claims) ≡ held origin claims
held_renewed claim earlier claims rising there same origin =
    let so = tally_put (is_by origin) claim claims rising in
    let one : weight (is_by origin) (found claim.ssrc claims) ≡ one_if (is_by origin claim) =
    ap (weight (is_by origin)) there ∙ ap (λ o. one_if (o == origin)) same in
    omega (arith, so, one)

-- and as many goodbyes
pub goodbyes_renewed : (claim earlier : Claim) (claims : List Claim) → AreRising claims →
    found claim.ssrc claims ≡ Some earlier → earlier.origin ≡ claim.origin → earlier.goodbyes ≡ claim.goodbyes →
    (origin : ℕ) → goodbyes_of origin (put claim claims) ≡ goodbyes_of origin claims
goodbyes_renewed claim earlier claims rising there same as_many origin =
    let so = total_put (goodbyes_for origin) claim claims rising in
    let one : worth (goodbyes_for origin) (found claim.ssrc claims) ≡ goodbyes_for origin claim =
    ap (worth (goodbyes_for origin)) there ∙ (λ i. cond (same i == origin) (as_many i) 0) in
    omega (arith, so, one)
