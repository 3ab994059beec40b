-- Claims once an origin named sources.
use Rattle.std.proofs.Common.{◌≡◌, ◌≤◌, ◌==◌, ◌||◌, ◌++◌, ℕ, Bool, true, false, cond, List, [], ◌∷◌, length, Option, Some, None, arith, refl, ap, subst, ◌∙◌}
use Rattle.std.proofs.lemmas.Bool.{eqb-true}
use Rattle.std.proofs.lemmas.Bool.Decides.{nat_tests}
use Rattle.rtcp_guard.specs.Claims.{Claim, claim_after, found, goodbyes_before, goodbyes_for, goodbyes_of, with_name, with_names, is_by, held, is_named}
use Rattle.rtcp_guard.specs.Tables.{AreRising}
use Rattle.rtcp_guard.proofs.Orders.{rising_put}
use Rattle.rtcp_guard.proofs.Putting.{found_put, tally, tally_all, total_put, is_any, put_grows, put_shrinks, worth}

module _ (origin moment : ℕ) where
  pub rising_name : (ssrc : ℕ) (claims : List Claim) → AreRising claims →
      AreRising (with_name origin moment ssrc claims)
  rising_name ssrc claims rising = rising_put (claim_after origin moment ssrc (found ssrc claims)) claims rising

  pub rising_names : (names : List ℕ) (claims : List Claim) → AreRising claims →
      AreRising (with_names origin moment names claims)
  rising_names [] claims rising = rising
  rising_names (ssrc ∷ rest) claims rising =
      rising_names rest (with_name origin moment ssrc claims) (rising_name ssrc claims rising)

  pub names_append : (names more : List ℕ) (claims : List Claim) → with_names origin moment (names ++ more) claims
      ≡ with_names origin moment more (with_names origin moment names claims)
  names_append [] more claims = refl
  names_append (ssrc ∷ rest) more claims = names_append rest more (with_name origin moment ssrc claims)

  -- A claim that is renewed twice at a moment is as if once.
  again : (ssrc : ℕ) (earlier : Option Claim) →
      claim_after origin moment ssrc (Some (claim_after origin moment ssrc earlier))
      ≡ claim_after origin moment ssrc earlier
  again ssrc earlier =
      let same : origin == origin ≡ true = grind (arith, nat_tests) in
      ap (λ b. record (claim_after origin moment ssrc earlier) {
        goodbyes = cond b (goodbyes_before origin earlier) 0;
      }) same

  -- what is named is the origin's
  pub found_names : (ssrc : ℕ) (names : List ℕ) (claims : List Claim) →
      found ssrc (with_names origin moment names claims)
      ≡ cond (is_named ssrc names) (Some (claim_after origin moment ssrc (found ssrc claims))) (found ssrc claims)
  found_names ssrc [] claims = refl
  found_names ssrc (name ∷ rest) claims =
      found_names ssrc rest (with_name origin moment name claims)
      ∙ ap (λ o. cond (is_named ssrc rest) (Some (claim_after origin moment ssrc o)) o)
      (found_put ssrc (claim_after origin moment name (found name claims)) claims)
      ∙ elim (name == ssrc) as (λ b. name == ssrc ≡ b → cond (is_named ssrc rest)
      (Some (claim_after origin moment ssrc
      (cond b (Some (claim_after origin moment name (found name claims))) (found ssrc claims))))
      (cond b (Some (claim_after origin moment name (found name claims))) (found ssrc claims))
      ≡ cond (b || is_named ssrc rest) (Some (claim_after origin moment ssrc (found ssrc claims)))
      (found ssrc claims)) [
        | true ↦ λ e.
            ap (λ s. cond (is_named ssrc rest)
            (Some (claim_after origin moment ssrc (Some (claim_after origin moment s (found s claims)))))
            (Some (claim_after origin moment s (found s claims))))
            (eqb-true name ssrc e)
            ∙ ap (λ c. cond (is_named ssrc rest) (Some c) (Some (claim_after origin moment ssrc (found ssrc claims))))
            (again ssrc (found ssrc claims))
            ∙ either (is_named ssrc rest) (Some (claim_after origin moment ssrc (found ssrc claims)))
        | false ↦ λ e. refl
      ] refl
    where
      either : (b : Bool) (o : Option Claim) → cond b o o ≡ o
      either true o = refl
      either false o = refl

  -- Those that pass are not fewer, where the origin's pass.
  pub names_grow : (test : Claim → Bool) →
      ((ssrc : ℕ) (earlier : Option Claim) → test (claim_after origin moment ssrc earlier) ≡ true) →
      (names : List ℕ) (claims : List Claim) → AreRising claims →
      tally test claims ≤ tally test (with_names origin moment names claims)
  names_grow test pass [] claims rising = omega arith
  names_grow test pass (ssrc ∷ rest) claims rising =
      let one = put_grows test (claim_after origin moment ssrc (found ssrc claims)) claims rising
      (pass ssrc (found ssrc claims)) in
      let more = names_grow test pass rest (with_name origin moment ssrc claims) (rising_name ssrc claims rising) in
      omega (arith, one, more)

  pub names_shrink : (test : Claim → Bool) →
      ((ssrc : ℕ) (earlier : Option Claim) → test (claim_after origin moment ssrc earlier) ≡ false) →
      (names : List ℕ) (claims : List Claim) → AreRising claims →
      tally test (with_names origin moment names claims) ≤ tally test claims
  names_shrink test fail [] claims rising = omega arith
  names_shrink test fail (ssrc ∷ rest) claims rising =
      let one = put_shrinks test (claim_after origin moment ssrc (found ssrc claims)) claims rising
      (fail ssrc (found ssrc claims)) in
      let more = names_shrink test fail rest (with_name origin moment ssrc claims) (rising_name ssrc claims rising) in
      omega (arith, one, more)

  its_own : (ssrc : ℕ) (earlier : Option Claim) → is_by origin (claim_after origin moment ssrc earlier) ≡ true
  its_own ssrc earlier = grind (arith, nat_tests)

  pub held_grows : (names : List ℕ) (claims : List Claim) → AreRising claims →
      held origin claims ≤ held origin (with_names origin moment names claims)
  held_grows = names_grow (is_by origin) its_own

  pub length_grows : (names : List ℕ) (claims : List Claim) → AreRising claims →
      length claims ≤ length (with_names origin moment names claims)
  length_grows names claims rising =
      let grows = names_grow is_any (λ ssrc earlier. refl) names claims rising in
      let all = tally_all claims in
      let then = tally_all (with_names origin moment names claims) in
      omega (arith, grows, all, then)

  pub others_shrink : (other : ℕ) → origin == other ≡ false → (names : List ℕ) (claims : List Claim) →
      AreRising claims → held other (with_names origin moment names claims) ≤ held other claims
  others_shrink other apart = names_shrink (is_by other) (λ ssrc earlier. apart)

  -- ---- Goodbyes

  -- A claim that is renewed counts for no more goodbyes than before.
  no_more : (other ssrc : ℕ) (earlier : Option Claim) →
      goodbyes_for other (claim_after origin moment ssrc earlier) ≤ worth (goodbyes_for other) earlier
  no_more other ssrc earlier =
      elim (origin == other) as (λ b. origin == other ≡ b → cond b (goodbyes_before origin earlier) 0
      ≤ worth (goodbyes_for other) earlier) [
        | true ↦ λ e. subst (λ (o : ℕ). goodbyes_before origin earlier ≤ worth (goodbyes_for o) earlier)
            (eqb-true origin other e) (its earlier)
        | false ↦ λ e. omega arith
      ] refl
    where
      its : (earlier : Option Claim) → goodbyes_before origin earlier ≤ worth (goodbyes_for origin) earlier
      its None = omega arith
      its (Some claim) = omega arith

  pub goodbyes_name : (other ssrc : ℕ) (claims : List Claim) → AreRising claims →
      goodbyes_of other (with_name origin moment ssrc claims) ≤ goodbyes_of other claims
  goodbyes_name other ssrc claims rising =
      let so = total_put (goodbyes_for other) (claim_after origin moment ssrc (found ssrc claims)) claims rising in
      let less = no_more other ssrc (found ssrc claims) in
      omega (arith, so, less)

  pub goodbyes_names : (other : ℕ) (names : List ℕ) (claims : List Claim) → AreRising claims →
      goodbyes_of other (with_names origin moment names claims) ≤ goodbyes_of other claims
  goodbyes_names other [] claims rising = omega arith
  goodbyes_names other (ssrc ∷ rest) claims rising =
      let one = goodbyes_name other ssrc claims rising in
      let more = goodbyes_names other rest (with_name origin moment ssrc claims) (rising_name ssrc claims rising) in
      omega (arith, one, more)
