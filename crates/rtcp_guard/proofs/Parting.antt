-- How many goodbyes of an origin are passed on within a hold.
use Rattle.std.proofs.Common.{◌≡◌, ◌<◌, ◌≤◌, ◌+◌, ◌-◌, ◌==◌, ◌&&◌, ◌||◌, ◌++◌, ℕ, min, nat_le, not, Bool, true, false, cond, List, [], ◌∷◌, Option, Some, None, option_map, is_some, arith, refl, sym, ap, subst, ◌∙◌}
use Rattle.std.specs.List.{sum_by}
use Rattle.std.proofs.lemmas.Bool.{eqb-true}
use Rattle.std.proofs.lemmas.Bool.Decides.{nat_tests}
use Rattle.std.proofs.lemmas.List.Sums.{sum_by-cons}
use Rattle.rtcp_guard.specs.declared.settings.Settings.{Settings}
use Rattle.rtcp_guard.specs.declared.verdict.Verdict.{Verdict}
use Rattle.rtcp_guard.specs.declared.verdict.Verdict.TheVariants.{Pass, Stranger, Crowd}
use Rattle.rtcp_guard.specs.Claims.{Claim, claim_after, found, goodbye_among, goodbyes_for, goodbyes_of, owner_in, with_goodbye, with_name, with_names, after_lapse, is_by, is_named, is_of_another}
use Rattle.rtcp_guard.specs.Guarding.{GuardStep, datagram_came, check_made, source_expected, origin_trusted, GuardValue, after, after_names, limit_of, may_have, room_of, verdict_on}
use Rattle.rtcp_guard.specs.Histories.{AreWithinHold, LosesNone, guard_after, is_pass, passed_goodbyes}
use Rattle.rtcp_guard.specs.Tables.{AreRising}
use Rattle.rtcp_guard.proofs.Putting.{found_put, goodbyes_if, one_if, total_kept, total_leaving, total_put, weight, worth}
use Rattle.rtcp_guard.proofs.Claiming.{found_names, rising_name, rising_names}
use Rattle.rtcp_guard.proofs.Bounding.{when_passed}
use Rattle.rtcp_guard.proofs.Interfering.{each_own}
use Rattle.rtcp_guard.proofs.Owning.{its_settings, leaving_after, owner_after, passed_whole, rising_after}

module _ (settings : Settings) (origin first : ℕ) where
  -- whether a claim is the origin's, and was named in the stretch
  abbrev is_recent : Claim → Bool
  is_recent claim = is_by origin claim && nat_le first claim.last

  -- the goodbyes of these
  abbrev recent : List Claim → ℕ
  recent claims = sum_by (goodbyes_if is_recent) claims

  both : (a b : Bool) → a && b ≡ true → (a ≡ true) × (b ≡ true)
  both true true e = (refl, refl)
  both true false e = absurd cc
  both false b e = absurd cc

  same_some : (a b : ℕ) → Some a ≡ Some b → a ≡ b
  same_some a b e = cc

  -- ---- What is named anew counts for no fewer

  renewed : (other moment ssrc : ℕ) (earlier : Option Claim) → first ≤ moment →
      (option_map (λ (claim : Claim). claim.origin) earlier ≡ Some origin → other ≡ origin) →
      worth (goodbyes_if is_recent) earlier ≤ goodbyes_if is_recent (claim_after other moment ssrc earlier)
  renewed other moment ssrc None from its = omega arith
  renewed other moment ssrc (Some claim) from its =
      elim (is_recent claim) as (λ b. is_recent claim ≡ b → cond b claim.goodbyes 0
      ≤ goodbyes_if is_recent (claim_after other moment ssrc (Some claim))) [
        | true ↦ λ e.
            let owns : claim.origin ≡ origin =
            eqb-true claim.origin origin (both (is_by origin claim) (nat_le first claim.last) e).0 in
            let same : other ≡ origin = its (ap (λ (o : ℕ). Some o) owns) in
            let one : other == origin ≡ true = grind (arith, nat_tests, same) in
            let two : nat_le first moment ≡ true = grind (arith, nat_tests, from) in
            let three : claim.origin == other ≡ true = grind (arith, nat_tests, same, owns) in
            let is : goodbyes_if is_recent (claim_after other moment ssrc (Some claim)) ≡ claim.goodbyes =
            (λ i. cond (one i && two i) (cond (three i) claim.goodbyes 0) 0) in
            omega (arith, is)
        | false ↦ λ e. omega arith
      ] refl

  name_grows : (other moment ssrc : ℕ) (claims : List Claim) → AreRising claims → first ≤ moment →
      (owner_in ssrc claims ≡ Some origin → other ≡ origin) →
      recent claims ≤ recent (with_name other moment ssrc claims)
  name_grows other moment ssrc claims rising from its =
      let so = total_put (goodbyes_if is_recent) (claim_after other moment ssrc (found ssrc claims)) claims rising in
      let more = renewed other moment ssrc (found ssrc claims) from its in
      omega (arith, so, more)

  names_grow : (other moment : ℕ) (names : List ℕ) (claims : List Claim) → AreRising claims → first ≤ moment →
      ((ssrc : ℕ) → is_named ssrc names ≡ true → owner_in ssrc claims ≡ Some origin → other ≡ origin) →
      recent claims ≤ recent (with_names other moment names claims)
  names_grow other moment [] claims rising from its = omega arith
  names_grow other moment (ssrc ∷ rest) claims rising from its =
      let one = name_grows other moment ssrc claims rising from (its ssrc (named_first ssrc)) in
      let more = names_grow other moment rest (with_name other moment ssrc claims)
      (rising_name other moment ssrc claims rising) from still in
      omega (arith, one, more)
    where
      named_first : (n : ℕ) → n == n || is_named n rest ≡ true
      named_first n = let same : n == n ≡ true = grind (arith, nat_tests) in ap (λ b. b || is_named n rest) same

      or_true : (b : Bool) → b || true ≡ true
      or_true true = refl
      or_true false = refl

      still : (n : ℕ) → is_named n rest ≡ true → owner_in n (with_name other moment ssrc claims) ≡ Some origin →
          other ≡ origin
      still n named owns =
          elim (ssrc == n) as (λ b. option_map (λ (claim : Claim). claim.origin)
          (cond b (Some (claim_after other moment ssrc (found ssrc claims))) (found n claims)) ≡ Some origin →
          other ≡ origin) [
            | true ↦ λ is. same_some other origin is
            | false ↦ λ is. its n (ap (λ b. ssrc == n || b) named ∙ or_true (ssrc == n)) is
          ] (sym (ap (option_map (λ (claim : Claim). claim.origin))
          (found_put n (claim_after other moment ssrc (found ssrc claims)) claims)) ∙ owns)

  -- ---- One step

  among_named : (names : List ℕ) (goodbye : Option ℕ) (ssrc : ℕ) → goodbye_among names goodbye ≡ Some ssrc →
      is_named ssrc names ≡ true
  among_named names None ssrc is = absurd cc
  among_named names (Some other) ssrc is =
      elim (is_named other names) as (λ b. is_named other names ≡ b → cond b (Some other) None ≡ Some ssrc →
      is_named ssrc names ≡ true) [
        | true ↦ λ e is. ap (λ s. is_named s names) (sym (same_some other ssrc is)) ∙ e
        | false ↦ λ e is. absurd cc
      ] refl is

  not_another : (other : ℕ) (o : Option ℕ) → is_of_another other o ≡ false → o ≡ Some origin → other ≡ origin
  not_another other None own owns = absurd cc
  not_another other (Some owner) own owns =
      elim (owner == other) as (λ b. owner == other ≡ b → not b ≡ false → other ≡ origin) [
        | true ↦ λ e is. sym (eqb-true owner other e) ∙ same_some owner origin owns
        | false ↦ λ e is. absurd cc
      ] refl own

  -- A BYE that is passed on is one goodbye more.
  goodbye_grows : (other moment : ℕ) (names : List ℕ) (goodbye : Option ℕ) (claims : List Claim) →
      AreRising claims → first ≤ moment →
      cond (other == origin && is_some (goodbye_among names goodbye) && true) 1 0
      + recent (with_names other moment names claims)
      ≤ recent (with_goodbye (goodbye_among names goodbye) (with_names other moment names claims))
  goodbye_grows other moment names goodbye claims rising from = by_goodbye (goodbye_among names goodbye) refl
    where
      by_goodbye : (o : Option ℕ) → goodbye_among names goodbye ≡ o → cond (other == origin && is_some o && true) 1 0
          + recent (with_names other moment names claims)
          ≤ recent (with_goodbye o (with_names other moment names claims))
      by_goodbye None e = elim (other == origin) as (λ b. cond (b && false && true) 1 0
          + recent (with_names other moment names claims) ≤ recent (with_names other moment names claims)) [
            | true ↦ omega arith
            | false ↦ omega arith
          ]
      by_goodbye (Some ssrc) e =
          let so = total_leaving is_recent ssrc (λ claim. refl) (with_names other moment names claims)
          (rising_names other moment names claims rising) in
          elim (other == origin) as (λ b. other == origin ≡ b → cond (b && true && true) 1 0
          + recent (with_names other moment names claims)
          ≤ recent (with_goodbye (Some ssrc) (with_names other moment names claims))) [
            | true ↦ λ own.
                let until : nat_le first moment ≡ true = grind (arith, nat_tests, from) in
                let there : weight is_recent (found ssrc (with_names other moment names claims)) ≡ 1 =
                ap (weight is_recent) (found_names other moment ssrc names claims
                ∙ ap (λ b. cond b (Some (claim_after other moment ssrc (found ssrc claims))) (found ssrc claims))
                (among_named names goodbye ssrc e))
                ∙ (λ i. one_if (own i && until i)) in
                omega (arith, so, there)
            | false ↦ λ own. omega (arith, so)
          ] refl

  datagram_grows : (other moment : ℕ) (names : List ℕ) (goodbye : Option ℕ) (guard : GuardValue) →
      AreRising guard.claims → first ≤ moment → (v : Verdict) → verdict_on other moment names goodbye guard ≡ v →
      cond (other == origin && is_some (goodbye_among names goodbye) && is_pass v) 1 0 + recent guard.claims
      ≤ recent (after_names other moment names goodbye v guard.claims)
  datagram_grows other moment names goodbye guard rising from Pass e =
      let own = (when_passed (limit_of other guard.settings guard.trusted) (room_of guard.settings) other moment names
      guard.claims (passed_whole other moment names goodbye guard e).1).own in
      let one = names_grow other moment names guard.claims rising from
      (λ ssrc named owns. not_another other (owner_in ssrc guard.claims)
      (each_own other ssrc names guard.claims own named) owns) in
      let more = goodbye_grows other moment names goodbye guard.claims rising from in
      omega (arith, one, more)
  datagram_grows other moment names goodbye guard rising from Stranger e =
      none_passed (other == origin && is_some (goodbye_among names goodbye)) (recent guard.claims)
    where
      none_passed : (b : Bool) (n : ℕ) → cond (b && false) 1 0 + n ≤ n
      none_passed true n = omega arith
      none_passed false n = omega arith
  datagram_grows other moment names goodbye guard rising from Crowd e =
      none_passed (other == origin && is_some (goodbye_among names goodbye)) (recent guard.claims)
    where
      none_passed : (b : Bool) (n : ℕ) → cond (b && false) 1 0 + n ≤ n
      none_passed true n = omega arith
      none_passed false n = omega arith

  -- no claim of the stretch lapses in it
  check_keeps : (moment silent hold : ℕ) (claims : List Claim) → moment ≤ first + hold →
      recent claims ≤ recent (after_lapse (min (moment - hold) silent) claims)
  check_keeps moment silent hold claims until =
      total_kept (goodbyes_if is_recent) (λ (claim : Claim). nat_le (min (moment - hold) silent) claim.last) claims
      (λ claim lapses.
      let early : claim.last < min (moment - hold) silent = grind (arith, nat_tests, lapses) in
      let less : claim.last < first = omega (arith, early, until) in
      let old : nat_le first claim.last ≡ false = grind (arith, nat_tests, less) in
      ap (λ b. cond (is_by origin claim && b) claim.goodbyes 0) old ∙ none (is_by origin claim) claim.goodbyes)
    where
      none : (b : Bool) (n : ℕ) → cond (b && false) n 0 ≡ 0
      none true n = refl
      none false n = refl

  expected_grows : (ssrc other moment : ℕ) (guard : GuardValue) → AreRising guard.claims → first ≤ moment →
      (owner_in ssrc guard.claims ≡ Some origin → other ≡ origin) →
      recent guard.claims ≤ recent (after (source_expected ssrc other moment) guard).claims
  expected_grows ssrc other moment guard rising from its =
      elim (may_have ssrc other moment guard) as (λ b. recent guard.claims
      ≤ recent (cond b (record guard { claims = with_name other moment ssrc guard.claims }) guard).claims) [
        | true ↦ name_grows other moment ssrc guard.claims rising from its
        | false ↦ omega arith
      ]

  -- ---- All steps

  stretch : (newer older : List GuardStep) → AreWithinHold settings.hold first newer →
      LosesNone settings origin newer older →
      passed_goodbyes settings origin newer older ≤ recent (guard_after settings (newer ++ older)).claims
  stretch [] older within loses = omega arith
  stretch (datagram_came other moment names goodbye ∷ newer) older within loses =
      let so = stretch newer older within.1 loses in
      let more = datagram_grows other moment names goodbye (guard_after settings (newer ++ older))
      (rising_after settings (newer ++ older)) within.0.from
      (verdict_on other moment names goodbye (guard_after settings (newer ++ older))) refl in
      omega (arith, so, more)
  stretch (check_made moment silent ∷ newer) older within loses =
      let so = stretch newer older within.1 loses in
      let guard : GuardValue = guard_after settings (newer ++ older) in
      let until : moment ≤ first + guard.settings.hold =
      subst (λ (s : Settings). moment ≤ first + s.hold) (sym (its_settings settings (newer ++ older)))
      within.0.until in
      let more = check_keeps moment silent guard.settings.hold guard.claims until in
      omega (arith, so, more)
  stretch (source_expected ssrc other moment ∷ newer) older within loses =
      let so = stretch newer older within.1 loses.1 in
      let more = expected_grows ssrc other moment (guard_after settings (newer ++ older))
      (rising_after settings (newer ++ older)) within.0.from
      (λ owns. loses.0 (sym (owner_after settings (newer ++ older) ssrc) ∙ owns)) in
      omega (arith, so, more)
  stretch (origin_trusted other ∷ newer) older within loses =
      let so = stretch newer older within loses in omega (arith, so)

  recent_few : (claims : List Claim) → recent claims ≤ goodbyes_of origin claims
  recent_few [] = omega arith
  recent_few (claim ∷ rest) =
      let so = recent_few rest in
      let one = sum_by-cons (goodbyes_if is_recent) claim rest in
      let other = sum_by-cons (goodbyes_for origin) claim rest in
      let less = fewer (is_by origin claim) (nat_le first claim.last) claim.goodbyes in
      omega (arith, so, one, other, less)
    where
      fewer : (a b : Bool) (n : ℕ) → cond (a && b) n 0 ≤ cond a n 0
      fewer true true n = omega arith
      fewer true false n = omega arith
      fewer false b n = omega arith

  pub few_pass_on : (newer older : List GuardStep) → AreWithinHold settings.hold first newer →
      LosesNone settings origin newer older → passed_goodbyes settings origin newer older
      ≤ limit_of origin settings (guard_after settings (newer ++ older)).trusted
  few_pass_on newer older within loses =
      let so = stretch newer older within loses in
      let few = recent_few (guard_after settings (newer ++ older)).claims in
      let most = leaving_after settings (newer ++ older) origin in
      omega (arith, so, few, most)
