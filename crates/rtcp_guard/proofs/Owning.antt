-- The claims of a guard by its history.
use Rattle.std.proofs.Common.{◌≡◌, ◌<◌, ◌≤◌, ◌==◌, ◌&&◌, ◌||◌, ◌++◌, ℕ, nat_lt, nat_le, not, Bool, true, false, cond, List, [], ◌∷◌, length, take, Option, Some, None, option_map, arith, refl, sym, ap, subst, ◌∙◌}
use Rattle.std.proofs.lemmas.Bool.{eqb-true}
use Rattle.std.proofs.lemmas.Bool.Decides.{nat_tests}
use Rattle.rtcp_guard.specs.declared.settings.Settings.{Settings}
use Rattle.rtcp_guard.specs.declared.verdict.Verdict.{Verdict}
use Rattle.rtcp_guard.specs.declared.verdict.Verdict.TheVariants.{Pass, Stranger, Crowd}
use Rattle.rtcp_guard.specs.Claims.{Claim, claim_after, claim_leaving, found, goodbye_among, goodbyes_of, owner_in, with_goodbye, with_name, with_names, after_lapse, is_named, held}
use Rattle.rtcp_guard.specs.Guarding.{GuardStep, datagram_came, check_made, source_expected, origin_trusted, GuardValue, after, after_names, before_which, has_left_enough, may_have, has_too_many, limit_of, room_of, verdict_by, verdict_on, unless_more, is_trusted}
use Rattle.rtcp_guard.specs.Histories.{guard_after, StandsAt, is_pass, is_passed, unless_lapsed, claim_of, owner_of}
use Rattle.rtcp_guard.specs.Tables.{AreRising, IsBounded}
use Rattle.rtcp_guard.proofs.Orders.{missing_above, found_first, found_leaving, found_ssrc, other_leaves}
use Rattle.rtcp_guard.proofs.Putting.{found_put}
use Rattle.rtcp_guard.proofs.Claiming.{found_names}
use Rattle.rtcp_guard.proofs.Bounding.{bounded_goodbye, bounded_lapse, bounded_name, bounded_trust}
use Rattle.rtcp_guard.proofs.Deciding.{decided_short, decided_more}

-- ---- Settings stay

pub settings_stay : (step : GuardStep) (guard : GuardValue) → (after step guard).settings ≡ guard.settings
settings_stay (datagram_came origin moment names goodbye) guard = refl
settings_stay (check_made moment silent) guard = refl
settings_stay (source_expected ssrc origin moment) guard =
    elim (may_have ssrc origin moment guard) as (λ b. (cond b (record guard {
      claims = with_name origin moment ssrc guard.claims;
    }) guard).settings ≡ guard.settings) [
      | true ↦ refl
      | false ↦ refl
    ]
settings_stay (origin_trusted origin) guard = refl

pub its_settings : (settings : Settings) (history : List GuardStep) → (guard_after settings history).settings ≡ settings
its_settings settings [] = refl
its_settings settings (step ∷ earlier) =
    settings_stay step (guard_after settings earlier) ∙ its_settings settings earlier

pub stands_next : (guard : GuardValue) (history : List GuardStep) (step : GuardStep) → StandsAt guard history →
    StandsAt (after step guard) (step ∷ history)
stands_next guard history step stands =
    ap (after step) stands ∙ ap (λ s. guard_after s (step ∷ history)) (sym (settings_stay step guard))

-- ---- Bounds

-- what passes is looked at whole, and says no BYE too many
pub passed_whole : (origin moment : ℕ) (names : List ℕ) (goodbye : Option ℕ) (guard : GuardValue) →
    verdict_on origin moment names goodbye guard ≡ Pass →
    (length names ≤ 512) × (verdict_by origin moment names guard ≡ Pass)
    × (has_left_enough origin (goodbye_among names goodbye) guard ≡ false)
passed_whole origin moment names goodbye guard pass =
    elim (nat_lt 512 (length names)) as (λ b. nat_lt 512 (length names) ≡ b →
    (length names ≤ 512) × (verdict_by origin moment names guard ≡ Pass)
    × (has_left_enough origin (goodbye_among names goodbye) guard ≡ false)) [
      | true ↦ λ e.
          let long : 512 < length names = grind (arith, nat_tests, e) in
          absurd (never (verdict_by origin moment (take 512 names) guard)
          (sym (decided_more origin moment names goodbye guard long) ∙ pass))
      | false ↦ λ e.
          let short : length names ≤ 512 = grind (arith, nat_tests, e) in
          let parts = unspent (has_left_enough origin (goodbye_among names goodbye) guard)
          (verdict_by origin moment names guard)
          (sym (decided_short origin moment names goodbye guard short) ∙ pass) in
          (short, parts.0, parts.1)
    ] refl
  where
    never : (v : Verdict) → unless_more true v ≡ Pass → ⊥
    never Pass e = cc
    never Stranger e = cc
    never Crowd e = cc

    unspent : (spent : Bool) (v : Verdict) → unless_more spent v ≡ Pass → (v ≡ Pass) × (spent ≡ false)
    unspent true v e = absurd (never v e)
    unspent false Pass e = (refl, refl)
    unspent false Stranger e = absurd cc
    unspent false Crowd e = absurd cc

abbrev with_claim : (origin moment ssrc : ℕ) → GuardValue → GuardValue
with_claim origin moment ssrc guard = record guard { claims = with_name origin moment ssrc guard.claims }

bounded_step : (step : GuardStep) (guard : GuardValue) → IsBounded guard.settings guard.trusted guard.claims →
    IsBounded (after step guard).settings (after step guard).trusted (after step guard).claims
bounded_step (datagram_came origin moment names goodbye) guard bounded =
    by_verdict (verdict_on origin moment names goodbye guard) refl
  where
    by_verdict : (v : Verdict) → verdict_on origin moment names goodbye guard ≡ v →
        IsBounded guard.settings guard.trusted (after_names origin moment names goodbye v guard.claims)
    by_verdict Pass e =
        let whole = passed_whole origin moment names goodbye guard e in
        bounded_goodbye guard origin moment names goodbye bounded whole.1 whole.2
    by_verdict Stranger e = bounded
    by_verdict Crowd e = bounded
bounded_step (check_made moment silent) guard bounded =
    bounded_lapse guard.settings guard.trusted (before_which moment silent guard.settings) guard.claims bounded
bounded_step (source_expected ssrc origin moment) guard bounded =
    elim (has_too_many origin (with_name origin moment ssrc guard.claims) guard) as (λ b.
    has_too_many origin (with_name origin moment ssrc guard.claims) guard ≡ b →
    IsBounded (cond (not b) (with_claim origin moment ssrc guard) guard).settings
    (cond (not b) (with_claim origin moment ssrc guard) guard).trusted
    (cond (not b) (with_claim origin moment ssrc guard) guard).claims) [
      | true ↦ λ e. bounded
      | false ↦ λ e. bounded_name guard.settings guard.trusted origin moment ssrc guard.claims bounded e
    ] refl
bounded_step (origin_trusted origin) guard bounded =
    elim (is_trusted origin guard.trusted || nat_le 16 (length guard.trusted)) as (λ b. IsBounded guard.settings
    (cond b guard.trusted (guard.trusted ++ origin ∷ [])) guard.claims) [
      | true ↦ bounded
      | false ↦ bounded_trust guard.settings guard.trusted origin guard.claims bounded
    ]

pub bounded_after : (settings : Settings) (history : List GuardStep) →
    IsBounded (guard_after settings history).settings (guard_after settings history).trusted
    (guard_after settings history).claims
bounded_after settings [] = record {
  rising = tt;
  few = λ origin. omega arith;
  leaving = λ origin. omega arith;
  within = omega arith;
}
bounded_after settings (step ∷ earlier) =
    bounded_step step (guard_after settings earlier) (bounded_after settings earlier)

pub rising_after : (settings : Settings) (history : List GuardStep) → AreRising (guard_after settings history).claims
rising_after settings history = (bounded_after settings history).rising

pub few_after : (settings : Settings) (history : List GuardStep) (origin : ℕ) →
    held origin (guard_after settings history).claims
    ≤ limit_of origin settings (guard_after settings history).trusted
few_after settings history origin =
    subst (λ s. held origin (guard_after settings history).claims
    ≤ limit_of origin s (guard_after settings history).trusted) (its_settings settings history)
    ((bounded_after settings history).few origin)

pub within_after : (settings : Settings) (history : List GuardStep) →
    length (guard_after settings history).claims ≤ room_of settings
within_after settings history =
    subst (λ s. length (guard_after settings history).claims ≤ room_of s) (its_settings settings history)
    (bounded_after settings history).within

pub leaving_after : (settings : Settings) (history : List GuardStep) (origin : ℕ) →
    goodbyes_of origin (guard_after settings history).claims
    ≤ limit_of origin settings (guard_after settings history).trusted
leaving_after settings history origin =
    subst (λ s. goodbyes_of origin (guard_after settings history).claims
    ≤ limit_of origin s (guard_after settings history).trusted) (its_settings settings history)
    ((bounded_after settings history).leaving origin)

-- ---- Claims

found_lapse : (before ssrc : ℕ) (claims : List Claim) → AreRising claims →
    found ssrc (after_lapse before claims) ≡ unless_lapsed before (found ssrc claims)
found_lapse before ssrc [] rising = refl
found_lapse before ssrc (first ∷ rest) rising =
    elim (first.ssrc == ssrc) as (λ s. first.ssrc == ssrc ≡ s →
    found ssrc (cond (nat_le before first.last) (first ∷ after_lapse before rest) (after_lapse before rest))
    ≡ unless_lapsed before (cond s (Some first) (found ssrc rest))) [
      | true ↦ λ e.
          let same : first.ssrc ≡ ssrc = eqb-true first.ssrc ssrc e in
          let none : found ssrc rest ≡ None = missing_above ssrc first.ssrc rest (omega (arith, same)) rising.0 in
          elim (nat_le before first.last) as (λ b. found ssrc
          (cond b (first ∷ after_lapse before rest) (after_lapse before rest))
          ≡ cond b (Some first) None) [
            | true ↦ found_first ssrc first (after_lapse before rest) same
            | false ↦ found_lapse before ssrc rest rising.1 ∙ ap (unless_lapsed before) none
          ]
      | false ↦ λ e.
          elim (nat_le before first.last) as (λ b. found ssrc
          (cond b (first ∷ after_lapse before rest) (after_lapse before rest))
          ≡ unless_lapsed before (found ssrc rest)) [
            | true ↦ ap (λ (b : Bool). cond b (Some first) (found ssrc (after_lapse before rest))) e
                ∙ found_lapse before ssrc rest rising.1
            | false ↦ found_lapse before ssrc rest rising.1
          ]
    ] refl

-- One goodbye more is counted where the BYE speaks of the source.
found_goodbye : (ssrc : ℕ) (goodbye : Option ℕ) (claims : List Claim) →
    found ssrc (with_goodbye goodbye claims) ≡ option_map (claim_leaving goodbye) (found ssrc claims)
found_goodbye ssrc None claims = same (found ssrc claims)
  where
    same : (o : Option Claim) → o ≡ option_map (claim_leaving None) o
    same None = refl
    same (Some claim) = refl
found_goodbye ssrc (Some other) claims = found_leaving other ssrc claims

-- of a source that is not named it speaks not
unnamed_stays : (ssrc : ℕ) (names : List ℕ) (goodbye : Option ℕ) (o : Option Claim) →
    ((claim : Claim) → o ≡ Some claim → claim.ssrc ≡ ssrc) → is_named ssrc names ≡ false →
    option_map (claim_leaving (goodbye_among names goodbye)) o ≡ o
unnamed_stays ssrc names None None its apart = refl
unnamed_stays ssrc names None (Some claim) its apart = refl
unnamed_stays ssrc names (Some other) None its apart = refl
unnamed_stays ssrc names (Some other) (Some claim) its apart =
    elim (is_named other names) as (λ b. is_named other names ≡ b →
    Some (claim_leaving (cond b (Some other) None) claim) ≡ Some claim) [
      | true ↦ λ e. ap (λ (c : Claim). Some c) (other_leaves other claim (apart_from other claim.ssrc e
          (ap (λ s. is_named s names) (its claim refl) ∙ apart)))
      | false ↦ λ e. refl
    ] refl
  where
    apart_from : (a b : ℕ) → is_named a names ≡ true → is_named b names ≡ false → b == a ≡ false
    apart_from a b is not_is = elim (b == a) as (λ t. b == a ≡ t → t ≡ false) [
      | true ↦ λ e. absurd (never (sym is ∙ ap (λ s. is_named s names) (sym (eqb-true b a e)) ∙ not_is))
      | false ↦ λ e. refl
    ] refl
      where
        never : true ≡ false → ⊥
        never e = cc

-- of one that is named it does as it stands
named_leaves : (ssrc : ℕ) (names : List ℕ) (goodbye : Option ℕ) (claim : Claim) → claim.ssrc ≡ ssrc →
    is_named ssrc names ≡ true → claim_leaving (goodbye_among names goodbye) claim ≡ claim_leaving goodbye claim
named_leaves ssrc names None claim its named = refl
named_leaves ssrc names (Some other) claim its named =
    elim (is_named other names) as (λ b. is_named other names ≡ b →
    claim_leaving (cond b (Some other) None) claim ≡ claim_leaving (Some other) claim) [
      | true ↦ λ e. refl
      | false ↦ λ e. sym (other_leaves other claim (elim (claim.ssrc == other) as (λ t. claim.ssrc == other ≡ t →
          t ≡ false) [
            | true ↦ λ same. absurd (never (sym named ∙ ap (λ s. is_named s names)
                (sym its ∙ eqb-true claim.ssrc other same) ∙ e))
            | false ↦ λ same. refl
          ] refl))
    ] refl
  where
    never : true ≡ false → ⊥
    never e = cc

found_verdict : (origin moment ssrc : ℕ) (names : List ℕ) (goodbye : Option ℕ) (v : Verdict) (claims : List Claim) →
    found ssrc (after_names origin moment names goodbye v claims)
    ≡ cond (is_named ssrc names && is_pass v)
    (Some (claim_leaving goodbye (claim_after origin moment ssrc (found ssrc claims)))) (found ssrc claims)
found_verdict origin moment ssrc names goodbye Pass claims =
    let next : Claim = claim_after origin moment ssrc (found ssrc claims) in
    found_goodbye ssrc (goodbye_among names goodbye) (with_names origin moment names claims)
    ∙ ap (option_map (claim_leaving (goodbye_among names goodbye))) (found_names origin moment ssrc names claims)
    ∙ elim (is_named ssrc names) as (λ b. is_named ssrc names ≡ b →
    option_map (claim_leaving (goodbye_among names goodbye)) (cond b (Some next) (found ssrc claims))
    ≡ cond (b && true) (Some (claim_leaving goodbye next)) (found ssrc claims)) [
      | true ↦ λ e. ap (λ (c : Claim). Some c) (named_leaves ssrc names goodbye next refl e)
      | false ↦ λ e. unnamed_stays ssrc names goodbye (found ssrc claims) (found_ssrc ssrc claims) e
    ] refl
found_verdict origin moment ssrc names goodbye Stranger claims =
    ap (λ b. cond b (Some (claim_leaving goodbye (claim_after origin moment ssrc (found ssrc claims))))
    (found ssrc claims)) (sym (and_false (is_named ssrc names)))
  where
    and_false : (b : Bool) → b && false ≡ false
    and_false true = refl
    and_false false = refl
found_verdict origin moment ssrc names goodbye Crowd claims =
    ap (λ b. cond b (Some (claim_leaving goodbye (claim_after origin moment ssrc (found ssrc claims))))
    (found ssrc claims)) (sym (and_false (is_named ssrc names)))
  where
    and_false : (b : Bool) → b && false ≡ false
    and_false true = refl
    and_false false = refl

found_expected : (ssrc other origin moment : ℕ) (guard : GuardValue) →
    found ssrc (after (source_expected other origin moment) guard).claims
    ≡ cond (other == ssrc && may_have other origin moment guard)
    (Some (claim_after origin moment ssrc (found ssrc guard.claims))) (found ssrc guard.claims)
found_expected ssrc other origin moment guard =
    elim (may_have other origin moment guard) as (λ b. found ssrc (cond b (record guard {
      claims = with_name origin moment other guard.claims;
    }) guard).claims
    ≡ cond (other == ssrc && b) (Some (claim_after origin moment ssrc (found ssrc guard.claims)))
    (found ssrc guard.claims)) [
      | true ↦ found_put ssrc (claim_after origin moment other (found other guard.claims)) guard.claims
          ∙ elim (other == ssrc) as (λ b. other == ssrc ≡ b →
          cond b (Some (claim_after origin moment other (found other guard.claims))) (found ssrc guard.claims)
          ≡ cond (b && true) (Some (claim_after origin moment ssrc (found ssrc guard.claims)))
          (found ssrc guard.claims)) [
            | true ↦ λ e. ap (λ s. Some (claim_after origin moment s (found s guard.claims))) (eqb-true other ssrc e)
            | false ↦ λ e. refl
          ] refl
      | false ↦ elim (other == ssrc) as (λ b. found ssrc guard.claims
          ≡ cond (b && false) (Some (claim_after origin moment ssrc (found ssrc guard.claims)))
          (found ssrc guard.claims)) [
            | true ↦ refl
            | false ↦ refl
          ]
    ]

pub found_after : (settings : Settings) (history : List GuardStep) (ssrc : ℕ) →
    found ssrc (guard_after settings history).claims ≡ claim_of settings ssrc history
found_after settings [] ssrc = refl
found_after settings (datagram_came origin moment names goodbye ∷ earlier) ssrc =
    found_verdict origin moment ssrc names goodbye
    (verdict_on origin moment names goodbye (guard_after settings earlier))
    (guard_after settings earlier).claims
    ∙ ap (λ o. cond (is_named ssrc names && is_passed settings origin moment names goodbye earlier)
    (Some (claim_leaving goodbye (claim_after origin moment ssrc o))) o) (found_after settings earlier ssrc)
found_after settings (check_made moment silent ∷ earlier) ssrc =
    found_lapse (before_which moment silent (guard_after settings earlier).settings) ssrc
    (guard_after settings earlier).claims (rising_after settings earlier)
    ∙ (λ i. unless_lapsed (before_which moment silent (its_settings settings earlier i))
    (found_after settings earlier ssrc i))
found_after settings (source_expected other origin moment ∷ earlier) ssrc =
    found_expected ssrc other origin moment (guard_after settings earlier)
    ∙ ap (λ o. cond (other == ssrc && may_have other origin moment (guard_after settings earlier))
    (Some (claim_after origin moment ssrc o)) o) (found_after settings earlier ssrc)
found_after settings (origin_trusted origin ∷ earlier) ssrc = found_after settings earlier ssrc

pub owner_after : (settings : Settings) (history : List GuardStep) (ssrc : ℕ) →
    owner_in ssrc (guard_after settings history).claims ≡ owner_of settings ssrc history
owner_after settings history ssrc =
    ap (option_map (λ (claim : Claim). claim.origin)) (found_after settings history ssrc)
