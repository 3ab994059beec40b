-- No origin ever has more sources than it may.
use Rattle.std.proofs.Common.{◌≡◌, ◌≤◌, ◌==◌, ◌||◌, ◌++◌, ℕ, Some, max, nat_lt, nat_le, not, Bool, true, false, cond, List, [], ◌∷◌, length, Option, None, option_map, ◌<◌, ◌^◌, arith, refl, sym, ap, subst, ◌∙◌}
use Rattle.std.proofs.lemmas.Bool.{eqb-true, or_parts}
use Rattle.std.proofs.lemmas.Bool.Decides.{nat_tests}
use Rattle.std.proofs.lemmas.List.Folds.{list_any-append}
use Rattle.rtcp_guard.specs.Claims.{Claim, claim_after, claim_leaving, found, goodbye_among, goodbyes_for, goodbyes_of, owner_in, with_goodbye, with_name, with_names, after_lapse, is_by, is_named, held, is_of_another, is_strange, before_stranger, is_too_many}
use Rattle.rtcp_guard.specs.Guarding.{GuardValue, after_verdict, has_left_enough, judged, is_trusted, limit_of, room_of, unless_more, verdict_by}
use Rattle.rtcp_guard.specs.declared.settings.Settings.{Settings}
use Rattle.rtcp_guard.specs.declared.verdict.Verdict.{Verdict}
use Rattle.rtcp_guard.specs.declared.verdict.Verdict.TheVariants.{Pass, Stranger, Crowd}
use Rattle.rtcp_guard.specs.Tables.{AreRising, IsBounded}
use Rattle.rtcp_guard.proofs.Orders.{rising_filter, rising_leaving}
use Rattle.rtcp_guard.proofs.Putting.{one_if, tally_filter, tally_leaving, length_filter, put_shrinks, total_filter, total_leaving, weight}
use Rattle.rtcp_guard.proofs.Claiming.{found_names, goodbyes_name, goodbyes_names, rising_name, rising_names, others_shrink}
use Rattle.std.proofs.lemmas.List.{length-map}
use Rattle.rtcp_guard.proofs.Counting.{counted_none, counted_all, judged_pass}

pub bounded_lapse : (settings : Settings) (trusted : List ℕ) (before : ℕ) (claims : List Claim) →
    IsBounded settings trusted claims → IsBounded settings trusted (after_lapse before claims)
bounded_lapse settings trusted before claims bounded = record {
  rising = rising_filter stays claims bounded.rising;
  few = λ origin.
      let fewer = tally_filter (is_by origin) stays claims in
      let few = bounded.few origin in
      omega (arith, fewer, few);
  leaving = λ origin.
      let fewer = total_filter (goodbyes_for origin) stays claims in
      let few = bounded.leaving origin in
      omega (arith, fewer, few);
  within = let fewer = length_filter stays claims in let within = bounded.within in omega (arith, fewer, within);
}
  where
    stays : Claim → Bool
    stays claim = nat_le before claim.last

-- ---- What a verdict says

pub none_strange : (origin : ℕ) (names : List ℕ) (claims : List Claim) → is_strange origin names claims ≡ false →
    before_stranger origin names claims ≡ names
none_strange origin [] claims none = refl
none_strange origin (ssrc ∷ rest) claims none =
    let parts = or_parts (is_of_another origin (owner_in ssrc claims)) (is_strange origin rest claims) none in
    ap (λ b. cond b [] (ssrc ∷ before_stranger origin rest claims)) parts.0
    ∙ ap (λ names. ssrc ∷ names) (none_strange origin rest claims parts.1)

-- a datagram that passes
pub record Passes (limit room origin moment : ℕ) (names : List ℕ) (claims : List Claim) : Type 0 where
  pub own : is_strange origin names claims ≡ false
  pub enough : is_too_many limit room origin (with_names origin moment names claims) ≡ false

pub when_passed : (limit room origin moment : ℕ) (names : List ℕ) (claims : List Claim) →
    judged limit room origin moment names claims ≡ Pass → Passes limit room origin moment names claims
when_passed limit room origin moment names claims pass =
    let before : List ℕ = before_stranger origin names claims in
    let many : Bool = is_too_many limit room origin (with_names origin moment before claims) in
    let parts = cases many (is_strange origin names claims) pass in
    record {
      own = parts.1;
      enough = ap (λ ns. is_too_many limit room origin (with_names origin moment ns claims))
          (sym (none_strange origin names claims parts.1)) ∙ parts.0;
    }
  where
    cases : (many strange : Bool) → cond many Crowd (cond strange Stranger Pass) ≡ Pass →
        (many ≡ false) × (strange ≡ false)
    cases true strange e = absurd cc
    cases false true e = absurd cc
    cases false false e = (refl, refl)

-- ---- Bounds

pub too_many_parts : (limit room origin : ℕ) (claims : List Claim) → is_too_many limit room origin claims ≡ false →
    (held origin claims ≤ limit) × (length claims ≤ room)
too_many_parts limit room origin claims enough =
    let parts = or_parts (nat_lt limit (held origin claims)) (nat_lt room (length claims)) enough in
    let few = parts.0 in
    let within = parts.1 in
    (grind (arith, nat_tests, few), grind (arith, nat_tests, within))

-- An origin whose sources are few enough may become more; no other becomes so.
bounded_where : (settings : Settings) (trusted : List ℕ) (origin : ℕ) (claims next : List Claim) →
    IsBounded settings trusted claims → AreRising next →
    is_too_many (limit_of origin settings trusted) (room_of settings) origin next ≡ false →
    ((other : ℕ) → origin == other ≡ false → held other next ≤ held other claims) →
    ((other : ℕ) → goodbyes_of other next ≤ goodbyes_of other claims) → IsBounded settings trusted next
bounded_where settings trusted origin claims next bounded rising enough fewer no_more =
    let parts = too_many_parts (limit_of origin settings trusted) (room_of settings) origin next enough in
    record {
      rising = rising;
      few = λ other. elim (origin == other) as (λ b. origin == other ≡ b →
          held other next ≤ limit_of other settings trusted) [
            | true ↦ λ e. subst (λ o. held o next ≤ limit_of o settings trusted) (eqb-true origin other e) parts.0
            | false ↦ λ e.
                let less = fewer other e in
                let few = bounded.few other in
                omega (arith, less, few)
          ] refl;
      leaving = λ other.
          let less = no_more other in
          let few = bounded.leaving other in
          omega (arith, less, few);
      within = parts.1;
    }

pub bounded_passing : (settings : Settings) (trusted : List ℕ) (origin moment : ℕ) (names : List ℕ)
    (claims : List Claim) → IsBounded settings trusted claims →
    judged (limit_of origin settings trusted) (room_of settings) origin moment names claims ≡ Pass →
    IsBounded settings trusted (with_names origin moment names claims)
bounded_passing settings trusted origin moment names claims bounded pass =
    let passes = when_passed (limit_of origin settings trusted) (room_of settings) origin moment names claims pass in
    bounded_where settings trusted origin claims (with_names origin moment names claims) bounded
    (rising_names origin moment names claims bounded.rising) passes.enough
    (λ other apart. others_shrink origin moment other apart names claims bounded.rising)
    (λ other. goodbyes_names origin moment other names claims bounded.rising)

pub bounded_name : (settings : Settings) (trusted : List ℕ) (origin moment ssrc : ℕ) (claims : List Claim) →
    IsBounded settings trusted claims →
    is_too_many (limit_of origin settings trusted) (room_of settings) origin (with_name origin moment ssrc claims)
    ≡ false → IsBounded settings trusted (with_name origin moment ssrc claims)
bounded_name settings trusted origin moment ssrc claims bounded enough =
    bounded_where settings trusted origin claims (with_name origin moment ssrc claims) bounded
    (rising_name origin moment ssrc claims bounded.rising) enough
    (λ other apart. put_shrinks (is_by other) (claim_after origin moment ssrc (found ssrc claims)) claims
    bounded.rising apart)
    (λ other. goodbyes_name origin moment other ssrc claims bounded.rising)

-- ---- Goodbyes

-- One more counts for the origin that the source belongs to, and for no other.
counts_for : (origin other : ℕ) (o : Option Claim) → option_map (λ (claim : Claim). claim.origin) o ≡ Some origin →
    weight (is_by other) o ≡ one_if (origin == other)
counts_for origin other None owns = absurd cc
counts_for origin other (Some claim) owns =
    let same : claim.origin ≡ origin = cc in ap (λ n. one_if (n == other)) same

-- An origin that has goodbyes left may say one more.
pub bounded_leaving : (settings : Settings) (trusted : List ℕ) (origin ssrc : ℕ) (claims : List Claim) →
    IsBounded settings trusted claims → owner_in ssrc claims ≡ Some origin →
    goodbyes_of origin claims < limit_of origin settings trusted →
    IsBounded settings trusted (with_goodbye (Some ssrc) claims)
bounded_leaving settings trusted origin ssrc claims bounded owns left = record {
  rising = rising_leaving ssrc claims bounded.rising;
  few = λ other.
      let same = tally_leaving (is_by other) ssrc (λ claim. refl) claims in
      let few = bounded.few other in
      omega (arith, same, few);
  leaving = λ other.
      let so = total_leaving (is_by other) ssrc (λ claim. refl) claims bounded.rising in
      let counts = counts_for origin other (found ssrc claims) owns in
      let few = bounded.leaving other in
      elim (origin == other) as (λ b. origin == other ≡ b →
      goodbyes_of other (with_goodbye (Some ssrc) claims) ≤ limit_of other settings trusted) [
        | true ↦ λ e.
            let one = ap one_if e in
            let its : goodbyes_of other claims < limit_of other settings trusted =
            subst (λ (o : ℕ). goodbyes_of o claims < limit_of o settings trusted) (eqb-true origin other e) left in
            omega (arith, so, counts, one, its)
        | false ↦ λ e. let none = ap one_if e in omega (arith, so, counts, none, few)
      ] refl;
  within = let long = length-map claims (claim_leaving (Some ssrc)) in let within = bounded.within in
      omega (arith, long, within);
}

-- what is left of an origin's goodbyes
pub goodbyes_left : (origin ssrc : ℕ) (guard : GuardValue) → has_left_enough origin (Some ssrc) guard ≡ false →
    goodbyes_of origin guard.claims < limit_of origin guard.settings guard.trusted
goodbyes_left origin ssrc guard left = grind (arith, nat_tests, left)

-- a source that was named belongs to the origin
pub owned_by_name : (origin moment ssrc : ℕ) (names : List ℕ) (claims : List Claim) → is_named ssrc names ≡ true →
    owner_in ssrc (with_names origin moment names claims) ≡ Some origin
owned_by_name origin moment ssrc names claims named =
    ap (option_map (λ (claim : Claim). claim.origin)) (found_names origin moment ssrc names claims)
    ∙ ap (λ b. option_map (λ (claim : Claim). claim.origin)
    (cond b (Some (claim_after origin moment ssrc (found ssrc claims))) (found ssrc claims))) named

-- So may one of which a datagram that passed says BYE.
pub leaves_within : (now next : GuardValue) (origin moment ssrc : ℕ) (names : List ℕ) →
    next ≡ after_verdict origin moment names None Pass now → IsBounded next.settings next.trusted next.claims →
    is_named ssrc names ≡ true → AreRising now.claims →
    goodbyes_of origin now.claims < limit_of origin now.settings now.trusted →
    IsBounded next.settings next.trusted (with_goodbye (Some ssrc) next.claims)
leaves_within now next origin moment ssrc names is bounded named rising left =
    let no_more = goodbyes_names origin moment origin names now.claims rising in
    bounded_leaving next.settings next.trusted origin ssrc next.claims bounded
    (ap (λ (g : GuardValue). owner_in ssrc g.claims) is ∙ owned_by_name origin moment ssrc names now.claims named)
    (subst (λ (g : GuardValue). goodbyes_of origin g.claims < limit_of origin g.settings g.trusted) (sym is)
    (omega (arith, left, no_more)))

-- A limit is of 16 bits.
pub limit_small : (origin : ℕ) (settings : Settings) (trusted : List ℕ) → settings.names < 2 ^ 16 →
    settings.trusted_names < 2 ^ 16 → limit_of origin settings trusted < 2 ^ 16
limit_small origin settings trusted names trusted_names =
    elim (is_trusted origin trusted) as (λ b. cond b (max settings.names settings.trusted_names) settings.names
    < 2 ^ 16) [
      | true ↦ omega (arith, names, trusted_names)
      | false ↦ names
    ]

-- A datagram that passes and says BYE keeps the bounds.
pub bounded_goodbye : (guard : GuardValue) (origin moment : ℕ) (names : List ℕ) (goodbye : Option ℕ) →
    IsBounded guard.settings guard.trusted guard.claims →
    judged (limit_of origin guard.settings guard.trusted) (room_of guard.settings) origin moment names guard.claims
    ≡ Pass → has_left_enough origin (goodbye_among names goodbye) guard ≡ false →
    IsBounded guard.settings guard.trusted
    (with_goodbye (goodbye_among names goodbye) (with_names origin moment names guard.claims))
bounded_goodbye guard origin moment names None bounded pass left =
    bounded_passing guard.settings guard.trusted origin moment names guard.claims bounded pass
bounded_goodbye guard origin moment names (Some ssrc) bounded pass left =
    let next = bounded_passing guard.settings guard.trusted origin moment names guard.claims bounded pass in
    elim (is_named ssrc names) as (λ b. is_named ssrc names ≡ b →
    has_left_enough origin (cond b (Some ssrc) None) guard ≡ false → IsBounded guard.settings guard.trusted
    (with_goodbye (cond b (Some ssrc) None) (with_names origin moment names guard.claims))) [
      | true ↦ λ e left.
          let few = goodbyes_left origin ssrc guard left in
          let no_more = goodbyes_names origin moment origin names guard.claims bounded.rising in
          bounded_leaving guard.settings guard.trusted origin ssrc (with_names origin moment names guard.claims) next
          (owned_by_name origin moment ssrc names guard.claims e) (omega (arith, few, no_more))
      | false ↦ λ e left. next
    ] refl left

-- ---- Trust

-- the limit of no origin falls
pub limit_rises : (settings : Settings) (trusted : List ℕ) (other origin : ℕ) →
    limit_of origin settings trusted ≤ limit_of origin settings (trusted ++ other ∷ [])
limit_rises settings trusted other origin =
    subst (λ b. limit_of origin settings trusted ≤ cond b (max settings.names settings.trusted_names) settings.names)
    (sym (list_any-append (λ o. o == origin) trusted (other ∷ [])))
    (elim (is_trusted origin trusted) as (λ b. cond b (max settings.names settings.trusted_names) settings.names
    ≤ cond (b || (other == origin || false)) (max settings.names settings.trusted_names) settings.names) [
      | true ↦ omega arith
      | false ↦ elim (other == origin) as (λ b. settings.names
          ≤ cond (b || false) (max settings.names settings.trusted_names) settings.names) [
            | true ↦ omega arith
            | false ↦ omega arith
          ]
    ])

pub bounded_trust : (settings : Settings) (trusted : List ℕ) (other : ℕ) (claims : List Claim) →
    IsBounded settings trusted claims → IsBounded settings (trusted ++ other ∷ []) claims
bounded_trust settings trusted other claims bounded = record {
  rising = bounded.rising;
  few = λ origin.
      let few = bounded.few origin in
      let rises = limit_rises settings trusted other origin in
      omega (arith, few, rises);
  leaving = λ origin.
      let few = bounded.leaving origin in
      let rises = limit_rises settings trusted other origin in
      omega (arith, few, rises);
  within = bounded.within;
}

-- What passes with what is left passed without.
pub pass_before : (more : Bool) (verdict : Verdict) → Pass ≡ unless_more more verdict → verdict ≡ Pass
pass_before more Pass e = refl
pass_before more Stranger e = absurd cc
pass_before more Crowd e = absurd cc

not_true : (b : Bool) → true ≡ not b → b ≡ false
not_true true e = absurd cc
not_true false e = refl

-- so does a source that an origin may have
pub bounded_expected : (guard : GuardValue) (limit room origin moment ssrc : ℕ) →
    IsBounded guard.settings guard.trusted guard.claims → limit ≡ limit_of origin guard.settings guard.trusted →
    room ≡ room_of guard.settings →
    true ≡ not (is_too_many limit room origin (with_name origin moment ssrc guard.claims)) →
    IsBounded guard.settings guard.trusted (with_name origin moment ssrc guard.claims)
bounded_expected guard limit room origin moment ssrc bounded its_limit its_room may =
    bounded_name guard.settings guard.trusted origin moment ssrc guard.claims bounded
    (sym (λ i. is_too_many (its_limit i) (its_room i) origin (with_name origin moment ssrc guard.claims))
    ∙ not_true (is_too_many limit room origin (with_name origin moment ssrc guard.claims)) may)

-- A datagram that names only the origin's own sources passes.
pub own_pass : (guard : GuardValue) (origin moment : ℕ) (names : List ℕ) →
    IsBounded guard.settings guard.trusted guard.claims →
    ((ssrc : ℕ) → is_named ssrc names ≡ true → owner_in ssrc guard.claims ≡ Some origin) →
    Pass ≡ verdict_by origin moment names guard
own_pass guard origin moment names bounded own =
    let few = bounded.few origin in
    let within = bounded.within in
    judged_pass (limit_of origin guard.settings guard.trusted) (room_of guard.settings) origin moment guard.claims names
    0
    (counted_all origin moment guard.claims [] names bounded.rising own (counted_none origin moment guard.claims))
    (omega (arith, few)) (omega (arith, within))
