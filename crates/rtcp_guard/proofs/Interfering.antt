-- One origin speaks for a source, and the others do not interfere.
use Rattle.std.proofs.Common.{◌≡◌, ◌<◌, ◌≤◌, ◌==◌, ◌&&◌, ◌||◌, ◌++◌, ℕ, nat_lt, nat_le, not, Bool, true, false, cond, List, [], ◌∷◌, length, Option, Some, None, option_map, is_some, arith, refl, sym, ap, ◌∙◌}
use Rattle.std.proofs.lemmas.Bool.{eqb-true, or_parts}
use Rattle.std.proofs.lemmas.Bool.Decides.{nat_tests}
use Rattle.std.proofs.lemmas.List.{append-nil}
use Rattle.rtcp_guard.specs.declared.settings.Settings.{Settings}
use Rattle.rtcp_guard.specs.declared.verdict.Verdict.{Verdict}
use Rattle.rtcp_guard.specs.declared.verdict.Verdict.TheVariants.{Pass, Stranger, Crowd}
use Rattle.rtcp_guard.specs.Claims.{Claim, claim_after, claim_leaving, goodbye_among, goodbyes_of, owner_in, with_name, with_names, is_named, held, is_of_another, is_strange, before_stranger, is_too_many}
use Rattle.rtcp_guard.specs.Guarding.{GuardStep, datagram_came, check_made, source_expected, origin_trusted, GuardValue, nothing_held_back, after, after_names, before_which, has_left_enough, may_have, limit_of, room_of, verdict_on}
use Rattle.rtcp_guard.specs.Histories.{guard_after, is_pass, is_passed, unless_lapsed, claim_of, owner_of, Keeps, AreOf, is_others, without, if_passed, passed_about}
use Rattle.rtcp_guard.proofs.Counting.{before_more, strange_more}
use Rattle.rtcp_guard.proofs.Bounding.{when_passed}
use Rattle.rtcp_guard.proofs.Deciding.{decided_whole}
use Rattle.rtcp_guard.proofs.Owning.{passed_whole, owner_after}

-- ---- Few own sources

pub few_pass : (guard : GuardValue) (origin moment : ℕ) (names : List ℕ) (goodbye : Option ℕ) →
    has_left_enough origin (goodbye_among names goodbye) guard ≡ false → length names ≤ 512 →
    ((ssrc : ℕ) → is_named ssrc names ≡ true → is_of_another origin (owner_in ssrc guard.claims) ≡ false) →
    held origin (with_names origin moment names guard.claims) ≤ limit_of origin guard.settings guard.trusted →
    length (with_names origin moment names guard.claims) ≤ room_of guard.settings →
    verdict_on origin moment names goodbye guard ≡ Pass
few_pass guard origin moment names goodbye left short own few within =
    let claims : List Claim = guard.claims in
    let limit : ℕ = limit_of origin guard.settings guard.trusted in
    let room : ℕ = room_of guard.settings in
    let then : List Claim = with_names origin moment names claims in
    let nil : names ++ [] ≡ names = append-nil names in
    let all : before_stranger origin names claims ≡ names = ap (λ ns. before_stranger origin ns claims) (sym nil)
    ∙ before_more origin claims names [] own ∙ nil in
    let none : is_strange origin names claims ≡ false = ap (λ ns. is_strange origin ns claims) (sym nil)
    ∙ strange_more origin claims names [] own in
    let one : nat_lt limit (held origin then) ≡ false = grind (arith, nat_tests, few) in
    let other : nat_lt room (length then) ≡ false = grind (arith, nat_tests, within) in
    let enough : is_too_many limit room origin (with_names origin moment (before_stranger origin names claims) claims)
    ≡ false
    = ap (λ ns. is_too_many limit room origin (with_names origin moment ns claims)) all ∙ (λ i. one i || other i) in
    decided_whole origin moment names goodbye guard short left
    ∙ (λ i. cond (enough i) Crowd (cond (none i) Stranger Pass))

pub left_enough_of : (origin : ℕ) (goodbye : Option ℕ) (guard : GuardValue) →
    goodbyes_of origin guard.claims < limit_of origin guard.settings guard.trusted →
    has_left_enough origin goodbye guard ≡ false
left_enough_of origin None guard left = refl
left_enough_of origin (Some ssrc) guard left = grind (arith, nat_tests, left)

-- ---- What passes is of the owner

pub each_own : (origin ssrc : ℕ) (names : List ℕ) (claims : List Claim) → is_strange origin names claims ≡ false →
    is_named ssrc names ≡ true → is_of_another origin (owner_in ssrc claims) ≡ false
each_own origin ssrc [] claims none named = absurd cc
each_own origin ssrc (name ∷ rest) claims none named =
    let parts = or_parts (is_of_another origin (owner_in name claims)) (is_strange origin rest claims) none in
    elim (name == ssrc) as (λ b. name == ssrc ≡ b → b || is_named ssrc rest ≡ true →
    is_of_another origin (owner_in ssrc claims) ≡ false) [
      | true ↦ λ e is. ap (λ s. is_of_another origin (owner_in s claims)) (sym (eqb-true name ssrc e)) ∙ parts.0
      | false ↦ λ e is. each_own origin ssrc rest claims parts.1 is
    ] refl named

pub when_pass : (v : Verdict) → is_pass v ≡ true → v ≡ Pass
when_pass Pass e = refl
when_pass Stranger e = absurd cc
when_pass Crowd e = absurd cc

pub passed_is_own : (settings : Settings) (origin moment : ℕ) (names : List ℕ) (goodbye : Option ℕ)
    (earlier : List GuardStep) (ssrc owner : ℕ) → owner_of settings ssrc earlier ≡ Some owner →
    is_named ssrc names ≡ true →
    is_passed settings origin moment names goodbye earlier ≡ true → origin ≡ owner
passed_is_own settings origin moment names goodbye earlier ssrc owner owns named passes =
    let guard : GuardValue = guard_after settings earlier in
    let pass : verdict_on origin moment names goodbye guard ≡ Pass =
    when_pass (verdict_on origin moment names goodbye guard) passes in
    let own = (when_passed (limit_of origin guard.settings guard.trusted) (room_of guard.settings) origin moment names
    guard.claims (passed_whole origin moment names goodbye guard pass).1).own in
    let is : is_of_another origin (owner_in ssrc guard.claims) ≡ false = each_own origin ssrc names guard.claims own
    named in
    let its : owner_in ssrc guard.claims ≡ Some owner = owner_after settings earlier ssrc ∙ owns in
    let same : not (owner == origin) ≡ false = sym (ap (is_of_another origin) its) ∙ is in
    elim (owner == origin) as (λ b. owner == origin ≡ b → not b ≡ false → origin ≡ owner) [
      | true ↦ λ e none. sym (eqb-true owner origin e)
      | false ↦ λ e none. absurd cc
    ] refl same

-- ---- The owner stays

module _ (settings : Settings) (ssrc owner : ℕ) where
  pub keeps_before : (step : GuardStep) (newer older : List GuardStep) →
      Keeps settings ssrc owner (step ∷ newer) older →
      Keeps settings ssrc owner newer older
  keeps_before (datagram_came origin moment names goodbye) newer older keeps =
      record { owns = keeps.owns; claimed = keeps.claimed.1; unmoved = keeps.unmoved }
  keeps_before (check_made moment silent) newer older keeps =
      record { owns = keeps.owns; claimed = keeps.claimed.1; unmoved = keeps.unmoved }
  keeps_before (source_expected other origin moment) newer older keeps =
      record { owns = keeps.owns; claimed = keeps.claimed.1; unmoved = keeps.unmoved.1 }
  keeps_before (origin_trusted origin) newer older keeps =
      record { owns = keeps.owns; claimed = keeps.claimed.1; unmoved = keeps.unmoved }

  still_there : (before : ℕ) (o : Option Claim) → is_some (unless_lapsed before o) ≡ true →
      option_map (λ (claim : Claim). claim.origin) o ≡ Some owner →
      option_map (λ (claim : Claim). claim.origin) (unless_lapsed before o) ≡ Some owner
  still_there before None is e = absurd cc
  still_there before (Some claim) is e =
      elim (nat_le before claim.last) as (λ b. is_some (cond b (Some claim) None) ≡ true →
      option_map (λ (claim : Claim). claim.origin) (cond b (Some claim) None) ≡ Some owner) [
        | true ↦ λ is. e
        | false ↦ λ is. absurd cc
      ] is

  both : (a b : Bool) → a && b ≡ true → (a ≡ true) × (b ≡ true)
  both true true e = (refl, refl)
  both true false e = absurd cc
  both false b e = absurd cc

  pub owner_stays : (newer older : List GuardStep) → Keeps settings ssrc owner newer older →
      owner_of settings ssrc (newer ++ older) ≡ Some owner
  owner_stays [] older keeps = keeps.owns
  owner_stays (datagram_came origin moment names goodbye ∷ newer) older keeps =
      let before = owner_stays newer older
      (keeps_before (datagram_came origin moment names goodbye) newer older keeps) in
      elim (is_named ssrc names && is_passed settings origin moment names goodbye (newer ++ older)) as (λ b.
      is_named ssrc names && is_passed settings origin moment names goodbye (newer ++ older) ≡ b →
      option_map (λ (claim : Claim). claim.origin)
      (cond b (Some (claim_leaving goodbye (claim_after origin moment ssrc (claim_of settings ssrc (newer ++ older)))))
      (claim_of settings ssrc (newer ++ older))) ≡ Some owner) [
        | true ↦ λ e.
            let parts = both (is_named ssrc names) (is_passed settings origin moment names goodbye (newer ++ older))
            e in
            ap (λ (o : ℕ). Some o)
            (passed_is_own settings origin moment names goodbye (newer ++ older) ssrc owner before parts.0 parts.1)
        | false ↦ λ e. before
      ] refl
  owner_stays (check_made moment silent ∷ newer) older keeps =
      still_there (before_which moment silent settings) (claim_of settings ssrc (newer ++ older)) keeps.claimed.0
      (owner_stays newer older (keeps_before (check_made moment silent) newer older keeps))
  owner_stays (source_expected other origin moment ∷ newer) older keeps =
      ap (λ b. option_map (λ (claim : Claim). claim.origin) (cond (b && may_have other origin moment
      (guard_after settings (newer ++ older)))
      (Some (claim_after origin moment ssrc (claim_of settings ssrc (newer ++ older))))
      (claim_of settings ssrc (newer ++ older))))
      keeps.unmoved.0
      ∙ owner_stays newer older (keeps_before (source_expected other origin moment) newer older keeps)
  owner_stays (origin_trusted origin ∷ newer) older keeps =
      owner_stays newer older (keeps_before (origin_trusted origin) newer older keeps)

  pub all_of_one : (newer older : List GuardStep) → Keeps settings ssrc owner newer older →
      AreOf settings ssrc owner newer older
  all_of_one [] older keeps = tt
  all_of_one (datagram_came origin moment names goodbye ∷ newer) older keeps =
      let before = keeps_before (datagram_came origin moment names goodbye) newer older keeps in (
        passed_is_own settings origin moment names goodbye (newer ++ older) ssrc owner (owner_stays newer older before),
        all_of_one newer older before,
      )
  all_of_one (check_made moment silent ∷ newer) older keeps =
      all_of_one newer older (keeps_before (check_made moment silent) newer older keeps)
  all_of_one (source_expected other origin moment ∷ newer) older keeps =
      all_of_one newer older (keeps_before (source_expected other origin moment) newer older keeps)
  all_of_one (origin_trusted origin ∷ newer) older keeps =
      all_of_one newer older (keeps_before (origin_trusted origin) newer older keeps)

  -- ---- What others say

  -- what verdicts go by: all but what was held back
  abbrev core : GuardValue → GuardValue
  core guard = record guard { held_back = nothing_held_back }

  core_after : (step : GuardStep) (guard : GuardValue) → core (after step guard) ≡ core (after step (core guard))
  core_after (datagram_came origin moment names goodbye) guard = refl
  core_after (check_made moment silent) guard = refl
  core_after (source_expected other origin moment) guard =
      elim (may_have other origin moment guard) as (λ b. core (cond b (record guard {
        claims = with_name origin moment other guard.claims;
      }) guard) ≡ core (cond b (record (core guard) {
        claims = with_name origin moment other guard.claims;
      }) (core guard))) [
        | true ↦ refl
        | false ↦ refl
      ]
  core_after (origin_trusted origin) guard = refl

  -- what others say of the source is not passed on
  held_back : (origin moment : ℕ) (names : List ℕ) (goodbye : Option ℕ) (earlier : List GuardStep) →
      owner_of settings ssrc earlier ≡ Some owner → not (origin == owner) && is_named ssrc names ≡ true →
      is_passed settings origin moment names goodbye earlier ≡ false
  held_back origin moment names goodbye earlier owns others =
      let parts = both (not (origin == owner)) (is_named ssrc names) others in
      elim (is_passed settings origin moment names goodbye earlier) as (λ b. is_passed settings origin moment names
      goodbye earlier
      ≡ b → b ≡ false) [
        | true ↦ λ passes.
            let same : origin ≡ owner = passed_is_own settings origin moment names goodbye earlier ssrc owner owns
            parts.1
            passes in
            let is : origin == owner ≡ true = grind (arith, nat_tests, same) in
            absurd (never (sym (ap not is) ∙ parts.0))
        | false ↦ λ e. refl
      ] refl
    where
      never : false ≡ true → ⊥
      never e = cc

  names_held : (origin moment : ℕ) (names : List ℕ) (goodbye : Option ℕ) (v : Verdict) (claims : List Claim) →
      is_pass v ≡ false →
      after_names origin moment names goodbye v claims ≡ claims
  names_held origin moment names goodbye Pass claims e = absurd cc
  names_held origin moment names goodbye Stranger claims e = refl
  names_held origin moment names goodbye Crowd claims e = refl

  -- so it changes nothing that verdicts go by
  others_change_nothing : (step : GuardStep) (earlier : List GuardStep) → owner_of settings ssrc earlier ≡ Some owner →
      is_others ssrc owner step ≡ true →
      core (after step (guard_after settings earlier)) ≡ core (guard_after settings earlier)
  others_change_nothing (datagram_came origin moment names goodbye) earlier owns others =
      ap (λ (claims : List Claim). record (guard_after settings earlier) {
        claims = claims;
        held_back =
            nothing_held_back;
      })
      (names_held origin moment names goodbye (verdict_on origin moment names goodbye (guard_after settings earlier))
      (guard_after settings earlier).claims (held_back origin moment names goodbye earlier owns others))
  others_change_nothing (check_made moment silent) earlier owns others = absurd cc
  others_change_nothing (source_expected other origin moment) earlier owns others = absurd cc
  others_change_nothing (origin_trusted origin) earlier owns others = absurd cc

  same_core : (newer older : List GuardStep) → Keeps settings ssrc owner newer older →
      core (guard_after settings (newer ++ older)) ≡ core (guard_after settings (without ssrc owner newer ++ older))
  same_core [] older keeps = refl
  same_core (step ∷ newer) older keeps =
      let before = keeps_before step newer older keeps in
      let so = same_core newer older before in
      elim (is_others ssrc owner step) as (λ b. is_others ssrc owner step ≡ b →
      core (after step (guard_after settings (newer ++ older)))
      ≡ core (guard_after settings (cond b (without ssrc owner newer) (step ∷ without ssrc owner newer) ++ older))) [
        | true ↦ λ e. others_change_nothing step (newer ++ older) (owner_stays newer older before) e ∙ so
        | false ↦ λ e. core_after step (guard_after settings (newer ++ older))
            ∙ ap (λ guard. core (after step guard)) so
            ∙ sym (core_after step (guard_after settings (without ssrc owner newer ++ older)))
      ] refl

  not_passed : (step : GuardStep) (earlier passed : List GuardStep) → owner_of settings ssrc earlier ≡ Some owner →
      is_others ssrc owner step ≡ true → if_passed settings ssrc step earlier passed ≡ passed
  not_passed (datagram_came origin moment names goodbye) earlier passed owns others =
      ap (λ b. cond (is_named ssrc names && b) (datagram_came origin moment names goodbye ∷ passed) passed)
      (held_back origin moment names goodbye earlier owns others)
      ∙ neither (is_named ssrc names)
    where
      neither : (b : Bool) → cond (b && false) (datagram_came origin moment names goodbye ∷ passed) passed ≡ passed
      neither true = refl
      neither false = refl
  not_passed (check_made moment silent) earlier passed owns others = refl
  not_passed (source_expected other origin moment) earlier passed owns others = refl
  not_passed (origin_trusted origin) earlier passed owns others = refl

  same_passed : (step : GuardStep) (earlier other passed : List GuardStep) →
      core (guard_after settings earlier) ≡ core (guard_after settings other) →
      if_passed settings ssrc step earlier passed ≡ if_passed settings ssrc step other passed
  same_passed (datagram_came origin moment names goodbye) earlier other passed same =
      ap (λ guard. cond (is_named ssrc names && is_pass (verdict_on origin moment names goodbye guard))
      (datagram_came origin moment names goodbye ∷ passed) passed) same
  same_passed (check_made moment silent) earlier other passed same = refl
  same_passed (source_expected it origin moment) earlier other passed same = refl
  same_passed (origin_trusted origin) earlier other passed same = refl

  pub passed_without : (newer older : List GuardStep) → Keeps settings ssrc owner newer older →
      passed_about settings ssrc newer older ≡ passed_about settings ssrc (without ssrc owner newer) older
  passed_without [] older keeps = refl
  passed_without (step ∷ newer) older keeps =
      let before = keeps_before step newer older keeps in
      let so = passed_without newer older before in
      elim (is_others ssrc owner step) as (λ b. is_others ssrc owner step ≡ b →
      if_passed settings ssrc step (newer ++ older) (passed_about settings ssrc newer older)
      ≡ passed_about settings ssrc (cond b (without ssrc owner newer) (step ∷ without ssrc owner newer)) older) [
        | true ↦ λ e. not_passed step (newer ++ older) (passed_about settings ssrc newer older)
            (owner_stays newer older before) e ∙ so
        | false ↦ λ e. same_passed step (newer ++ older) (without ssrc owner newer ++ older)
            (passed_about settings ssrc newer older) (same_core newer older before)
            ∙ ap (if_passed settings ssrc step (without ssrc owner newer ++ older)) so
      ] refl

  pub not_interfering : (one another older : List GuardStep) → Keeps settings ssrc owner one older →
      Keeps settings ssrc owner another older → without ssrc owner one ≡ without ssrc owner another →
      passed_about settings ssrc one older ≡ passed_about settings ssrc another older
  not_interfering one another older keeps keeps_too same =
      passed_without one older keeps ∙ ap (λ steps. passed_about settings ssrc steps older) same
      ∙ sym (passed_without another older keeps_too)
