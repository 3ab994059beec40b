-- A source that is present is claimed.
use Rattle.std.proofs.Common.{◌≡◌, ◌<◌, ◌≤◌, ◌==◌, ◌&&◌, ◌||◌, ◌-◌, ℕ, min, nat_lt, nat_le, not, Bool, true, false, cond, List, [], ◌∷◌, if◌then◌else◌, Option, Some, None, is_some, arith, refl, sym, ap, subst, ◌∙◌}
use Rattle.std.proofs.lemmas.Bool.{eqb-true}
use Rattle.std.proofs.lemmas.Bool.Decides.{nat_tests}
use Rattle.rtcp_wire.specs.declared.fact.Fact.{Fact}
use Rattle.rtcp_wire.specs.Facts.{subject, is_gone}
use Rattle.rtcp_members.specs.Traces.{Horizons, TraceStep, fact_came, check_made, block_made_of, source_forgotten, is_naming, names, with_facts}
use Rattle.rtcp_members.specs.Stays.{mark_at, mark_of, before_mark, step_moment, last_naming, last_sighting, is_before, ends_stay, present_among, stay_with, stay_of}
use Rattle.rtcp_members.proofs.StepByStep.{mark_after}
use Rattle.rtcp_guard.specs.declared.settings.Settings.{Settings}
use Rattle.rtcp_guard.specs.Claims.{Claim, claim_after, claim_leaving, is_named}
use Rattle.rtcp_guard.specs.Guarding.{before_which, may_have}
use Rattle.rtcp_guard.specs.Histories.{guard_after, is_passed, unless_lapsed, claim_of}
use Rattle.rtcp_guard_laws.specs.Together.{JointStep, arrived, checked, reported, forgotten, expected, trusted, trace_of, steps_of, latest, AreNamed, IsInOrder}

-- ---- The last sighting

unmarked_before : (ssrc : ℕ) (stay : List TraceStep) → mark_of ssrc stay ≡ None → before_mark ssrc stay ≡ stay
unmarked_before ssrc [] none = refl
unmarked_before ssrc (step ∷ earlier) none =
    ap (λ (m : Option ℕ). cond (is_some m) (before_mark ssrc earlier) (step ∷ earlier)) none

still_unmarked : (ssrc : ℕ) (step : TraceStep) (mark : Option ℕ) → is_some (mark_at ssrc step mark) ≡ false →
    mark ≡ None
still_unmarked ssrc step (Some mark) none = absurd cc
still_unmarked ssrc step None none = refl

sighted : (ssrc b : ℕ) (step : TraceStep) (earlier : List TraceStep) →
    (is_naming ssrc step ≡ true → step_moment step ≤ b) → last_sighting ssrc earlier ≤ b →
    last_sighting ssrc (step ∷ earlier) ≤ b
sighted ssrc b step earlier by before =
    elim (is_some (mark_of ssrc (step ∷ earlier))) as (λ m. is_some (mark_of ssrc (step ∷ earlier)) ≡ m →
    last_naming ssrc (cond m (before_mark ssrc earlier) (step ∷ earlier)) ≤ b) [
      | true ↦ λ marked. before
      | false ↦ λ unmarked.
          let whole : before_mark ssrc earlier ≡ earlier = unmarked_before ssrc earlier
          (still_unmarked ssrc step (mark_of ssrc earlier)
          (ap (λ (m : Option ℕ). is_some m) (sym (mark_after ssrc step earlier)) ∙ unmarked)) in
          let named : last_naming ssrc earlier ≤ b = subst (λ (stay : List TraceStep). last_naming ssrc stay ≤ b) whole
          before in
          elim (is_naming ssrc step) as (λ n. is_naming ssrc step ≡ n →
          cond n (step_moment step) (last_naming ssrc earlier) ≤ b) [
            | true ↦ λ e. by e
            | false ↦ λ e. named
          ] refl
    ] refl

-- ---- One step of a stay

module _ (capacity ssrc : ℕ) where
  abbrev Sees : (b : ℕ) → Option (List TraceStep) → Type 0
  Sees b o = (stay : List TraceStep) → o ≡ Some stay → last_sighting ssrc stay ≤ b

  sees_step : (b : ℕ) (step : TraceStep) (named : List ℕ) (others : ℕ → Option (List TraceStep))
      (o : Option (List TraceStep)) → (is_naming ssrc step ≡ true → step_moment step ≤ b) → Sees b o →
      Sees b (stay_with capacity step named others ssrc o)
  sees_step b step named others None by before stay is =
      elim (is_naming ssrc step) as (λ n. is_naming ssrc step ≡ n → (elim n [
        | false ↦ None
        | true ↦ if nat_lt (present_among named others) capacity then Some (step ∷ []) else None
      ]) ≡ Some stay → last_sighting ssrc stay ≤ b) [
        | true ↦ λ e is. elim (nat_lt (present_among named others) capacity) as (λ r.
            cond r (Some (step ∷ [])) None ≡ Some stay → last_sighting ssrc stay ≤ b) [
              | true ↦ λ is.
                  let same : step ∷ [] ≡ stay = cc in
                  let first : last_sighting ssrc (step ∷ []) ≤ b = sighted ssrc b step [] by (omega arith) in
                  subst (λ (s : List TraceStep). last_sighting ssrc s ≤ b) same first
              | false ↦ λ is. absurd cc
            ] is
        | false ↦ λ e is. absurd cc
      ] refl is
  sees_step b step named others (Some old) by before stay is =
      elim (ends_stay ssrc step old) as (λ e. cond e None (Some (step ∷ old)) ≡ Some stay →
      last_sighting ssrc stay ≤ b) [
        | true ↦ λ is. absurd cc
        | false ↦ λ is.
            let same : step ∷ old ≡ stay = cc in
            let first : last_sighting ssrc (step ∷ old) ≤ b = sighted ssrc b step old by (before old refl) in
            subst (λ (s : List TraceStep). last_sighting ssrc s ≤ b) same first
      ] is

  absent_step : (step : TraceStep) (named : List ℕ) (others : ℕ → Option (List TraceStep))
      (o : Option (List TraceStep)) → is_naming ssrc step ≡ false → o ≡ None →
      stay_with capacity step named others ssrc o ≡ None
  absent_step step named others None quiet none = ap (λ (n : Bool). elim n [
    | false ↦ None
    | true ↦ if nat_lt (present_among named others) capacity then Some (step ∷ []) else None
  ]) quiet
  absent_step step named others (Some stay) quiet none = absurd cc

  -- ---- A datagram

  sees_facts : (b moment : ℕ) (facts : List Fact) (trace : List TraceStep) → moment ≤ b →
      Sees b (stay_of capacity trace ssrc) → Sees b (stay_of capacity (with_facts facts moment trace) ssrc)
  sees_facts b moment [] trace past before = before
  sees_facts b moment (fact ∷ facts) trace past before =
      sees_facts b moment facts (fact_came fact moment ∷ trace) past
      (sees_step b (fact_came fact moment) (names trace) (stay_of capacity trace) (stay_of capacity trace ssrc)
      (λ _. past) before)

  abbrev AreOther : List Fact → Type 0
  AreOther [] = Unit {0}
  AreOther (fact ∷ rest) = (subject fact == ssrc ≡ false) × AreOther rest

  and_false : (b c : Bool) → c ≡ false → b && c ≡ false
  and_false true c e = e
  and_false false c e = refl

  -- facts of others change no sighting
  sees_others : (b moment : ℕ) (facts : List Fact) (trace : List TraceStep) → AreOther facts →
      Sees b (stay_of capacity trace ssrc) → Sees b (stay_of capacity (with_facts facts moment trace) ssrc)
  sees_others b moment [] trace other before = before
  sees_others b moment (fact ∷ facts) trace other before =
      let quiet : is_naming ssrc (fact_came fact moment) ≡ false =
      and_false (not (is_gone fact)) (subject fact == ssrc) other.0 in
      sees_others b moment facts (fact_came fact moment ∷ trace) other.1
      (sees_step b (fact_came fact moment) (names trace) (stay_of capacity trace) (stay_of capacity trace ssrc)
      (λ is. absurd (let no : true ≡ false = sym is ∙ quiet in cc)) before)

  absent_others : (moment : ℕ) (facts : List Fact) (trace : List TraceStep) → AreOther facts →
      stay_of capacity trace ssrc ≡ None → stay_of capacity (with_facts facts moment trace) ssrc ≡ None
  absent_others moment [] trace other none = none
  absent_others moment (fact ∷ facts) trace other none =
      absent_others moment facts (fact_came fact moment ∷ trace) other.1
      (absent_step (fact_came fact moment) (names trace) (stay_of capacity trace) (stay_of capacity trace ssrc)
      (and_false (not (is_gone fact)) (subject fact == ssrc) other.0) none)

  unnamed_are_other : (named : List ℕ) (facts : List Fact) → is_named ssrc named ≡ false → AreNamed named facts →
      AreOther facts
  unnamed_are_other named [] unnamed all = tt
  unnamed_are_other named (fact ∷ rest) unnamed all = (
    elim (subject fact == ssrc) as (λ s. subject fact == ssrc ≡ s → s ≡ false) [
      | true ↦ λ e. absurd (let no : true ≡ false = sym all.0
          ∙ ap (λ (s : ℕ). is_named s named) (eqb-true (subject fact) ssrc e) ∙ unnamed in cc)
      | false ↦ λ e. refl
    ] refl,
    unnamed_are_other named rest unnamed all.1,
  )

  -- ---- A check

  removed_late : (horizons : Horizons) (b : ℕ) (named : List ℕ) (others : ℕ → Option (List TraceStep))
      (o : Option (List TraceStep)) → b < horizons.silent → Sees b o →
      stay_with capacity (check_made horizons) named others ssrc o ≡ None
  removed_late horizons b named others None late before = refl
  removed_late horizons b named others (Some old) late before =
      let seen : last_sighting ssrc old ≤ b = before old refl in
      let silent : nat_lt (last_sighting ssrc old) horizons.silent ≡ true = grind (arith, nat_tests, late, seen) in
      ap (λ (s : Bool). cond (s || is_before (mark_of ssrc old) horizons.gone) None (Some (check_made horizons ∷ old)))
      silent

  -- ---- All steps

  -- the claim of an origin that names the source at a moment, with so many goodbyes
  abbrev claim_at : (origin moment goodbyes : ℕ) → Claim
  claim_at origin moment goodbyes =
      record { ssrc = ssrc; origin = origin; last = moment; goodbyes = goodbyes }

  abbrev Goes : (now : ℕ) → Option Claim → Option (List TraceStep) → Type 0
  Goes now None o = o ≡ None
  Goes now (Some claim) o = (claim.last ≤ now) × Sees claim.last o

  weaker : (now later : ℕ) (claim : Option Claim) (o : Option (List TraceStep)) → now ≤ later → Goes now claim o →
      Sees later o
  weaker now later None o past goes stay is = absurd (let no : None ≡ Some stay = sym goes ∙ is in cc)
  weaker now later (Some claim) o past goes stay is =
      let seen = goes.1 stay is in let by = goes.0 in omega arith

  goes_told : (origin moment goodbyes now : ℕ) (named : List ℕ) (facts : List Fact) (trace : List TraceStep)
      (claim : Option Claim) → now ≤ moment → AreNamed named facts → Goes now claim (stay_of capacity trace ssrc) →
      Goes moment (cond (is_named ssrc named && true) (Some (claim_at origin moment goodbyes)) claim)
      (stay_of capacity (with_facts facts moment trace) ssrc)
  goes_told origin moment goodbyes now named facts trace claim past all goes =
      elim (is_named ssrc named) as (λ n. is_named ssrc named ≡ n →
      Goes moment (cond (n && true) (Some (claim_at origin moment goodbyes)) claim)
      (stay_of capacity (with_facts facts moment trace) ssrc)) [
        | true ↦ λ e. (
          omega arith,
          sees_facts moment moment facts trace (omega arith)
              (weaker now moment claim (stay_of capacity trace ssrc) past goes),
        )
        | false ↦ λ e. unnamed (unnamed_are_other named facts e all) claim goes
      ] refl
    where
      unnamed : AreOther facts → (claim : Option Claim) → Goes now claim (stay_of capacity trace ssrc) →
          Goes moment claim (stay_of capacity (with_facts facts moment trace) ssrc)
      unnamed other None goes = absent_others moment facts trace other goes
      unnamed other (Some claim) goes =
          (let by = goes.0 in omega arith, sees_others claim.last moment facts trace other goes.1)

  -- what is not passed on changes nothing
  goes_held : (origin moment goodbyes now : ℕ) (named : List ℕ) (claim : Option Claim) (o : Option (List TraceStep)) →
      now ≤ moment → Goes now claim o →
      Goes moment (cond (is_named ssrc named && false) (Some (claim_at origin moment goodbyes)) claim) o
  goes_held origin moment goodbyes now named claim o past goes =
      elim (is_named ssrc named) as (λ n. Goes moment (cond (n && false) (Some (claim_at origin moment goodbyes)) claim)
      o) [
        | true ↦ later now moment claim o past goes
        | false ↦ later now moment claim o past goes
      ]
    where
      later : (now moment : ℕ) (claim : Option Claim) (o : Option (List TraceStep)) → now ≤ moment → Goes now claim o →
          Goes moment claim o
      later now moment None o past goes = goes
      later now moment (Some claim) o past goes = (let by = goes.0 in omega (arith, by, past), goes.1)

  goes_arrived : (passes : Bool) (origin moment goodbyes now : ℕ) (named : List ℕ) (facts : List Fact)
      (trace : List TraceStep)
      (claim : Option Claim) → now ≤ moment → AreNamed named facts → Goes now claim (stay_of capacity trace ssrc) →
      Goes moment (cond (is_named ssrc named && passes) (Some (claim_at origin moment goodbyes)) claim)
      (stay_of capacity (cond passes (with_facts facts moment trace) trace) ssrc)
  goes_arrived true origin moment goodbyes now named facts trace claim past all goes =
      goes_told origin moment goodbyes now named facts trace claim past all goes
  goes_arrived false origin moment goodbyes now named facts trace claim past all goes =
      goes_held origin moment goodbyes now named claim (stay_of capacity trace ssrc) past goes

  goes_expected : (is : Bool) (origin moment goodbyes now : ℕ) (claim : Option Claim) (o : Option (List TraceStep)) →
      now ≤ moment → Goes now claim o → Goes moment (cond is (Some (claim_at origin moment goodbyes)) claim) o
  goes_expected true origin moment goodbyes now claim o past goes = (omega arith, weaker now moment claim o past goes)
  goes_expected false origin moment goodbyes now None o past goes = goes
  goes_expected false origin moment goodbyes now (Some claim) o past goes =
      (let by = goes.0 in omega (arith, by, past), goes.1)

  quiet_check : (horizons : Horizons) (b : ℕ) → is_naming ssrc (check_made horizons) ≡ true →
      step_moment (check_made horizons) ≤ b
  quiet_check horizons b e = absurd cc

  goes_checked : (horizons : Horizons) (before now : ℕ) (trace : List TraceStep) (claim : Option Claim) →
      before ≤ horizons.silent → Goes now claim (stay_of capacity trace ssrc) →
      Goes now (unless_lapsed before claim) (stay_of capacity (check_made horizons ∷ trace) ssrc)
  goes_checked horizons before now trace None order goes =
      absent_step (check_made horizons) (names trace) (stay_of capacity trace) (stay_of capacity trace ssrc) refl goes
  goes_checked horizons before now trace (Some claim) order goes =
      elim (nat_le before claim.last) as (λ k. nat_le before claim.last ≡ k →
      Goes now (cond k (Some claim) None) (stay_of capacity (check_made horizons ∷ trace) ssrc)) [
        | true ↦ λ e. (
          goes.0,
          sees_step claim.last (check_made horizons) (names trace) (stay_of capacity trace)
              (stay_of capacity trace ssrc) (quiet_check horizons claim.last) goes.1,
        )
        | false ↦ λ e.
            let late : claim.last < horizons.silent = grind (arith, nat_tests, e, order) in
            removed_late horizons claim.last (names trace) (stay_of capacity trace) (stay_of capacity trace ssrc) late
            goes.1
      ] refl

  goes_quietly : (step : TraceStep) (now : ℕ) (trace : List TraceStep) (claim : Option Claim) →
      is_naming ssrc step ≡ false → Goes now claim (stay_of capacity trace ssrc) →
      Goes now claim (stay_of capacity (step ∷ trace) ssrc)
  goes_quietly step now trace None quiet goes =
      absent_step step (names trace) (stay_of capacity trace) (stay_of capacity trace ssrc) quiet goes
  goes_quietly step now trace (Some claim) quiet goes = (
    goes.0,
    sees_step claim.last step (names trace) (stay_of capacity trace) (stay_of capacity trace ssrc)
        (λ is. absurd (let no : true ≡ false = sym is ∙ quiet in cc)) goes.1,
  )

  goes_on : (settings : Settings) (joint : List JointStep) → IsInOrder joint →
      Goes (latest joint) (claim_of settings ssrc (steps_of joint)) (stay_of capacity (trace_of settings joint) ssrc)
  goes_on settings [] order = refl
  goes_on settings (arrived origin moment named goodbye facts ∷ earlier) order =
      let next : Claim = claim_leaving goodbye
      (claim_after origin moment ssrc (claim_of settings ssrc (steps_of earlier))) in
      goes_arrived (is_passed settings origin moment named goodbye (steps_of earlier)) origin moment next.goodbyes
      (latest earlier) named facts
      (trace_of settings earlier) (claim_of settings ssrc (steps_of earlier)) order.0 order.1.0
      (goes_on settings earlier order.1.1)
  goes_on settings (checked horizons moment silent ∷ earlier) order =
      let by = order.0 in
      goes_checked horizons (before_which moment silent settings) (latest earlier) (trace_of settings earlier)
      (claim_of settings ssrc (steps_of earlier)) (omega (arith, by)) (goes_on settings earlier order.1)
  goes_on settings (reported other ∷ earlier) order =
      goes_quietly (block_made_of other) (latest earlier) (trace_of settings earlier)
      (claim_of settings ssrc (steps_of earlier)) refl (goes_on settings earlier order)
  goes_on settings (forgotten other ∷ earlier) order =
      goes_quietly (source_forgotten other) (latest earlier) (trace_of settings earlier)
      (claim_of settings ssrc (steps_of earlier)) refl (goes_on settings earlier order)
  goes_on settings (expected other origin moment ∷ earlier) order =
      goes_expected (other == ssrc && may_have other origin moment (guard_after settings (steps_of earlier))) origin
      moment (claim_after origin moment ssrc (claim_of settings ssrc (steps_of earlier))).goodbyes
      (latest earlier) (claim_of settings ssrc (steps_of earlier)) (stay_of capacity (trace_of settings earlier) ssrc)
      order.0 (goes_on settings earlier order.1)
  goes_on settings (trusted origin ∷ earlier) order = goes_on settings earlier order

  there : (now : ℕ) (claim : Option Claim) (o : Option (List TraceStep)) (stay : List TraceStep) → Goes now claim o →
      o ≡ Some stay → is_some claim ≡ true
  there now None o stay goes is = absurd (let no : None ≡ Some stay = sym goes ∙ is in cc)
  there now (Some claim) o stay goes is = refl

pub present_is_claimed : (settings : Settings) (capacity ssrc : ℕ) (joint : List JointStep) (stay : List TraceStep) →
    IsInOrder joint → stay_of capacity (trace_of settings joint) ssrc ≡ Some stay →
    is_some (claim_of settings ssrc (steps_of joint)) ≡ true
present_is_claimed settings capacity ssrc joint stay order is =
    there capacity ssrc (latest joint) (claim_of settings ssrc (steps_of joint))
    (stay_of capacity (trace_of settings joint) ssrc) stay (goes_on capacity ssrc settings joint order) is
