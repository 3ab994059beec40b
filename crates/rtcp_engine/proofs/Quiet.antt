-- A check that surely changes nothing is not made: what was so stays so.
use Rattle.std.proofs.Common.{◌≡◌, ℕ, ◌≤◌, ◌==◌, ◌∙◌, Bool, false, Option, Some, None, refl, sym, ap, subst, arith}
use Rattle.std.proofs.lemmas.Bool.Decides.{nat_tests}
use Rattle.rtcp_members.specs.Roles.{counts_differ}
use Rattle.rtcp_members.specs.Tables.{TableValue, after_check}
use Rattle.rtcp_timer.specs.declared.load.Load.{Load}
use Rattle.rtcp_timer.specs.Loads.{minimum_of}
use Rattle.rtcp_timer.proofs.LawLemmas.{interval_has_minimum}
use Rattle.rtcp_engine.specs.declared.pace.Pace.{Pace}
use Rattle.rtcp_engine.specs.answers.Outcomes.{Outcome, check_interval, check_load, newest_pace, receiver_load, slowed_by}
use Rattle.rtcp_engine.specs.answers.Ticks.{horizons_of, with_check, without_silent}
use Rattle.rtcp_engine.specs.state.States.{Agrees, Does, IsQuiet, MovesOthers, State, KeepsCapacity}
use Rattle.rtcp_engine.proofs.RolesChanged.{check_since}
use Rattle.rtcp_engine.proofs.StepLemmas.{checks_agree}

-- ---- The interval of a check is no less than the minimum

slowed_initial : (t : ℕ) (pace : Option Pace) (load : Load) → (slowed_by t pace load).initial ≡ load.initial
slowed_initial t None load = refl
slowed_initial t (Some pace) load = grind (arith, nat_tests)

least : (s : State) (outcome : Outcome) → Agrees s outcome →
    minimum_of (s.reports == 0) ≤ check_interval s.setup s.latest outcome
least s outcome agrees =
    let load = check_load s.setup s.latest outcome in
    subst (λ (initial : Bool). minimum_of initial ≤ check_interval s.setup s.latest outcome)
    (slowed_initial s.latest (newest_pace outcome.paces) (receiver_load s.setup outcome)
    ∙ sym (ap (λ (n : ℕ). n == 0) agrees.still.reports))
    (interval_has_minimum load)

-- ---- What was so stays so

unmoved : (s : State) (outcome : Outcome) → IsQuiet s → Agrees s outcome →
    after_check (horizons_of s.latest (check_interval s.setup s.latest outcome)) s.table ≡ s.table
unmoved s outcome quiet agrees = quiet.table (check_interval s.setup s.latest outcome) (least s outcome agrees)

quiet_agrees : (s : State) (outcome : Outcome) → IsQuiet s → Agrees s outcome →
    Agrees s (without_silent s.setup s.latest outcome)
quiet_agrees s outcome quiet agrees =
    let td = check_interval s.setup s.latest outcome in
    subst (λ (x : TableValue). Agrees (record s { table = x }) (with_check (horizons_of s.latest td) outcome))
    (unmoved s outcome quiet agrees)
    (checks_agree s outcome (horizons_of s.latest td) s.own (quiet.own td (least s outcome agrees)) agrees)

pub quiet_does : (s : State) → IsQuiet s → KeepsCapacity s → Does s s (λ setup. without_silent setup s.latest)
quiet_does s quiet within = record {
  stays = record { setup = refl; latest = refl; calls = refl };
  within = within;
  follows = λ outcome agrees. quiet_agrees s outcome quiet agrees;
}

same_counts : (table : TableValue) → counts_differ table table ≡ false
same_counts table = grind (arith, nat_tests)

pub quiet_moves : (s : State) → IsQuiet s → MovesOthers s false (λ setup. without_silent setup s.latest)
quiet_moves s quiet outcome agrees =
    let horizons = horizons_of s.latest (check_interval s.setup s.latest outcome) in
    sym (ap (counts_differ s.table) (unmoved s outcome quiet agrees) ∙ same_counts s.table)
    ∙ check_since s outcome horizons agrees
