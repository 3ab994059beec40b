-- Former paces end: the newest one counts until the latest end of all changes of bandwidths.
use Rattle.std.proofs.Common.{◌≡◌, ℕ, ◌+◌, ◌-◌, ◌*◌, ◌<◌, ◌≤◌, ◌||◌, max, Bool, true, false, List, [], ◌∷◌, Option, Some, None, if◌then◌else◌, refl, sym, ap, ◌∙◌, subst, arith}
use Rattle.std.proofs.lemmas.Bool.{lt-ltb}
use Rattle.rtcp_members.specs.Stays.{is_before, is_removed}
use Rattle.rtcp_timer.specs.Loads.{interval_of}
use Rattle.rtcp_engine.specs.declared.pace.Pace.{Pace}
use Rattle.rtcp_engine.specs.answers.Setups.{Setup, SettingsValue, keeps_bandwidths}
use Rattle.rtcp_engine.specs.answers.Acts.{Act, configured}
use Rattle.rtcp_engine.specs.answers.Outcomes.{Outcome, check_interval, end_at, end_of, newest_pace, pace_at, receiver_interval_at, receiver_load, slowed_by, with_pace}
use Rattle.rtcp_engine.specs.answers.Ticks.{horizons_of}
use Rattle.rtcp_engine.specs.answers.Changes.{change_by, changed_by}
use Rattle.rtcp_engine.specs.answers.Histories.{History, life_at, session_of, setup_at}
use Rattle.rtcp_engine.specs.answers.Leaving.{Life, present}
use Rattle.rtcp_engine.specs.bounds.Pacing.{end_by, end_while_present, last_end}
use Rattle.rtcp_engine.proofs.Pacing.{InPaces, changed_paces, in_paces_on, paces_by, present_alone}

pub same_pace : (setup : Setup) (settings : SettingsValue) (t : ℕ) (outcome : Outcome) →
    keeps_bandwidths settings setup ≡ true → with_pace setup settings t outcome ≡ outcome
same_pace setup settings t outcome same =
    ap (λ (b : Bool). record outcome { paces = if b then outcome.paces else pace_at setup t outcome ∷ outcome.paces })
    same

pub end_stays : (setup : Setup) (settings : SettingsValue) (t before : ℕ) (life : Life) →
    keeps_bandwidths settings setup ≡ true → end_by setup (configured t settings) life before ≡ before
end_stays setup settings t before (present outcome) same =
    ap (λ (b : Bool). if b then before else max before (end_at setup t outcome)) same
end_stays setup settings t before life same = refl

-- the newest pace ends then
abbrev EndAt : ℕ → List Pace → Type 0
EndAt end paces = end_of (newest_pace paces) ≡ end

ends_on : (setup : Setup) (act : Act) (outcome : Outcome) (before : ℕ) → EndAt before outcome.paces →
    EndAt (end_while_present setup act outcome before) (paces_by setup act outcome)
ends_on setup (configured t settings) outcome before is =
    elim (keeps_bandwidths settings setup)
    as (λ b. EndAt (if b then before else max before (end_at setup t outcome))
    (if b then outcome.paces else pace_at setup t outcome ∷ outcome.paces)) [
      | true ↦ is
      | false ↦ ap (λ (n : ℕ). max n (end_at setup t outcome)) is
    ]
ends_on setup act outcome before is = is

session_ends : (setup : Setup) (word : ℕ) (acts : List Act) →
    InPaces (EndAt (last_end setup word acts)) (session_of setup word acts).life
session_ends setup word [] = refl
session_ends setup word (act ∷ earlier) =
    let before = session_of setup word earlier in
    let change = change_by before act in
    let now = changed_by change before in
    let end = last_end setup word earlier in
    let ended = changed_paces (EndAt end) before change (session_ends setup word earlier) in
    in_paces_on (EndAt (end_by now.setup act now.life end)) now.setup act now.life (λ outcome is.
    subst (λ (life : Life). EndAt (end_by now.setup act life end) (paces_by now.setup act outcome)) (sym is)
    (ends_on now.setup act outcome end (subst (InPaces (EndAt end)) is ended)))

pub end_of_session : (history : History) (outcome : Outcome) → life_at history ≡ present outcome →
    end_of (newest_pace outcome.paces) ≡ last_end history.setup history.word history.acts
end_of_session history outcome life =
    subst (InPaces (EndAt (last_end history.setup history.word history.acts))) life
    (session_ends history.setup history.word history.acts)

alone_by : (setup : Setup) (t : ℕ) (outcome : Outcome) (pace : Option Pace) → newest_pace outcome.paces ≡ pace →
    end_of pace ≤ t → check_interval setup t outcome ≡ receiver_interval_at setup outcome
alone_by setup t outcome None is late =
    ap (λ (pace : Option Pace). interval_of (slowed_by t pace (receiver_load setup outcome))) is
alone_by setup t outcome (Some pace) is late = present_alone setup t outcome pace is late

-- From the latest end on, a check goes by the present settings alone,
pub alone_after : (history : History) (outcome : Outcome) (t : ℕ) → life_at history ≡ present outcome →
    last_end history.setup history.word history.acts ≤ t →
    check_interval (setup_at history) t outcome ≡ receiver_interval_at (setup_at history) outcome
alone_after history outcome t life late =
    alone_by (setup_at history) t outcome (newest_pace outcome.paces) refl
    (omega (arith, late, end_of_session history outcome life))

-- and drops whoever was silent for longer than five intervals by them.
pub dropped_after : (history : History) (outcome : Outcome) (t sighting : ℕ) (mark : Option ℕ) →
    life_at history ≡ present outcome → last_end history.setup history.word history.acts ≤ t →
    sighting + 5 * receiver_interval_at (setup_at history) outcome < t →
    is_removed (horizons_of t (check_interval (setup_at history) t outcome)) sighting mark ≡ true
dropped_after history outcome t sighting mark life late silent =
    let interval = receiver_interval_at (setup_at history) outcome in
    ap (λ (n : ℕ). is_removed (horizons_of t n) sighting mark) (alone_after history outcome t life late)
    ∙ ap (λ (b : Bool). b || is_before mark (t + 1 - 5000000))
    (lt-ltb sighting (t - 5 * interval) (omega (arith, silent)))
