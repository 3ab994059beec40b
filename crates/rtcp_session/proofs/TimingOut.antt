-- Whom a tick times out was silent for more than five intervals, each of which is as long as the minimum.
use Rattle.std.proofs.Common.{◌≡◌, ℕ, ◌+◌, ◌*◌, ◌<◌, ◌≤◌, not, nat_lt, max, min, Bool, true, false, Option, Some, None, if◌then◌else◌, refl, sym, ap, ◌∙◌, arith, subst}
use Rattle.std.proofs.lemmas.Bool.{le-ltb, ltb-true}
use Rattle.rtcp_members.specs.Stays.{last_naming}
use Rattle.rtcp_timer.specs.declared.load.Load.{Load}
use Rattle.rtcp_timer.specs.Loads.{interval_of, minimum_of}
use Rattle.rtcp_engine.specs.declared.pace.Pace.{Pace}
use Rattle.rtcp_engine.specs.answers.Setups.{Setup}
use Rattle.rtcp_engine.specs.answers.Acts.{ticked}
use Rattle.rtcp_engine.specs.answers.Outcomes.{Outcome, check_interval, check_load, newest_pace, receiver_load, slowed_by}
use Rattle.rtcp_engine.specs.answers.Ticks.{checked}
use Rattle.rtcp_engine.specs.answers.Leaving.{present}
use Rattle.rtcp_engine.specs.bounds.InTime.{is_fall}
use Rattle.rtcp_session.specs.Departures.{IsTimedOut, is_member_of, is_silent, least_silence}
use Rattle.rtcp_session.proofs.Departed.{checked_unless_silent, falls_are_by_departures, who_departs}

-- ---- The least that five intervals come to

slowed_stays_initial : (t : ℕ) (pace : Option Pace) (load : Load) → (slowed_by t pace load).initial ≡ load.initial
slowed_stays_initial t None load = refl
slowed_stays_initial t (Some pace) load = by (nat_lt t pace.until)
  where
    by : (slowed : Bool) → (let now : Load = (if slowed then record load {
      sender_bw = min load.sender_bw pace.sender_bw;
      receiver_bw = min load.receiver_bw pace.receiver_bw;
    } else load) in now.initial ≡ load.initial)
    by true = refl
    by false = refl

five_minimums : (initial : Bool) (share : ℕ) →
    (if initial then 12500000 else 25000000) ≤ 5 * max (minimum_of initial) share
five_minimums true share = omega arith
five_minimums false share = omega arith

pub silence_is_long : (setup : Setup) (t : ℕ) (outcome : Outcome) →
    least_silence outcome ≤ 5 * check_interval setup t outcome
silence_is_long setup t outcome =
    let load : Load = check_load setup t outcome in
    subst (λ (initial : Bool). (if initial then 12500000 else 25000000) ≤ 5 * interval_of load)
    (slowed_stays_initial t (newest_pace outcome.paces) (receiver_load setup outcome))
    (five_minimums load.initial _)

-- ---- Time-outs

module _ (setup : Setup) (t : ℕ) (outcome : Outcome) where
  pub dropped_were_silent : (ssrc : ℕ) → is_member_of setup outcome ssrc ≡ true →
      is_member_of setup (checked setup t outcome) ssrc ≡ false →
      last_naming ssrc outcome.trace + 5 * check_interval setup t outcome < t
  dropped_were_silent ssrc is dropped =
      ltb-true (last_naming ssrc outcome.trace + 5 * check_interval setup t outcome) t
      (silent (is_silent setup t outcome ssrc) (sym (checked_unless_silent setup t outcome ssrc is) ∙ dropped))
    where
      silent : (b : Bool) → not b ≡ false → b ≡ true
      silent true e = refl
      silent false e = absurd cc

  pub fall_times_out : (first_word second_word : ℕ) →
      is_fall setup (ticked t first_word second_word) (present outcome) ≡ true →
      (ssrc : ℕ) × IsTimedOut setup t outcome ssrc
  fall_times_out first_word second_word is =
      let act = ticked t first_word second_word in
      let who = who_departs setup act outcome (falls_are_by_departures setup act (present outcome) is) in (
        who.ssrc,
        record {
          member = who.member;
          dropped = checked_unless_silent setup t outcome who.ssrc who.member ∙ ap not who.departs;
          silent = ltb-true (last_naming who.ssrc outcome.trace + 5 * check_interval setup t outcome) t who.departs;
        },
      )

  pub heard_lately_stay : (ssrc at : ℕ) → is_member_of setup outcome ssrc ≡ true →
      at ≤ last_naming ssrc outcome.trace → t ≤ at + least_silence outcome →
      is_member_of setup (checked setup t outcome) ssrc ≡ true
  heard_lately_stay ssrc at is heard lately =
      let long : least_silence outcome ≤ 5 * check_interval setup t outcome = silence_is_long setup t outcome in
      checked_unless_silent setup t outcome ssrc is
      ∙ ap not (le-ltb (last_naming ssrc outcome.trace + 5 * check_interval setup t outcome) t
      (omega (arith, heard, lately, long)))
