-- A change of settings, and what a session has come to some time later.
use Rattle.std.specs.Prelude.{ℕ, ◌≡◌, ◌≤◌, ◌<◌, max, List, [], ◌∷◌, if◌then◌else◌, Some, None}
use Rattle.rtcp_engine.specs.answers.Setups.{Setup, SettingsValue, keeps_bandwidths, settings_error}
use Rattle.rtcp_engine.specs.answers.Acts.{Act, configured}
use Rattle.rtcp_engine.specs.answers.Outcomes.{Outcome, end_at, newest_pace, pace_at}
use Rattle.rtcp_engine.specs.answers.Histories.{History, life_at, session_for, session_of, setup_at}
use Rattle.rtcp_engine.specs.answers.Leaving.{Life, present, backing_off, finished}
use Rattle.rtcp_engine.specs.state.Taken.{IsHistory}

-- Settings are taken at a moment, of a participant that takes part. Later, at the moment `t`, they are the newest
-- still, and the former pace still counts.
pub record IsPaced (history : History) (moment t : ℕ) (settings : SettingsValue) (before later : Outcome) : Type 0 where
  pub stands : IsHistory history
  pub life : life_at history ≡ present before
  pub usable : settings_error settings ≡ None
  pub newest : newest_pace later.paces ≡ Some (pace_at (setup_at history) moment before)
  pub order : moment ≤ t
  pub soon : t < (pace_at (setup_at history) moment before).until

-- what it would have come to without the change, as far as the pace of checks goes
abbrev pub unpaced : (before later : Outcome) → Outcome
unpaced before later = record later { paces = before.paces }

-- ---- How long former paces count

abbrev pub end_while_present : Setup → Act → Outcome → (before : ℕ) → ℕ
end_while_present setup (configured moment settings) outcome before =
    if keeps_bandwidths settings setup then before else max before (end_at setup moment outcome)
end_while_present setup act outcome before = before

-- one act more
abbrev pub end_by : Setup → Act → Life → (before : ℕ) → ℕ
end_by setup act (present outcome) before = end_while_present setup act outcome before
end_by setup act (backing_off outcome backoff) before = before
end_by setup act (finished outcome) before = before

-- The latest end of all former paces, 0 if bandwidths never changed: that of a change comes five intervals after it, by
-- the bandwidths that it gave up. So it moves with a change of bandwidths alone.
abbrev pub last_end : Setup → (word : ℕ) → List Act → ℕ
last_end setup word [] = 0
last_end setup word (act ∷ earlier) =
    let now = session_for (session_of setup word earlier) act in
    end_by now.setup act now.life (last_end setup word earlier)
