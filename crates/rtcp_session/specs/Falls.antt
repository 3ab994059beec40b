-- That few falls in the number of members put off few reports (RFC 3550, 6.3.4): what it takes that a participant
-- reports
-- between two moments. Lists are newest first; moments and waits are in microseconds.
use Rattle.std.specs.Prelude.{ℕ, ◌≡◌, ◌+◌, ◌≤◌, ◌&&◌, nat_le, nat_lt, List, [], ◌∷◌, ◌++◌, if◌then◌else◌}
use Rattle.rtcp_engine.specs.answers.Setups.{Setup}
use Rattle.rtcp_engine.specs.answers.Acts.{Act, ticked, moment_of}
use Rattle.rtcp_engine.specs.answers.Outcomes.{Outcome}
use Rattle.rtcp_engine.specs.answers.Leaving.{present}
use Rattle.rtcp_engine.specs.answers.Histories.{History, life_at, session_for, session_of}
use Rattle.rtcp_engine.specs.bounds.InTime.{is_fall, longest_wait}
use Rattle.rtcp_engine.specs.bounds.Sent.{Sent}

-- how many falls lie after one moment, and not after another
abbrev pub falls_within : Setup → (word from until : ℕ) → List Act → ℕ
falls_within setup word from until [] = 0
falls_within setup word from until (act ∷ earlier) =
    let now = session_for (session_of setup word earlier) act in
    (if is_fall now.setup act now.life && (nat_lt from (moment_of act) && nat_le (moment_of act) until) then 1 else 0)
    + falls_within setup word from until earlier

-- A tick came between two moments.
pub record HasTick (from until : ℕ) (acts : List Act) : Type 0 where
  pub moment : ℕ
  pub first_word : ℕ
  pub second_word : ℕ
  pub later : List Act
  pub earlier : List Act
  pub parts : acts ≡ later ++ ticked moment first_word second_word ∷ earlier
  pub after : from ≤ moment
  pub before : moment ≤ until

-- Ticks come often: within so long after each moment.
abbrev pub TicksWithin : (lag from until : ℕ) → List Act → Type 0
TicksWithin lag from until acts =
    (moment : ℕ) → from ≤ moment → moment + lag ≤ until → HasTick moment (moment + lag) acts

-- A tick finds the participant in the session, and brings a report where it comes as late as this, however the draws
-- fall.
abbrev pub WaitsAtMost : (wait : ℕ) → History → Act → Type 0
WaitsAtMost wait history (ticked moment first_word second_word) =
    ((outcome : Outcome) × (life_at history ≡ present outcome))
    × (longest_wait history (ticked moment first_word second_word) ≤ wait)
WaitsAtMost wait history act = Unit {0}

-- So it is of each tick from a moment on.
abbrev pub AllWaitAtMost : (wait from : ℕ) → Setup → (word : ℕ) → List Act → Type 0
AllWaitAtMost wait from setup word [] = Unit {0}
AllWaitAtMost wait from setup word (act ∷ earlier) =
    (from ≤ moment_of act → WaitsAtMost wait (record { setup = setup; word = word; acts = earlier }) act)
    × AllWaitAtMost wait from setup word earlier

-- A report was sent between two moments.
pub record HasReport (from until : ℕ) (reports : List Sent) : Type 0 where
  pub report : Sent
  pub later : List Sent
  pub earlier : List Sent
  pub parts : reports ≡ later ++ report ∷ earlier
  pub after : from ≤ report.moment
  pub before : report.moment ≤ until
