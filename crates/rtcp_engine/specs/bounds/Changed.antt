-- What a change of identifier leaves as it was.
use Rattle.std.specs.Prelude.{ℕ, ◌≡◌, Option, Some, None}
use Rattle.rtcp_timer.specs.Schedules.{Timing}
use Rattle.rtcp_engine.specs.answers.Setups.{settings_of}
use Rattle.rtcp_engine.specs.answers.Outcomes.{timing_of}
use Rattle.rtcp_engine.specs.answers.Leaving.{Life, present, backing_off, finished, leaving_timing}
use Rattle.rtcp_engine.specs.answers.Lives.{entries_in_life, entry_in_life, members_in_life, senders_in_life}
use Rattle.rtcp_engine.specs.answers.Changes.{Session, is_in_table}

-- the last and the next transmission (tp, tn), and the members then known, until the participant is gone
abbrev pub timing_in_life : Life → Option Timing
timing_in_life (present outcome) = Some (timing_of outcome)
timing_in_life (backing_off outcome backoff) = Some (leaving_timing backoff)
timing_in_life (finished outcome) = None

pub record KeepsRest (before after : Session) : Type 0 where
  pub settings : settings_of after.setup ≡ settings_of before.setup
  -- what the table has of each source, and whether it has anything of it
  pub table : (ssrc : ℕ) → entry_in_life after.setup after.life ssrc ≡ entry_in_life before.setup before.life ssrc
  pub held : (ssrc : ℕ) → is_in_table after.setup after.life ssrc ≡ is_in_table before.setup before.life ssrc
  pub members : members_in_life after.setup after.life ≡ members_in_life before.setup before.life
  pub senders : senders_in_life after.setup after.life ≡ senders_in_life before.setup before.life
  pub entries : entries_in_life after.setup after.life ≡ entries_in_life before.setup before.life
  pub timing : timing_in_life after.life ≡ timing_in_life before.life
