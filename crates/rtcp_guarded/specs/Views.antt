-- What the crate's types are as values of the definitions.
use Rattle.std.specs.Prelude.{◌≡◌, ℕ, List, Option, None, Result, Ok, Err}
use Rattle.rtcp_engine.specs.declared.refusal.Refusal.{Refusal}
use Rattle.rtcp_engine.specs.declared.step.Step.{Step}
use Rattle.rtcp_engine.specs.declared.step.Written.{Written}
use Rattle.rtcp_engine.specs.declared.step.WrittenStep.{WrittenStep}
use Rattle.rtcp_engine.specs.state.States.{ParticipantValue, StandsAt as IsAtHistory}
use Rattle.rtcp_engine.specs.state.Views.{step_value, written_step_value}
use Rattle.rtcp_guard.specs.Guarding.{GuardValue}
use Rattle.rtcp_guarded.specs.Guarded.{GuardedHistory, GuardedAnswer, guard_at, passed_at}
use Rattle.rtcp_guarded.specs.declared.untaken.Untaken.{Untaken}
use Rattle.rtcp_guarded.specs.declared.untaken.Untaken.TheVariants.{Refused}

pub record GuardedValue : Type 0 where
  pub participant : ParticipantValue
  pub guard : GuardValue

abbrev pub both : ParticipantValue → GuardValue → GuardedValue
both participant guard = record { participant = participant; guard = guard }

-- A guarded participant equals the one computed from a whole history: its participant stands at what was passed on.
pub record StandsAt (guarded : GuardedValue) (history : GuardedHistory) : Type 0 where
  pub participant : IsAtHistory guarded.participant (passed_at history)
  pub guard : guarded.guard ≡ guard_at history

-- ---- Replies

abbrev pub reply_value : (octets : List ℕ) → Result WrittenStep Untaken → GuardedAnswer
reply_value octets (Ok step) = Ok (written_step_value octets step)
reply_value octets (Err untaken) = Err untaken

abbrev pub guarded_value : Result Step Untaken → GuardedAnswer
guarded_value (Ok step) = Ok (step_value step)
guarded_value (Err untaken) = Err untaken

-- the reply to a call that the guard does not judge
abbrev pub as_refused : Result WrittenStep Refusal → Result WrittenStep Untaken
as_refused (Ok step) = Ok step
as_refused (Err refusal) = Err (Refused refusal)

-- the compound that a reply tells of
abbrev pub out_written : Result WrittenStep Untaken → Option Written
out_written (Ok step) = step.out
out_written (Err untaken) = None
