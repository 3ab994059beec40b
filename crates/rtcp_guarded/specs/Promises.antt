-- What a call of a guarded participant promises.
use Rattle.std.specs.Prelude.{◌≡◌, ℕ, List, Result, Err, IfOk, OnErr}
use Rattle.rtcp_engine.specs.declared.step.Step.{Step}
use Rattle.rtcp_engine.specs.declared.step.WrittenStep.{WrittenStep}
use Rattle.rtcp_engine.specs.answers.Acts.{Act, EventValue, IsActOfEvent}
use Rattle.rtcp_engine.specs.declared.refusal.Refusal.{Refusal}
use Rattle.rtcp_engine.specs.state.Promises.{Replies as ParticipantReplies, SaysStanding}
use Rattle.rtcp_engine.specs.state.States.{ParticipantValue, KeepsCapacity}
use Rattle.rtcp_guard.specs.Guarding.{GuardValue}
use Rattle.rtcp_engine.specs.state.Views.{LeavesRest}
use Rattle.rtcp_guarded.specs.Guarded.{GuardedHistory, GuardedAnswer, IsTakenInTime, guarded_answer, with_told}
use Rattle.rtcp_guarded.specs.Views.{GuardedValue, StandsAt, as_refused, both, guarded_value, out_written, reply_value}
use Rattle.rtcp_guarded.specs.declared.untaken.Untaken.{Untaken}

-- A guarded participant is told an act. It answers as its history says, and stands at the history with this act. A tick
-- that comes late, and is taken, is answered with a compound.
pub record Takes (old : GuardedValue) (act : Act) (given : GuardedAnswer) (new : GuardedValue) : Type 0 where
  pub answer : (history : GuardedHistory) → StandsAt old history → given ≡ guarded_answer history act
  pub stands : (history : GuardedHistory) → StandsAt old history → StandsAt new (with_told history act)
  pub not_too_late : (history : GuardedHistory) → StandsAt old history → IsTakenInTime history act given

-- A call tells it an event, and writes a compound to the start of the caller's octets, if the event brings one. Where
-- the event is not taken, participant and octets are as they were. A table within its capacity stays so.
pub record Replies
    (old : GuardedValue) (event : EventValue) (before after : List ℕ) (reply : Result WrittenStep Untaken)
    (new : GuardedValue)
    : Type 0 where
  pub takes : (act : Act) → IsActOfEvent event act → Takes old act (reply_value after reply) new
  pub untaken : OnErr reply (new.participant ≡ old.participant)
  pub within : KeepsCapacity old.participant.presence → KeepsCapacity new.participant.presence
  pub standing : IfOk reply (λ step. SaysStanding step.standing new.participant)
  pub leaves : LeavesRest before after (out_written reply)

-- The same of a call that hands the compound out in its answer.
pub record Answers (old : GuardedValue) (event : EventValue) (answer : Result Step Untaken) (new : GuardedValue)
    : Type 0 where
  pub takes : (act : Act) → IsActOfEvent event act → Takes old act (guarded_value answer) new
  pub untaken : OnErr answer (new.participant ≡ old.participant)
  pub within : KeepsCapacity old.participant.presence → KeepsCapacity new.participant.presence

-- A guard is told of a datagram before its participant, which is not to take it.
abbrev pub HoldsBack : ParticipantValue → (old : GuardValue) → EventValue → Untaken → (new : GuardValue) → Type 0
HoldsBack participant old event untaken new =
    (octets : List ℕ) → Replies (both participant old) event octets octets (Err untaken) (both participant new)

-- A guard is told of a datagram before its participant, which is to take it: whatever that replies is the reply of
-- both.
abbrev pub PassesOn : ParticipantValue → (old : GuardValue) → EventValue → (new : GuardValue) → Type 0
PassesOn participant old event new =
    (before after : List ℕ) (reply : Result WrittenStep Refusal) (later : ParticipantValue) →
    ParticipantReplies participant event before after reply later →
    Replies (both participant old) event before after (as_refused reply) (both later new)
