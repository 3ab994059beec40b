-- What a call of a participant promises.
use Rattle.std.specs.Prelude.{◌≡◌, ◌<◌, ◌^◌, ℕ, List, None, Result, IfOk, IfSome, OnErr}
use Rattle.rtcp_engine.specs.declared.refusal.Refusal.{Refusal}
use Rattle.rtcp_engine.specs.declared.step.Standing.{Standing}
use Rattle.rtcp_engine.specs.declared.step.WrittenStep.{WrittenStep}
use Rattle.rtcp_engine.specs.declared.step.Step.{Step}
use Rattle.rtcp_engine.specs.answers.Acts.{Act, EventValue, IsActOfEvent, AnswerValue}
use Rattle.rtcp_engine.specs.answers.Answers.{answer_of, followed_by, taken_under}
use Rattle.rtcp_engine.specs.answers.Histories.{History, life_at, setup_at}
use Rattle.rtcp_engine.specs.answers.Lives.{standing_in_life}
use Rattle.rtcp_engine.specs.bounds.Runs.{IsAnsweredInTime}
use Rattle.rtcp_engine.specs.state.States.{Admits, ParticipantValue, StandsAt, refusal_by, KeepsCapacity}
use Rattle.rtcp_engine.specs.state.Views.{LeavesRest, answer_value, out_written, reply_value}

-- ---- An act

-- A participant is told an act. It answers as its history says, and stands at the history with this act. A tick that
-- comes late, and is taken, is answered by a compound.
pub record Takes (old : ParticipantValue) (act : Act) (given : AnswerValue) (new : ParticipantValue)
    : Type 0 where
  pub answer : (history : History) → StandsAt old history → given ≡ answer_of history act
  pub stands : (history : History) → StandsAt old history → StandsAt new (followed_by history act)
  pub not_too_late : (history : History) → StandsAt old history → IsAnsweredInTime history act given

-- It says where the participant stands. The next moment to ask is below 2^51.
pub record SaysStanding (standing : Standing) (participant : ParticipantValue) : Type 0 where
  pub exact : (history : History) → StandsAt participant history →
      standing ≡ standing_in_life (setup_at history) (life_at history)
  pub bounded : IfSome standing.next (λ next. next < 2 ^ 51)

-- A reply says where the participant stands after the call. The compound that it tells of stands at the start of the
-- caller's octets, and the octets after it are as they were.
pub record WritesReply (before after : List ℕ) (reply : Result WrittenStep Refusal) (new : ParticipantValue) : Type
    0 where
  pub standing : IfOk reply (λ told. SaysStanding told.standing new)
  pub leaves : LeavesRest before after (out_written reply)

-- Whatever it is told, its table stays within its capacity, and a refusal leaves it as it was.
pub record Spares {A : Type 0} (old : ParticipantValue) (answer : Result A Refusal) (new : ParticipantValue)
    : Type 0 where
  pub within : KeepsCapacity new.presence
  pub refused : OnErr answer (new ≡ old)

-- ---- An event

-- A call tells a participant an event, and returns the answer. Whatever the octets of a datagram say, the participant
-- takes the act of that.
pub record Answers (old : ParticipantValue) (event : EventValue) (answer : Result Step Refusal) (new : ParticipantValue)
    : Type 0 where
  pub takes : (act : Act) → IsActOfEvent event act → Takes old act (answer_value answer) new
  pub spares : Spares old answer new

-- The same of a call whose caller keeps the octets for a compound.
pub record Replies
    (old : ParticipantValue) (event : EventValue) (before after : List ℕ) (reply : Result WrittenStep Refusal)
    (new : ParticipantValue)
    : Type 0 where
  pub takes : (act : Act) → IsActOfEvent event act → Takes old act (reply_value after reply) new
  pub spares : Spares old reply new
  pub writes : WritesReply before after reply new

-- ---- A datagram that is yet to be taken

-- A participant says under which SSRC it takes an event, or why it refuses it.
abbrev pub Foretells : ParticipantValue → EventValue → Result ℕ Refusal → Type 0
Foretells participant event told = (act : Act) (history : History) → IsActOfEvent event act →
    StandsAt participant history → told ≡ taken_under history act

-- A call at a moment is refused for nothing but what it tells.
pub record IsAdmitted (now : ℕ) (participant : ParticipantValue) : Type 0 where
  pub unrefused : refusal_by now participant ≡ None
  pub in_order : Admits participant.presence now
