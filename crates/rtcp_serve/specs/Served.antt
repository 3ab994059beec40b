-- What takes part in a session: a participant alone, or one with a guard before it.
use Rattle.std.specs.Prelude.{◌≡◌, ℕ, Option, Ok, Err}
use Rattle.rtcp_engine.specs.answers.Acts.{Act, EventValue, IsActOfEvent, AnswerValue}
use Rattle.rtcp_engine.specs.answers.Answers.{answer_of, followed_by}
use Rattle.rtcp_engine.specs.answers.Histories.{History, life_at}
use Rattle.rtcp_engine.specs.answers.Lives.{next_in_life}
use Rattle.rtcp_engine.specs.state.States.{ParticipantValue, StandsAt}
use Rattle.rtcp_guarded.specs.Guarded.{GuardedAnswer, GuardedHistory, guarded_answer, passed_at, with_told}
use Rattle.rtcp_guarded.specs.Views.{GuardedValue, StandsAt as IsAtGuarded}
use Rattle.rtcp_guarded.specs.declared.untaken.Untaken.TheVariants.{Refused}

-- ---- Histories

pub data Served : Type 0 where
  -- the acts that a participant took
  alone : History → Served
  -- all that a guarded participant was told
  guarded : GuardedHistory → Served

abbrev pub as_guarded : AnswerValue → GuardedAnswer
as_guarded (Ok step) = Ok step
as_guarded (Err refusal) = Err (Refused refusal)

-- what is answered to an act
abbrev pub answer_for : Served → Act → GuardedAnswer
answer_for (alone history) act = as_guarded (answer_of history act)
answer_for (guarded history) act = guarded_answer history act

-- the history with it
abbrev pub followed_for : Served → Act → Served
followed_for (alone history) act = alone (followed_by history act)
followed_for (guarded history) act = guarded (with_told history act)

-- what the participant was told
abbrev pub passed_for : Served → History
passed_for (alone history) = history
passed_for (guarded history) = passed_at history

-- when the participant is to be asked next, unless it has left
abbrev pub next_for : Served → Option ℕ
next_for (alone history) = next_in_life (life_at history)
next_for (guarded history) = next_in_life (life_at (passed_at history))

-- ---- Values

pub data ServedValue : Type 0 where
  by_itself : ParticipantValue → ServedValue
  behind_guard : GuardedValue → ServedValue

-- It equals the one computed from a whole history.
abbrev pub StandsServed : ServedValue → Served → Type 0
StandsServed (by_itself participant) (alone history) = StandsAt participant history
StandsServed (by_itself participant) (guarded history) = ⊥
StandsServed (behind_guard both) (alone history) = ⊥
StandsServed (behind_guard both) (guarded history) = IsAtGuarded both history

-- ---- What a call promises

-- It is told an act. It answers as its history says, and stands at the history with this act.
pub record TakesServed (old : ServedValue) (act : Act) (given : GuardedAnswer) (new : ServedValue) : Type 0 where
  pub answer : (history : Served) → StandsServed old history → given ≡ answer_for history act
  pub stands : (history : Served) → StandsServed old history → StandsServed new (followed_for history act)

-- It is told an event, whatever the octets of a datagram say.
pub record AnswersServed (old : ServedValue) (event : EventValue) (given : GuardedAnswer) (new : ServedValue)
    : Type 0 where
  pub takes : (act : Act) → IsActOfEvent event act → TakesServed old act given new
