-- What a call of a session promises to a host in C.
use Rattle.std.specs.Prelude.{ℕ, ◌≡◌, ◌≢◌, ◌⊎◌, ◌+◌, ◌<◌, List, Option, Some, None}
use Rattle.rtcp_engine.specs.answers.Acts.{Act, EventValue, IsActOfEvent}
use Rattle.rtcp_engine.specs.answers.Answers.{answer_of, followed_by}
use Rattle.rtcp_engine.specs.answers.Histories.{History}
use Rattle.rtcp_engine.specs.bounds.Runs.{IsAnsweredInTime}
use Rattle.jalwedd_host.specs.declared.session.HostSession.{HostSession}
use Rattle.jalwedd_host.specs.declared.step.HostStep.{HostStep}
use Rattle.jalwedd_host.specs.Answers.{HandsNothing, HandsOut, IsBlank, Shows, status_of}
use Rattle.jalwedd_host.specs.Early.{RefusesEarly}
use Rattle.jalwedd_host.specs.Guards.{TellsGuarded}
use Rattle.jalwedd_host.specs.Handles.{IsUnguarded, KeepsWithin, LeadsTo, told_in}

-- A session that stands at a history is told an act. The status, the step and the host's octets say what the history
-- answers to it. A tick that comes late, and is taken, is answered with a compound, which is handed out. Then the
-- session stands at the history with the act, which the step shows. The start is as it was.
pub record Serves
    (start : ℕ) (history : History) (act : Act)
    (after : Option HostSession) (result : ℕ) (step : HostStep) (was octets : List ℕ)
    : Type 0 where
  pub status : result ≡ status_of (answer_of history act)
  pub handed : HandsOut step was octets (answer_of history act)
  pub not_too_late : IsAnsweredInTime history act (answer_of history act)
  pub stands : LeadsTo after start (followed_by history act)
  pub shows : Shows start step (followed_by history act)

-- A call tells the session of a handle an event, at the moment since the start that the host's clock shows. Whatever
-- the octets of a datagram say, the session takes the act of that. What comes before the start is refused.
pub record TellsSession
    (event : (moment : ℕ) → EventValue) (now : ℕ) (before after : Option HostSession) (result : ℕ) (step : HostStep)
    (was octets : List ℕ)
    : Type 0 where
  pub serves : (start moment : ℕ) (history : History) (act : Act) → LeadsTo before start history →
      now ≡ start + moment → IsActOfEvent (event moment) act → Serves start history act after result step was octets
  pub early : (start : ℕ) (history : History) → LeadsTo before start history → now < start →
      RefusesEarly start history before after result step was octets

-- Whatever a call tells: a table within its capacity stays so, a refusal leaves the session as it was, and where there
-- is none the call says so and hands nothing out.
pub record SparesSession (before after : Option HostSession) (result : ℕ) (step : HostStep) (was octets : List ℕ) : Type
    0 where
  pub within : KeepsWithin before → KeepsWithin after
  pub refused : result ≢ 0 → after ≡ before
  pub empty : before ≡ None → (result ≡ 20) × IsBlank step × (octets ≡ was)

-- The same of a call that a guard may hold back: what is not taken leaves the participant and the start as they were,
-- and
-- where there is no guard the session.
pub record SparesArrival (before after : Option HostSession) (result : ℕ) (step : HostStep) (was octets : List ℕ) : Type
    0 where
  pub within : KeepsWithin before → KeepsWithin after
  pub untaken : result ≢ 0 → told_in after ≡ told_in before
  pub unguarded : IsUnguarded before → result ≢ 0 → after ≡ before
  pub empty : before ≡ None → (result ≡ 20) × IsBlank step × (octets ≡ was)

-- What came with a call is more than it takes, which this status tells. Of a session the call says so, hands nothing
-- out, and shows where it stands.
pub record TurnsAway
    (status : ℕ) (before : Option HostSession) (result : ℕ) (step : HostStep) (was octets : List ℕ)
    : Type 0 where
  pub too_long : (session : HostSession) → before ≡ Some session →
      (result ≡ status) × HandsNothing step × (octets ≡ was)
  pub still_shows : (start : ℕ) (history : History) → LeadsTo before start history → Shows start step history

-- A handle is not opened for a call, as it holds no session, or the call comes before the start. Whatever event the
-- call tells, this is the answer.
pub record TurnsBack (now : ℕ) (before after : Option HostSession) (result : ℕ) (step : HostStep) : Type 0 where
  pub tells : (event : ℕ → EventValue) (octets : List ℕ) →
      TellsSession event now before after result step octets octets
  pub guarded : (event : ℕ → EventValue) (octets : List ℕ) →
      TellsGuarded event now before after result step octets octets
  pub spares : (octets : List ℕ) → SparesSession before after result step octets octets
  pub nothing : step.kind ≡ 0
  pub kept : after ≡ before

-- A call asks for a number. It tells that of the start and the history which the session stands at, and another where
-- there is no session, and leaves what is held.
pub record AnswersOf
    (told : (start : ℕ) → History → ℕ) (otherwise : ℕ) (before after : Option HostSession) (result : ℕ) : Type 0 where
  pub tells : (start : ℕ) (history : History) → LeadsTo before start history → result ≡ told start history
  pub empty : before ≡ None → result ≡ otherwise
  pub kept : after ≡ before

-- A session begins in a handle, at this start. It stands at this history, which the step shows.
pub record Begins (start : ℕ) (history : History) (after : Option HostSession) (step : HostStep) : Type 0 where
  pub stands : LeadsTo after start history
  pub shows : Shows start step history

-- A session was to begin in an empty handle, by a configuration that is refused with a status, or is not. The status
-- says so, or that memory was refused. The step is blank where none began, and the table of one is within its capacity.
pub record AnswersVacant (refusal : Option ℕ) (after : Option HostSession) (result : ℕ) (step : HostStep) : Type 0 where
  pub refused : (status : ℕ) → refusal ≡ Some status → result ≡ status
  pub taken : refusal ≡ None → (result ≡ 0) ⊎ (result ≡ 22)
  pub blank : result ≢ 0 → IsBlank step
  pub within : KeepsWithin after

-- A session was to begin where a handle holds one. The status says so, and the step shows where that one stands.
pub record AnswersLive (before : Option HostSession) (result : ℕ) (step : HostStep) : Type 0 where
  pub live : (session : HostSession) → before ≡ Some session → result ≡ 21
  pub shows : (start : ℕ) (history : History) → LeadsTo before start history → Shows start step history
