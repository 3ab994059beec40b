-- What a handle holds: a participant, or nothing.
use Rattle.std.specs.Prelude.{ℕ, ◌≡◌, ◌<◌, ◌^◌, Option, Some, None, option_map}
use Rattle.rtcp_engine.specs.answers.Histories.{History}
use Rattle.rtcp_engine.specs.state.States.{ParticipantValue, StandsAt, KeepsCapacity}
use Rattle.jalwedd_host.specs.declared.session.HostSession.{HostSession}

-- The participant of a session equals the one computed from a whole history, whose moments the session counts from this
-- start: the host's clock at moment 0, in microseconds.
pub record Leads (session : HostSession) (start : ℕ) (history : History) : Type 0 where
  pub stands : StandsAt session.participant history
  pub counts : session.start ≡ start
  pub range : start < 2 ^ 63

-- A handle holds such a session.
abbrev pub LeadsTo : Option HostSession → (start : ℕ) → History → Type 0
LeadsTo None start history = ⊥
LeadsTo (Some session) start history = Leads session start history

-- It has no guard.
abbrev pub IsUnguarded : Option HostSession → Type 0
IsUnguarded None = Unit {0}
IsUnguarded (Some session) = session.guard ≡ None

-- its start and its participant
abbrev pub told_in : Option HostSession → Option (ℕ × ParticipantValue)
told_in held = option_map (λ session. (session.start, session.participant)) held

-- The table of its participant holds no more sources than it may.
abbrev pub KeepsWithin : Option HostSession → Type 0
KeepsWithin None = Unit {0}
KeepsWithin (Some session) = KeepsCapacity session.participant.presence
