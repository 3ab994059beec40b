-- The counts of a session over a link, event by event.
use Rattle.std.specs.Prelude.{◌≡◌, ◌<◌, ◌^◌, ℕ, ◌+◌, ◌||◌, max, not, is_some, Bool, true, false, if◌then◌else◌, Option, Result, Ok, Err}
use Rattle.rtcp_engine.specs.declared.step.OutKind.{OutKind}
use Rattle.rtcp_engine.specs.declared.step.OutKind.TheVariants.{Report, Bye}
use Rattle.rtcp_engine.specs.declared.refusal.Refusal.{Refusal}
use Rattle.rtcp_engine.specs.declared.refusal.Refusal.TheVariants.{TooFar, TooMany}
use Rattle.rtcp_engine.specs.answers.Outcomes.{one_if}
use Rattle.rtcp_guarded.specs.Guarded.{GuardedAnswer}
use Rattle.rtcp_guarded.specs.declared.untaken.Untaken.{Untaken}
use Rattle.rtcp_guarded.specs.declared.untaken.Untaken.TheVariants.{HeldBack, Refused}
use Rattle.rtcp_serve.specs.Links.{LinkValue}
use Rattle.rtcp_serve.specs.declared.serving.Cause.{Cause}
use Rattle.rtcp_serve.specs.declared.serving.End.{End}
use Rattle.rtcp_serve.specs.declared.serving.Cause.TheVariants.{LinkDown}
use Rattle.rtcp_serve.specs.declared.serving.tally.Tally.{Tally}

-- the refusals that end a session: E3 and E4
abbrev pub is_limit : Refusal → Bool
is_limit TooFar = true
is_limit TooMany = true
is_limit refusal = false

-- What a guard holds back is none.
abbrev pub ends_session : Untaken → Bool
ends_session (Refused refusal) = is_limit refusal
ends_session (HeldBack reason) = false

-- ---- Events

abbrev pub no_calls : Tally
no_calls = record {
  moment = 0;
  failures = 0;
  received = 0;
  refused = 0;
  sent = 0;
  send_failures = 0;
  recv_failures = 0;
  bye = false;
}

-- the greatest moment so far
abbrev pub with_moment : (moment : ℕ) → Tally → Tally
with_moment moment tally = record tally { moment = max tally.moment moment }

abbrev pub with_datagram : Tally → Tally
with_datagram tally = record tally { failures = 0; received = tally.received + 1 }

abbrev pub with_silence : Tally → Tally
with_silence tally = record tally { failures = 0 }

abbrev pub with_failed_receive : Tally → Tally
with_failed_receive tally =
    record tally { failures = tally.failures + 1; recv_failures = tally.recv_failures + 1 }

abbrev pub with_refused : (refused : ℕ) → Tally → Tally
with_refused refused tally = record tally { refused = refused }

-- an arrival that is refused or held back counts, unless a limit is met
abbrev pub with_arrival : GuardedAnswer → Tally → Tally
with_arrival (Ok step) tally = tally
with_arrival (Err untaken) tally = if ends_session untaken then tally else with_refused (tally.refused + 1) tally

-- whether a compound is the BYE of leaving: one that a change of identifier hands out is not
abbrev pub is_leave_bye : OutKind → (changed : Option ℕ) → Bool
is_leave_bye Report changed = false
is_leave_bye Bye changed = not (is_some changed)

abbrev pub with_send : OutKind → (changed : Option ℕ) → (failed : Bool) → Tally → Tally
with_send kind changed failed tally =
    record tally {
      sent = tally.sent + 1;
      send_failures = tally.send_failures + one_if failed;
      bye = tally.bye || is_leave_bye kind changed;
    }

-- ---- Ends

abbrev pub end_of : Cause → Tally → End
end_of cause tally = record {
  cause = cause;
  received = tally.received;
  refused = tally.refused;
  sent = tally.sent;
  send_failures = tally.send_failures;
  recv_failures = tally.recv_failures;
  bye = tally.bye;
}

-- A row of failed receives ends a session at the 64th.
abbrev pub EndsRow : {A : Type 0} → (failures : ℕ) → Result A Cause → Type 0
EndsRow failures (Ok done) = failures < 64
EndsRow failures (Err cause) = (failures ≡ 64) × (cause ≡ LinkDown)

-- ---- Room

-- Each count, those of the link too, can rise by so many.
pub record HasRoom (more : ℕ) (tally : Tally) (link : LinkValue) : Type 0 where
  pub received : tally.received + more < 2 ^ 64
  pub refused : tally.refused + more < 2 ^ 64
  pub sent : tally.sent + more < 2 ^ 64
  pub send_failures : tally.send_failures + more < 2 ^ 64
  pub recv_failures : tally.recv_failures + more < 2 ^ 64
  pub failed_receives : link.failed_receives + more < 2 ^ 64
  pub failed_sends : link.failed_sends + more < 2 ^ 64
