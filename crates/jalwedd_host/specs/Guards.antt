-- What a call promises to a host in C whose session has a guard (RFC 3550, 8.2).
use Rattle.std.specs.Prelude.{ℕ, ◌≡◌, ◌≢◌, ◌+◌, ◌-◌, ◌<◌, ◌^◌, List, [], Bool, true, false, Option, Some, None, IfSome, Result, Ok, Err, IfOk, OnErr, option_map}
use Rattle.std.specs.Box.{box_value}
use Rattle.std.specs.Result.{result_err}
use Rattle.rtcp_guard.specs.Guarding.{GuardValue, after, check_made, may_have, may_trust}
use Rattle.rtcp_guard.specs.declared.verdict.HeldBack.{HeldBack as Counts}
use Rattle.rtcp_engine.specs.declared.refusal.Refusal.{Refusal}
use Rattle.rtcp_engine.specs.declared.step.WrittenStep.{WrittenStep}
use Rattle.rtcp_engine.specs.answers.Histories.{History, life_at, setup_at}
use Rattle.rtcp_engine.specs.answers.Lives.{silent_in_life}
use Rattle.rtcp_engine.specs.state.Promises.{Replies as ParticipantReplies}
use Rattle.rtcp_engine.specs.state.States.{ParticipantValue, StandsAt}
use Rattle.rtcp_engine.specs.answers.Acts.{Act, EventValue, IsActOfEvent}
use Rattle.rtcp_guarded.specs.Guarded.{GuardedAct, GuardedAnswer, GuardedHistory, IsTakenInTime, expected, guard_at, guarded_answer, origin_of, passed_at, trusted, with_guarded, with_told}
use Rattle.rtcp_guarded.specs.Promises.{HoldsBack, PassesOn, Replies}
use Rattle.rtcp_guarded.specs.Views.{as_refused, both}
use Rattle.rtcp_guarded.specs.declared.untaken.Reason.{Reason}
use Rattle.rtcp_guarded.specs.declared.untaken.Reason.TheVariants.{Stranger, Crowd}
use Rattle.rtcp_guarded.specs.declared.untaken.Untaken.{Untaken}
use Rattle.rtcp_guarded.specs.declared.untaken.Untaken.TheVariants.{Refused, HeldBack}
use Rattle.jalwedd_host.specs.declared.config.Config.{Config}
use Rattle.jalwedd_host.specs.declared.config.Item.{Item as ItemGiven}
use Rattle.jalwedd_host.specs.declared.guarded.HostCounts.{HostCounts}
use Rattle.jalwedd_host.specs.declared.session.HostSession.{HostSession}
use Rattle.jalwedd_host.specs.declared.step.HostStep.{HostStep}
use Rattle.jalwedd_host.specs.Answers.{HandsNothing, HandsOut, Shows, status_of_refusal}
use Rattle.jalwedd_host.specs.Configs.{guard_given, setup_given}
use Rattle.jalwedd_host.specs.Handles.{Leads}
use Rattle.jalwedd_host.specs.Early.{RefusesEarly}

-- ---- Sessions

abbrev pub guard_of : HostSession → Option GuardValue
guard_of session = option_map box_value session.guard

-- A session stands at the history of a guarded participant, whose moments it counts from this start.
pub record LeadsGuarded (session : HostSession) (start : ℕ) (history : GuardedHistory) : Type 0 where
  -- Its participant stands at what was passed on: so what is asked of it has the answers of that.
  pub passed : Leads session start (passed_at history)
  pub guard : guard_of session ≡ Some (guard_at history)

-- A handle holds such a session.
abbrev pub LeadsGuardedTo : Option HostSession → (start : ℕ) → GuardedHistory → Type 0
LeadsGuardedTo None start history = ⊥
LeadsGuardedTo (Some session) start history = LeadsGuarded session start history

-- what a session with a guard begins with
abbrev pub guarded_begun : Config → (cname : List ℕ) → List ItemGiven → (word : ℕ) → GuardedHistory
guarded_begun config cname items word = record {
  settings = guard_given config.capacity config.guard;
  setup = setup_given config cname items;
  word = word;
  acts = [];
}

-- ---- Statuses

abbrev pub status_of_reason : Reason → ℕ
status_of_reason Stranger = 24
status_of_reason Crowd = 25

abbrev pub status_of_untaken : Untaken → ℕ
status_of_untaken (Refused refusal) = status_of_refusal refusal
status_of_untaken (HeldBack reason) = status_of_reason reason

abbrev pub status_of_judged : Option Untaken → ℕ
status_of_judged None = 0
status_of_judged (Some untaken) = status_of_untaken untaken

abbrev pub status_of_guarded : GuardedAnswer → ℕ
status_of_guarded answer = status_of_judged (result_err answer)

-- ---- Answers

-- A step and the host's octets say what is answered. Of what is not taken they hand nothing out.
abbrev pub HandsOutGuarded : HostStep → (before after : List ℕ) → GuardedAnswer → Type 0
HandsOutGuarded step before after (Ok answer) = HandsOut step before after (Ok answer)
HandsOutGuarded step before after (Err untaken) = HandsNothing step × (after ≡ before)

-- A session with a guard is told an event: what its participant and its guard reply to that.
abbrev pub RepliesGuarded : (old : HostSession) (event : EventValue) (before after : List ℕ) →
    Result WrittenStep Untaken → (new : HostSession) → Type 0
RepliesGuarded old event before after reply new =
    (guard : GuardValue) → guard_of old ≡ Some guard →
    (later : GuardValue) × (guard_of new ≡ Some later)
    × Replies (both old.participant guard) event before after reply (both new.participant later)

-- A guard before a participant says of a datagram by a status whether the participant is to be told of it.
pub record IsJudged
    (participant : ParticipantValue) (old : GuardValue) (event : EventValue) (status : ℕ) (new : GuardValue)
    : Type 0 where
  pub untaken : Option Untaken
  pub told : status ≡ status_of_judged untaken
  pub held : IfSome untaken (λ reason. HoldsBack participant old event reason new)
  pub passes : untaken ≡ None → PassesOn participant old event new

-- A session says of a datagram by a status whether its participant is to be told of it: without a guard it always is.
pub record Judges (old : HostSession) (event : EventValue) (status : ℕ) (new : HostSession) : Type 0 where
  pub unguarded : old.guard ≡ None → (status ≡ 0) × (new ≡ old)
  pub told : (new.start ≡ old.start) × (new.participant ≡ old.participant)
  pub held : status ≢ 0 → (untaken : Untaken) × (status ≡ status_of_untaken untaken)
      × ((octets : List ℕ) → RepliesGuarded old event octets octets (Err untaken) new)
  pub passes : status ≡ 0 → (before after : List ℕ) (reply : Result WrittenStep Refusal)
      (later : ParticipantValue) → ParticipantReplies old.participant event before after reply later →
      RepliesGuarded old event before after (as_refused reply) (record new { participant = later })

-- A number is the horizon of silence of a tick at a moment, where a session has a guard.
abbrev pub GoesBy : HostSession → (moment silent : ℕ) → Type 0
GoesBy session moment silent =
    (guard : GuardValue) → guard_of session ≡ Some guard → (history : History) →
    StandsAt session.participant history → silent ≡ silent_in_life (setup_at history) moment (life_at history)

-- The guard of a session makes its check of a tick that was taken, and none of one that was refused.
pub record Checks
    (old : HostSession) (moment silent : ℕ) (reply : Result WrittenStep Refusal) (new : HostSession) : Type 0 where
  pub told : (new.start ≡ old.start) × (new.participant ≡ old.participant)
  pub taken : (guard : GuardValue) → guard_of old ≡ Some guard →
      IfOk reply (λ step. guard_of new ≡ Some (after (check_made moment silent) guard))
  pub refused : OnErr reply (new ≡ old)
  pub unguarded : old.guard ≡ None → new ≡ old

-- A session with a guard that stands at a history is told an act. The status, the step and the host's octets say what
-- the history answers to it. Then the session stands at the history with the act, which the step shows.
pub record ServesGuarded
    (start : ℕ) (history : GuardedHistory) (act : Act)
    (after : Option HostSession) (result : ℕ) (step : HostStep) (was octets : List ℕ)
    : Type 0 where
  pub status : result ≡ status_of_guarded (guarded_answer history act)
  pub handed : HandsOutGuarded step was octets (guarded_answer history act)
  pub not_too_late : IsTakenInTime history act (guarded_answer history act)
  pub stands : LeadsGuardedTo after start (with_told history act)
  pub shows : Shows start step (passed_at (with_told history act))

-- A call tells the session of a handle, which has a guard, an event at the moment since the start that the host's clock
-- shows. What comes before the start is refused, and the guard does not see it.
pub record TellsGuarded
    (event : (moment : ℕ) → EventValue) (now : ℕ) (before after : Option HostSession) (result : ℕ) (step : HostStep)
    (was octets : List ℕ)
    : Type 0 where
  pub serves : (start moment : ℕ) (history : GuardedHistory) (act : Act) → LeadsGuardedTo before start history →
      now ≡ start + moment → IsActOfEvent (event moment) act →
      ServesGuarded start history act after result step was octets
  pub early : (start : ℕ) (history : GuardedHistory) → LeadsGuardedTo before start history → now < start →
      RefusesEarly start (passed_at history) before after result step was octets

-- ---- What was held back

-- 2^64 - 1 stands for no origin.
abbrev pub origin_shown : Option ℕ → ℕ
origin_shown None = 2 ^ 64 - 1
origin_shown (Some origin) = origin

pub record ShowsHeldBack (shown : HostCounts) (counts : Counts) : Type 0 where
  pub strangers : shown.strangers ≡ counts.strangers
  pub crowds : shown.crowds ≡ counts.crowds
  pub last_stranger : shown.last_stranger ≡ origin_shown counts.last_stranger
  pub last_crowd : shown.last_crowd ≡ origin_shown counts.last_crowd

-- ---- What a host says to the guard

-- A session that is held has no guard, as the status says.
abbrev pub SaysUnguarded : (before : Option HostSession) (result : ℕ) → Type 0
SaysUnguarded before result = (session : HostSession) → before ≡ Some session → session.guard ≡ None → result ≡ 19

-- What is said to a guard before the start is refused as what comes before moment 0, and the guard does not hear it.
abbrev pub RefusesBeforeStart : (now : ℕ) (before after : Option HostSession) (result : ℕ) → Type 0
RefusesBeforeStart now before after result =
    (start : ℕ) (history : GuardedHistory) → LeadsGuardedTo before start history → now < start →
    (result ≡ 2) × (after ≡ before)

abbrev pub crowd_unless : Bool → ℕ
crowd_unless true = 0
crowd_unless false = 25

-- A call says at a moment that a source is expected from a peer, or that a peer is trusted. The status says whether the
-- guard allows it, and the session stands at the history with that.
pub record Instructs
    (is_allowed : GuardValue → Bool) (act : GuardedAct) (start : ℕ) (history : GuardedHistory)
    (after : Option HostSession) (result : ℕ)
    : Type 0 where
  pub status : result ≡ crowd_unless (is_allowed (guard_at history))
  pub stands : LeadsGuardedTo after start (with_guarded history act)

abbrev pub Expects : (ssrc peer now : ℕ) (before after : Option HostSession) (result : ℕ) → Type 0
Expects ssrc peer now before after result =
    (start moment : ℕ) (history : GuardedHistory) → LeadsGuardedTo before start history → now ≡ start + moment →
    Instructs (may_have ssrc (origin_of peer) moment) (expected ssrc (origin_of peer) moment) start history after result

abbrev pub Trusts : (peer : ℕ) (before after : Option HostSession) (result : ℕ) → Type 0
Trusts peer before after result =
    (start : ℕ) (history : GuardedHistory) → LeadsGuardedTo before start history →
    Instructs (λ guard. may_trust (origin_of peer) guard.trusted) (trusted (origin_of peer)) start history after result
