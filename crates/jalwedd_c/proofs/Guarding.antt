-- A call of a session that has a guard.
use Rattle.std.proofs.Common.{◌≡◌, ◌≢◌, ◌+◌, ℕ, List, Option, Some, Result, Ok, Err, OnErr, option_map, refl, sym, ap, subst, ◌∙◌, arith}
use Rattle.std.specs.Box.{box_value}
use Rattle.rtcp_engine.specs.declared.refusal.Refusal.{Refusal}
use Rattle.rtcp_engine.specs.declared.step.WrittenStep.{WrittenStep}
use Rattle.rtcp_engine.specs.answers.Acts.{Act, EventValue, IsActOfEvent}
use Rattle.rtcp_engine.specs.answers.Histories.{History}
use Rattle.rtcp_engine.specs.state.Promises.{Replies as ParticipantReplies}
use Rattle.rtcp_engine.specs.state.States.{ParticipantValue, KeepsCapacity}
use Rattle.rtcp_engine.specs.state.Views.{reply_value as participant_reply}
use Rattle.rtcp_guarded.specs.Guarded.{IsTakenInTime, guard_at, guarded_answer, passed_at, with_told}
use Rattle.rtcp_guarded.specs.Views.{StandsAt, as_refused, both, reply_value}
use Rattle.rtcp_guarded.specs.declared.untaken.Untaken.{Untaken}
use Rattle.rtcp_guarded.proofs.LawLemmas.{IsUnseen, unseen_reply}
use Rattle.jalwedd_host.specs.declared.session.HostSession.{HostSession}
use Rattle.jalwedd_host.specs.declared.step.HostStep.{HostStep}
use Rattle.jalwedd_host.specs.Answers.{HandsNothing, HandsOut, Shows, status_of}
use Rattle.jalwedd_host.specs.Guards.{HandsOutGuarded, Judges, LeadsGuarded, LeadsGuardedTo, RepliesGuarded, TellsGuarded, status_of_guarded}
use Rattle.jalwedd_host.specs.Handles.{IsUnguarded, KeepsWithin, Leads, told_in}
use Rattle.jalwedd_host.specs.Promises.{SparesArrival, SparesSession}
use Rattle.jalwedd_host.proofs.LawLemmas.{guarded_as, guarded_of}

-- A session that is held is told an event at a moment counted from its start, and is put back, and the step shows it.
pub tells_guarded : {was_held held : Option HostSession} {session before after : HostSession} {now moment result : ℕ}
    {was octets : List ℕ} {step : HostStep} (event : ℕ → EventValue) (reply : Result WrittenStep Untaken) →
    was_held ≡ Some session → now ≡ session.start + moment → before ≡ session → after.start ≡ before.start →
    RepliesGuarded before (event moment) was octets reply after → held ≡ Some after →
    result ≡ status_of_guarded (reply_value octets reply) → HandsOutGuarded step was octets (reply_value octets reply) →
    ((start : ℕ) (history : History) → Leads after start history → Shows start step history) →
    TellsGuarded event now was_held held result step was octets
tells_guarded {was_held} {held} {session} {before} {after} {now} {moment} {result} {was} {octets} {step} event reply
    gives counted is counts replies held_is status handed shown = record {
      serves = λ start other history act leads told is_act.
          let holds = guarded_of was_held session start history gives leads in
          let from = guarded_as session before start history (sym is) holds in
          let same : other ≡ moment = omega (arith, counted, told, holds.passed.counts) in
          let (later, later_is, its) = replies (guard_at history) from.guard in
          let stands : StandsAt (both before.participant (guard_at history)) history =
          record { participant = from.passed.stands; guard = refl } in
          let takes = its.takes act (subst (λ (m : ℕ). IsActOfEvent (event m) act) same is_act) in
          let answer : reply_value octets reply ≡ guarded_answer history act = takes.answer history stands in
          let at = takes.stands history stands in
          let next : LeadsGuarded after start (with_told history act) = record {
            passed = record {
              stands = at.participant;
              counts = counts ∙ from.passed.counts;
              range = from.passed.range;
            };
            guard = later_is ∙ ap Some at.guard;
          } in
          record {
            status = status ∙ ap status_of_guarded answer;
            handed = subst (HandsOutGuarded step was octets) answer handed;
            not_too_late = subst (IsTakenInTime history act) answer (takes.not_too_late history stands);
            stands = subst (λ (h : Option HostSession). LeadsGuardedTo h start (with_told history act)) (sym held_is)
                next;
            shows = shown start (passed_at (with_told history act)) next.passed;
          };
      early = λ start history leads low.
          absurd (omega (
            arith,
            low,
            counted,
            (guarded_of was_held session start history gives leads).passed.counts,
          ));
    }

-- ---- Calls that the guard does not see, or only after the participant took them

status_as : (octets : List ℕ) (reply : Result WrittenStep Refusal) →
    status_of (participant_reply octets reply) ≡ status_of_guarded (reply_value octets (as_refused reply))
status_as octets (Ok step) = refl
status_as octets (Err refusal) = refl

handed_as : (step : HostStep) (was octets : List ℕ) (reply : Result WrittenStep Refusal) →
    HandsOut step was octets (participant_reply octets reply) →
    HandsOutGuarded step was octets (reply_value octets (as_refused reply))
handed_as step was octets (Ok told) handed = handed
handed_as step was octets (Err refusal) (kind, size, changed, others, kept) = ((kind, size, changed, others), kept)

pub tells_refused : {was_held held : Option HostSession} {session before after : HostSession} {now moment result : ℕ}
    {was octets : List ℕ} {step : HostStep} (event : ℕ → EventValue) (reply : Result WrittenStep Refusal) →
    was_held ≡ Some session → now ≡ session.start + moment → before ≡ session → after.start ≡ before.start →
    RepliesGuarded before (event moment) was octets (as_refused reply) after → held ≡ Some after →
    result ≡ status_of (participant_reply octets reply) → HandsOut step was octets (participant_reply octets reply) →
    ((start : ℕ) (history : History) → Leads after start history → Shows start step history) →
    TellsGuarded event now was_held held result step was octets
tells_refused {was = was} {octets = octets} {step = step} event reply gives counted is counts replies held_is status
    handed shown =
    tells_guarded event (as_refused reply) gives counted is counts replies held_is (status ∙ status_as octets reply)
    (handed_as step was octets reply handed) shown

pub unseen : (before after : HostSession) (event : EventValue) {was octets : List ℕ} (act : Act)
    (reply : Result WrittenStep Refusal) → IsUnseen act →
    ((other : Act) → IsActOfEvent event other → other ≡ act) → IsActOfEvent event act → after.guard ≡ before.guard →
    ParticipantReplies before.participant event was octets reply after.participant →
    RepliesGuarded before event was octets (as_refused reply) after
unseen before after event act reply passes only its same replies guard is = (
  guard,
  ap (option_map box_value) same ∙ is,
  unseen_reply {old = both before.participant guard} {new = both after.participant guard} event act reply passes only
      its refl replies,
)

-- ---- What an arrival spares

pub spares_arrival : {before after : Option HostSession} {result : ℕ} {step : HostStep} {was octets : List ℕ} →
    SparesSession before after result step was octets → SparesArrival before after result step was octets
spares_arrival spares = record {
  within = spares.within;
  untaken = λ other. ap told_in (spares.refused other);
  unguarded = λ none other. spares.refused other;
  empty = spares.empty;
}

-- ---- A datagram that is judged

held_was : {was_held : Option HostSession} {session before : HostSession} → was_held ≡ Some session →
    before ≡ session → was_held ≡ Some before
held_was gives is = gives ∙ ap Some (sym is)

-- The participant is not told of it.
pub tells_held : {was_held held : Option HostSession} {session before mid : HostSession} {now moment result : ℕ}
    {octets : List ℕ} {step : HostStep} (event : ℕ → EventValue) → was_held ≡ Some session →
    now ≡ session.start + moment → before ≡ session → Judges before (event moment) result mid → result ≢ 0 →
    held ≡ Some mid → HandsNothing step →
    ((start : ℕ) (history : History) → Leads mid start history → Shows start step history) →
    TellsGuarded event now was_held held result step octets octets
tells_held {octets = octets} event gives counted is judges other held_is nothing shown =
    let (untaken, status, replies) = judges.held other in
    tells_guarded event (Err untaken) gives counted is judges.told.0 (replies octets) held_is status (nothing, refl)
    shown

pub spares_held : {was_held held : Option HostSession} {session before mid : HostSession} {result : ℕ}
    {octets : List ℕ} {step : HostStep} {event : EventValue} → was_held ≡ Some session →
    before ≡ session → Judges before event result mid → result ≢ 0 → held ≡ Some mid →
    SparesArrival was_held held result step octets octets
spares_held gives is judges differs held_is = record {
  within = λ keeps. subst KeepsWithin (sym held_is)
      (subst (λ (p : ParticipantValue). KeepsCapacity p.presence) (sym judges.told.1)
      (subst KeepsWithin (held_was gives is) keeps));
  untaken = λ other. ap told_in held_is ∙ (λ i. Some (judges.told.0 i, judges.told.1 i))
      ∙ sym (ap told_in (held_was gives is));
  unguarded = λ none. absurd (differs (judges.unguarded (subst IsUnguarded (held_was gives is) none)).0);
  empty = λ none. absurd (cc (gives, none));
}

-- The participant is told of it. Without a guard the session is as it was.
pub same_session : {was_held : Option HostSession} {session before mid : HostSession} {event : EventValue} →
    was_held ≡ Some session → before ≡ session → Judges before event 0 mid → IsUnguarded was_held → mid ≡ session
same_session gives is judges none = (judges.unguarded (subst IsUnguarded (held_was gives is) none)).1 ∙ is

pub tells_passed : {was_held held : Option HostSession} {session before mid : HostSession} {now moment result : ℕ}
    {was octets : List ℕ} {step : HostStep} (event : ℕ → EventValue) (reply : Result WrittenStep Refusal)
    (later : ParticipantValue) → was_held ≡ Some session → now ≡ session.start + moment → before ≡ session →
    Judges before (event moment) 0 mid →
    ParticipantReplies mid.participant (event moment) was octets reply later →
    held ≡ Some (record mid { participant = later }) → result ≡ status_of (participant_reply octets reply) →
    HandsOut step was octets (participant_reply octets reply) →
    ((start : ℕ) (history : History) → Leads (record mid { participant = later }) start history →
    Shows start step history) → TellsGuarded event now was_held held result step was octets
tells_passed {moment = moment} {was = was} {octets = octets} event reply later gives counted is judges replies held_is
    status handed shown =
    tells_refused event reply gives counted is judges.told.0
    (judges.passes refl was octets reply later (subst (λ (p : ParticipantValue).
    ParticipantReplies p (event moment) was octets reply later) judges.told.1 replies)) held_is status handed shown

taken_or_kept : (octets : List ℕ) (reply : Result WrittenStep Refusal) {result : ℕ} {mid later : ParticipantValue} →
    result ≡ status_of (participant_reply octets reply) → result ≢ 0 → OnErr reply (later ≡ mid) → later ≡ mid
taken_or_kept octets (Ok step) status other kept = absurd (other status)
taken_or_kept octets (Err refusal) status other kept = kept

pub spares_passed : {was_held held : Option HostSession} {session before mid : HostSession} {result : ℕ}
    {was octets : List ℕ} {step : HostStep} {event : EventValue} (reply : Result WrittenStep Refusal)
    (later : ParticipantValue) → was_held ≡ Some session → before ≡ session → Judges before event 0 mid →
    ParticipantReplies mid.participant event was octets reply later →
    held ≡ Some (record mid { participant = later }) → result ≡ status_of (participant_reply octets reply) →
    SparesArrival was_held held result step was octets
spares_passed {was_held} {before = before} {mid = mid} {octets = octets} reply later gives is judges replies held_is
    status = record {
      within = λ keeps. subst KeepsWithin (sym held_is) replies.spares.within;
      untaken = λ other.
          let same = taken_or_kept octets reply status other replies.spares.refused ∙ judges.told.1 in
          ap told_in held_is ∙ (λ i. Some (judges.told.0 i, same i)) ∙ sym (ap told_in (held_was gives is));
      unguarded = λ none other.
          let kept = (judges.unguarded (subst IsUnguarded (held_was gives is) none)).1 in
          let same = taken_or_kept octets reply status other replies.spares.refused in
          held_is ∙ (λ i. Some (record mid { participant = same i })) ∙ ap Some kept
          ∙ sym (held_was gives is);
      empty = λ none. absurd (cc (gives, none));
    }
