-- A call of a session is one of its participant, at the moment counted from the start.
use Rattle.std.proofs.Common.{◌≡◌, ◌+◌, ℕ, List, Option, Some, Result, sym, ap, subst, ◌∙◌, arith}
use Rattle.rtcp_engine.specs.declared.refusal.Refusal.{Refusal}
use Rattle.rtcp_engine.specs.declared.step.WrittenStep.{WrittenStep}
use Rattle.rtcp_engine.specs.answers.Acts.{EventValue, IsActOfEvent}
use Rattle.rtcp_engine.specs.answers.Answers.{answer_of, followed_by}
use Rattle.rtcp_engine.specs.answers.Histories.{History}
use Rattle.rtcp_engine.specs.state.Promises.{Replies}
use Rattle.rtcp_engine.specs.bounds.Runs.{IsAnsweredInTime}
use Rattle.rtcp_engine.specs.state.Views.{reply_value}
use Rattle.jalwedd_host.specs.declared.session.HostSession.{HostSession}
use Rattle.jalwedd_host.specs.declared.step.HostStep.{HostStep}
use Rattle.jalwedd_host.specs.Answers.{HandsOut, Shows, status_of}
use Rattle.jalwedd_host.specs.Handles.{Leads, LeadsTo}
use Rattle.jalwedd_host.specs.Promises.{TellsSession}
use Rattle.jalwedd_host.proofs.LawLemmas.{leads_as, session_of}

-- A session that is held is told an event at a moment counted from its start, and is put back, and the step shows it.
pub tells : {was_held held : Option HostSession} {session before after : HostSession} {now moment result : ℕ}
    {was octets : List ℕ} {step : HostStep} (event : ℕ → EventValue) (reply : Result WrittenStep Refusal) →
    was_held ≡ Some session → now ≡ session.start + moment → before ≡ session → after.start ≡ before.start →
    Replies before.participant (event moment) was octets reply after.participant → held ≡ Some after
    → result ≡ status_of (reply_value octets reply) → HandsOut step was octets (reply_value octets reply)
    → ((start : ℕ) (history : History) → Leads after start history → Shows start step history)
    → TellsSession event now was_held held result step was octets
tells {was_held} {held} {session} {before} {after} {now} {moment} {result} {was} {octets} {step} event reply gives
    counted is counts replies held_is status handed shown = record {
      serves = λ start other history act leads told is_act.
          let holds = session_of was_held session start history gives leads in
          let from = leads_as session before start history (sym is) holds in
          let same : other ≡ moment = omega (arith, counted, told, holds.counts) in
          let takes = replies.takes act (subst (λ (m : ℕ). IsActOfEvent (event m) act) same is_act) in
          let answer : reply_value octets reply ≡ answer_of history act = takes.answer history from.stands in
          let next : Leads after start (followed_by history act) = record {
            stands = takes.stands history from.stands;
            counts = counts ∙ from.counts;
            range = from.range;
          } in
          record {
            status = status ∙ ap status_of answer;
            handed = subst (HandsOut step was octets) answer handed;
            not_too_late = subst (IsAnsweredInTime history act) answer (takes.not_too_late history from.stands);
            stands = subst (λ (h : Option HostSession). LeadsTo h start (followed_by history act)) (sym held_is) next;
            shows = shown start (followed_by history act) next;
          };
      early = λ start history leads low.
          absurd (omega (arith, low, counted, (session_of was_held session start history gives leads).counts));
    }
