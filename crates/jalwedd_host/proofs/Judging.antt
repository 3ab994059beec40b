-- A session with a guard: what that says of a datagram, and its check of a tick.
use Rattle.std.proofs.Common.{◌≡◌, ◌≢◌, ℕ, List, Option, Some, None, IfSome, Result, Ok, Err, option_map, refl, sym, ap, subst, ◌∙◌}
use Rattle.std.specs.Box.{box_value}
use Rattle.std.specs.declared.alloc.Global.{Global}
use Rattle.std_alloc.specs.declared.boxed.Box.{Box}
use Rattle.rtcp_guard.specs.Guarding.{GuardValue, after, check_made}
use Rattle.rtcp_engine.specs.declared.refusal.Refusal.{Refusal}
use Rattle.rtcp_engine.specs.declared.step.WrittenStep.{WrittenStep}
use Rattle.rtcp_engine.specs.answers.Acts.{EventValue, time_passed}
use Rattle.rtcp_engine.specs.state.Promises.{Replies as ParticipantReplies}
use Rattle.rtcp_engine.specs.state.States.{ParticipantValue}
use Rattle.rtcp_guarded.specs.Promises.{HoldsBack, PassesOn, Replies}
use Rattle.rtcp_guarded.specs.Views.{as_refused, both}
use Rattle.rtcp_engine.specs.declared.config.ConfigError.TheVariants.{Cname, Capacity, Limit, Bandwidth, Rate, Item}
use Rattle.rtcp_engine.specs.declared.refusal.Refusal.TheVariants.{Left, Backwards, TooFar, TooMany, Wire, Rtp, OwnSsrc, Settings}
use Rattle.rtcp_guarded.specs.declared.untaken.Reason.TheVariants.{Stranger, Crowd}
use Rattle.rtcp_guarded.specs.declared.untaken.Untaken.{Untaken}
use Rattle.rtcp_guarded.specs.declared.untaken.Untaken.TheVariants.{HeldBack, Refused}
use Rattle.rtcp_guarded.proofs.LawLemmas.{tick_reply}
use Rattle.jalwedd_host.specs.declared.session.HostSession.{HostSession}
use Rattle.jalwedd_host.specs.Guards.{Checks, GoesBy, Judges, RepliesGuarded, guard_of, status_of_judged, status_of_untaken}

no_guard : (session : HostSession) {guard : GuardValue} → guard_of session ≡ Some guard → session.guard ≡ None → ⊥
no_guard session {guard} some none =
    let e : None ≡ Some guard = sym (ap (option_map box_value) none) ∙ some in cc

taken_judged : (untaken : Option Untaken) → status_of_judged untaken ≡ 0 → untaken ≡ None
taken_judged None is = refl
taken_judged (Some (Refused Left)) is = absurd cc
taken_judged (Some (Refused Backwards)) is = absurd cc
taken_judged (Some (Refused TooFar)) is = absurd cc
taken_judged (Some (Refused TooMany)) is = absurd cc
taken_judged (Some (Refused (Wire fault))) is = absurd cc
taken_judged (Some (Refused (Rtp fault))) is = absurd cc
taken_judged (Some (Refused OwnSsrc)) is = absurd cc
taken_judged (Some (Refused (Settings Cname))) is = absurd cc
taken_judged (Some (Refused (Settings Capacity))) is = absurd cc
taken_judged (Some (Refused (Settings Limit))) is = absurd cc
taken_judged (Some (Refused (Settings Bandwidth))) is = absurd cc
taken_judged (Some (Refused (Settings Rate))) is = absurd cc
taken_judged (Some (Refused (Settings Item))) is = absurd cc
taken_judged (Some (HeldBack Stranger)) is = absurd cc
taken_judged (Some (HeldBack Crowd)) is = absurd cc

pub judged : (old : HostSession) (event : EventValue) (untaken : Option Untaken) (first : GuardValue)
    (later : Box GuardValue Global) → guard_of old ≡ Some first →
    IfSome untaken (λ reason. HoldsBack old.participant first event reason (box_value later)) →
    (untaken ≡ None → PassesOn old.participant first event (box_value later)) →
    Judges old event (status_of_judged untaken) (record old { guard = Some later })
judged old event untaken first later has held passes = record {
  unguarded = λ none. absurd (no_guard old has none);
  told = (refl, refl);
  held = held_of untaken held;
  passes = λ is before rest reply participant replies guard at.
      let same : first ≡ guard = cc (has, at) in (
        box_value later,
        refl,
        subst (λ (g : GuardValue). Replies (both old.participant g) event before rest (as_refused reply)
            (both participant (box_value later))) same
            (passes (taken_judged untaken is) before rest reply participant replies),
      );
}
  where
    held_of : (u : Option Untaken) →
        IfSome u (λ reason. HoldsBack old.participant first event reason (box_value later)) →
        status_of_judged u ≢ 0 →
        (reason : Untaken) × (status_of_judged u ≡ status_of_untaken reason)
        × ((octets : List ℕ) → RepliesGuarded old event octets octets (Err reason) (record old { guard = Some later }))
    held_of None holds other = absurd (other refl)
    held_of (Some reason) holds other = (
      reason,
      refl,
      λ octets guard at.
          let same : first ≡ guard = cc (has, at) in (
            box_value later,
            refl,
            subst (λ (g : GuardValue). Replies (both old.participant g) event octets octets (Err reason)
                (both old.participant (box_value later))) same (holds octets),
          ),
    )

pub ticked : (old mid new : HostSession) (moment w1 w2 silent : ℕ) {was octets : List ℕ}
    (reply : Result WrittenStep Refusal) → mid.guard ≡ old.guard → GoesBy old moment silent →
    ParticipantReplies old.participant (time_passed moment w1 w2) was octets reply mid.participant →
    Checks mid moment silent reply new →
    RepliesGuarded old (time_passed moment w1 w2) was octets (as_refused reply) new
ticked old mid new moment w1 w2 silent {was} {octets} (Ok step) same goes replies checks guard is =
    let later = after (check_made moment silent) guard in (
      later,
      checks.taken guard (ap (option_map box_value) same ∙ is),
      subst (λ (p : ParticipantValue). Replies (both old.participant guard) (time_passed moment w1 w2) was octets
          (Ok step) (both p later)) (sym checks.told.1)
          (tick_reply {old = both old.participant guard} {new = both mid.participant later} moment w1 w2 silent
          (Ok step)
          (goes guard is) refl replies),
    )
ticked old mid new moment w1 w2 silent {was} {octets} (Err refusal) same goes replies checks guard is = (
  guard,
  ap guard_of checks.refused ∙ ap (option_map box_value) same ∙ is,
  subst (λ (p : ParticipantValue). Replies (both old.participant guard) (time_passed moment w1 w2) was octets
      (as_refused (Err refusal)) (both p guard)) (sym checks.told.1)
      (tick_reply {old = both old.participant guard} {new = both mid.participant guard} moment w1 w2 silent
      (Err refusal) (goes guard is) refl replies),
)
