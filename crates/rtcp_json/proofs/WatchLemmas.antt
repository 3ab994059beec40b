-- What a watcher wrote of a whole session.
use Rattle.std.proofs.Common.{◌≡◌, ◌∙◌, ap, ℕ, List, [], ◌∷◌, ◌++◌, Option, Some, None, refl, subst, sym}
use Rattle.std.proofs.KnownBytes.{Appends-nil, Appends-trans}
use Rattle.std.specs.Io.KnownBytes.{Appends}
use Rattle.rtcp_engine.specs.answers.Acts.{EventValue}
use Rattle.rtcp_engine.specs.state.States.{ParticipantValue}
use Rattle.rtcp_guarded.specs.Guarded.{GuardedAnswer}
use Rattle.rtcp_serve.specs.Observers.{Notice, TakesAll, event_told, telling}
use Rattle.rtcp_text.specs.declared.fault.TextFault.{TextFault}
use Rattle.rtcp_json.specs.declared.watcher.JsonWatcher.{JsonWatcher}
use Rattle.rtcp_json.specs.Watchers.{ShowsNotice, ShowsNotices, Tells, Watches, fault_of, held_by, moment_after, moment_after_all, moment_told}
use Rattle.rtcp_json.proofs.NewsLemmas.{may_list}

-- What it wrote of an event.
pub told_shown : {W : Type 0} {contents : W → Option (List ℕ)} {event : EventValue} {answer : GuardedAnswer}
    {participant : ParticipantValue} {before after : JsonWatcher W}
    → Tells contents event answer participant before after
    → (text : List ℕ) × ShowsNotice (moment_told before) (event_told (telling event answer)) text
    × Appends (held_by contents before) (held_by contents after) text
told_shown tells = (
  tells.line ++ tells.news,
  (tells.line, tells.news, tells.tells, may_list _ _ _ _ _ tells.news tells.lists, refl),
  tells.writes,
)

-- the moment of its last event
moment_kept : {W : Type 0} (contents : W → Option (List ℕ)) (notices : List Notice) (before after : JsonWatcher W) →
    TakesAll (Watches contents) notices before after → moment_told after ≡ moment_after_all (moment_told before) notices
moment_kept contents [] before after same = ap moment_told same
moment_kept contents (notice ∷ earlier) before after (mid, taken, last) =
    last.moment ∙ ap (λ moment. moment_after moment notice) (moment_kept contents earlier before mid taken)

-- One that has no fault now had none before.
whole_before : {W : Type 0} {contents : W → Option (List ℕ)} {notice : Notice} (before after : JsonWatcher W) →
    Watches contents notice before after → fault_of after ≡ None → fault_of before ≡ None
whole_before before after watches whole = at (fault_of before) refl
  where
    at : (fault : Option TextFault) → fault_of before ≡ fault → fault ≡ None
    at None is = refl
    at (Some fault) is = let kept = watches.lasting fault is in cc

pub session_shown : {W : Type 0} (contents : W → Option (List ℕ)) (notices : List Notice) (before after : JsonWatcher W)
    → TakesAll (Watches contents) notices before after → fault_of after ≡ None →
    (text : List ℕ) × ShowsNotices (moment_told before) notices text
    × Appends (held_by contents before) (held_by contents after) text
session_shown contents [] before after same whole = (
  [],
  refl,
  subst (λ w. Appends (held_by contents before) (held_by contents w) []) (sym same)
      (Appends-nil (held_by contents before)),
)
session_shown contents (notice ∷ earlier) before after (mid, taken, last) whole =
    let first = session_shown contents earlier before mid taken (whole_before mid after last whole) in
    let more = last.writes whole in
    let moments = moment_kept contents earlier before mid taken in (
      first.0 ++ more.0,
      (first.0, more.0, first.1, subst (λ moment. ShowsNotice moment notice more.0) moments more.1, refl),
      Appends-trans (held_by contents before) (held_by contents mid) (held_by contents after) first.0 more.0 first.2
          more.2,
    )
