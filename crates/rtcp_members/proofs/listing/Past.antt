-- What is told of a source came by the moment by which the facts of its trace came.
use Rattle.std.proofs.Common.{◌≡◌, ◌≤◌, ◌==◌, ◌&&◌, ℕ, Bool, true, false, is_some, if◌then◌else◌, List, [], ◌∷◌, ◌++◌}
use Rattle.std.proofs.Common.{Option, Some, None, IfSome, All, sym, subst, arith}
use Rattle.std.proofs.lemmas.List.Elements.{All-nil, All-cons}
use Rattle.rtcp_wire.specs.declared.fact.Fact.{Fact}
use Rattle.rtcp_wire.specs.declared.fact.Fact.TheVariants.{Told, Media}
use Rattle.rtcp_wire.specs.Facts.{subject, is_gone}
use Rattle.rtcp_source.specs.Packets.{Given, block_made}
use Rattle.rtcp_source.specs.Fields.{last_report_of}
use Rattle.rtcp_members.specs.Traces.{TraceStep, fact_came, block_made_of, is_naming, with_facts}
use Rattle.rtcp_members.specs.Stays.{mark_at, mark_of, before_mark, step_moment, last_naming, stay_of}
use Rattle.rtcp_members.specs.Entries.{given_of}
use Rattle.rtcp_members.specs.Listings.{StateValue, state_in_stay, ListsAbove, IsWalk}
use Rattle.rtcp_members.specs.Past.{CameBy, IsKnownBy}
use Rattle.rtcp_members.proofs.StepByStep.{mark_after}
use Rattle.rtcp_members.proofs.stays.StayLaws.{stay_is_prefix}

-- ---- Traces

pub came_later : (earlier latest : ℕ) (trace : List TraceStep) → earlier ≤ latest →
    CameBy earlier trace → CameBy latest trace
came_later earlier latest [] order came = tt
came_later earlier latest (step ∷ trace) order came =
    (omega (arith, order, came.0), came_later earlier latest trace order came.1)

pub facts_came : (latest moment : ℕ) (facts : List Fact) (trace : List TraceStep) → moment ≤ latest →
    CameBy latest trace → CameBy latest (with_facts facts moment trace)
facts_came latest moment [] trace past came = came
facts_came latest moment (fact ∷ facts) trace past came =
    facts_came latest moment facts (fact_came fact moment ∷ trace) past (past, came)

-- ---- Stays

prefix_came : (latest : ℕ) (since : List TraceStep) (admission : TraceStep) (before : List TraceStep) →
    CameBy latest (since ++ admission ∷ before) → CameBy latest (since ++ admission ∷ [])
prefix_came latest [] admission before came = (came.0, tt)
prefix_came latest (step ∷ since) admission before came =
    (came.0, prefix_came latest since admission before came.1)

stay_came : (latest capacity : ℕ) (trace : List TraceStep) (ssrc : ℕ) (stay : List TraceStep) →
    stay_of capacity trace ssrc ≡ Some stay → CameBy latest trace → CameBy latest stay
stay_came latest capacity trace ssrc stay found came =
    let is = stay_is_prefix capacity trace ssrc stay found in
    let whole : CameBy latest (is.since ++ is.admission ∷ is.before) = subst (CameBy latest) is.parts came in
    subst (CameBy latest) (sym is.whole) (prefix_came latest is.since is.admission is.before whole)

unmarked_came : (latest ssrc : ℕ) (stay : List TraceStep) → CameBy latest stay → CameBy latest (before_mark ssrc stay)
unmarked_came latest ssrc [] came = tt
unmarked_came latest ssrc (step ∷ earlier) came =
    by_mark (is_some (mark_of ssrc (step ∷ earlier))) (unmarked_came latest ssrc earlier came.1)
  where
    by_mark : (marked : Bool) → CameBy latest (before_mark ssrc earlier) →
        CameBy latest (if marked then before_mark ssrc earlier else step ∷ earlier)
    by_mark true before = before
    by_mark false before = came

-- ---- The last sighting and the BYE

named_by : (latest ssrc : ℕ) (stay : List TraceStep) → CameBy latest stay → last_naming ssrc stay ≤ latest
named_by latest ssrc [] came = omega arith
named_by latest ssrc (step ∷ earlier) came = by_naming (is_naming ssrc step) (named_by latest ssrc earlier came.1)
  where
    by_naming : (naming : Bool) → last_naming ssrc earlier ≤ latest →
        (if naming then step_moment step else last_naming ssrc earlier) ≤ latest
    by_naming true before = came.0
    by_naming false before = before

abbrev IsBy : (latest : ℕ) → Option ℕ → Type 0
IsBy latest mark = IfSome mark (λ moment. moment ≤ latest)

marked_if : (latest moment : ℕ) (goes : Bool) → moment ≤ latest → IsBy latest (if goes then Some moment else None)
marked_if latest moment true came = came
marked_if latest moment false came = tt

marked_at : (latest ssrc : ℕ) (step : TraceStep) (mark : Option ℕ) → step_moment step ≤ latest → IsBy latest mark →
    IsBy latest (mark_at ssrc step mark)
marked_at latest ssrc step (Some mark) came before = before
marked_at latest ssrc (fact_came fact moment) None came before =
    marked_if latest moment (is_gone fact && subject fact == ssrc) came
marked_at latest ssrc step None came before = tt

marked_by : (latest ssrc : ℕ) (stay : List TraceStep) → CameBy latest stay → IsBy latest (mark_of ssrc stay)
marked_by latest ssrc [] came = tt
marked_by latest ssrc (step ∷ earlier) came =
    subst (IsBy latest) (sym (mark_after ssrc step earlier))
    (marked_at latest ssrc step (mark_of ssrc earlier) came.0 (marked_by latest ssrc earlier came.1))

-- ---- The last sender report

abbrev ReportedBy : (latest : ℕ) → List Given → Type 0
ReportedBy latest given = IfSome (last_report_of given) (λ last_report. last_report.moment ≤ latest)

listed_if : (latest : ℕ) (own : Bool) (more : Given) (given : List Given) → ReportedBy latest (more ∷ given) →
    ReportedBy latest given → ReportedBy latest (if own then more ∷ given else given)
listed_if latest true more given with_more before = with_more
listed_if latest false more given with_more before = before

reported_by : (latest ssrc : ℕ) (stay : List TraceStep) → CameBy latest stay →
    ReportedBy latest (given_of ssrc stay)
reported_by latest ssrc [] came = tt
reported_by latest ssrc (fact_came (Told other ntp rtp) moment ∷ earlier) came =
    listed_if latest (other == ssrc) _ (given_of ssrc earlier) came.0 (reported_by latest ssrc earlier came.1)
reported_by latest ssrc (fact_came (Media other seq timestamp octets rate) moment ∷ earlier) came =
    let before = reported_by latest ssrc earlier came.1 in
    listed_if latest (other == ssrc) _ (given_of ssrc earlier) before before
reported_by latest ssrc (block_made_of other ∷ earlier) came =
    let before = reported_by latest ssrc earlier came.1 in
    listed_if latest (other == ssrc) block_made (given_of ssrc earlier) before before
reported_by latest ssrc (step ∷ earlier) came = reported_by latest ssrc earlier came.1

-- ---- What is told

stay_reported_by : (latest ssrc : ℕ) (stay : List TraceStep) → CameBy latest stay →
    IsKnownBy latest (state_in_stay ssrc stay)
stay_reported_by latest ssrc stay came =
    let own = unmarked_came latest ssrc stay came in
    record {
      heard = named_by latest ssrc (before_mark ssrc stay) own;
      left = marked_by latest ssrc stay came;
      last_report = reported_by latest ssrc (before_mark ssrc stay) own;
    }

module _ (latest capacity : ℕ) (trace : List TraceStep) (came : CameBy latest trace) where
  pub listed_of_past : (after : Option ℕ) (state : StateValue) → ListsAbove after capacity trace (Some state) →
      IsKnownBy latest state
  listed_of_past after state tells =
      let stay = stay_came latest capacity trace state.ssrc tells.stay tells.present came in
      subst (IsKnownBy latest) (sym tells.says) (stay_reported_by latest state.ssrc tells.stay stay)

  pub walk_of_past : (after : Option ℕ) (states : List StateValue) → IsWalk after capacity trace states →
      All (IsKnownBy latest) states
  walk_of_past after [] walk = All-nil (IsKnownBy latest)
  walk_of_past after (state ∷ states) walk =
      All-cons (IsKnownBy latest) state states (listed_of_past after state walk.0)
      (walk_of_past (Some state.ssrc) states walk.1)
