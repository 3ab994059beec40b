-- What a step tells of a call and of the participant.
use Rattle.std.proofs.Common.{◌≡◌, ◌<◌, ◌+◌, ◌-◌, ◌^◌, ◌++◌, ℕ, List, length, take, drop, Option, Some, None, IfSome, refl, sym, ap, ◌∙◌, subst, arith}
use Rattle.std.proofs.lemmas.List.{length-take-le, take-append-drop}
use Rattle.rtcp_engine.specs.declared.step.Standing.{Standing}
use Rattle.rtcp_engine.specs.declared.step.Written.{Written}
use Rattle.rtcp_engine.specs.answers.Histories.{History}
use Rattle.rtcp_engine.specs.state.Promises.{SaysStanding}
use Rattle.rtcp_engine.specs.state.Views.{LeavesRest, out_in, size_written}
use Rattle.jalwedd_host.specs.declared.session.HostSession.{HostSession}
use Rattle.jalwedd_host.specs.declared.step.HostStep.{HostStep}
use Rattle.jalwedd_host.specs.Answers.{Shows, ShowsStanding, kind_shown, number_written, octets_of}
use Rattle.jalwedd_host.specs.Handles.{Leads}

fits : (start : ℕ) (next : Option ℕ) → start < 2 ^ 63 → IfSome next (λ n. n < 2 ^ 51) →
    IfSome next (λ n. start + n < 2 ^ 64 - 1)
fits start None low bounded = tt
fits start (Some n) low bounded = omega (arith, low, bounded)

-- A step that shows a standing shows the history that a participant stands at.
pub shows : (session : HostSession) (standing : Standing) (step : HostStep) →
    SaysStanding standing session.participant →
    (IfSome standing.next (λ n. session.start + n < 2 ^ 64 - 1) → ShowsStanding session.start step standing)
    → (start : ℕ) (history : History) → Leads session start history → Shows start step history
shows session standing step says shown start history leads =
    let low : session.start < 2 ^ 63 = omega (arith, leads.counts, leads.range) in
    subst (λ (s : Standing). ShowsStanding start step s) (says.exact history leads.stands)
    (subst (λ (n : ℕ). ShowsStanding n step standing) leads.counts
    (shown (fits session.start standing.next low says.bounded)))

pub number_shown : (octets : List ℕ) (written : Option Written) →
    number_written written ≡ kind_shown (out_in octets written)
number_shown octets None = refl
number_shown octets (Some out) = refl

-- A compound stands at the start of the octets, and has as many as it says.
pub stands_first : (written : Option Written) (was octets : List ℕ) →
    LeavesRest was octets written → let out = out_in octets written in
    (size_written written ≡ length (octets_of out)) × (octets ≡ octets_of out ++ drop (length (octets_of out)) was)
stands_first None was octets leaves = (refl, leaves.rest)
stands_first (Some out) was octets leaves =
    let size : length (take out.size octets) ≡ out.size =
    length-take-le out.size octets leaves.room in (
      sym size,
      sym (take-append-drop out.size octets)
          ∙ ap (λ (rest : List ℕ). take out.size octets ++ rest)
          (leaves.rest ∙ ap (λ (n : ℕ). drop n was) (sym size)),
    )
