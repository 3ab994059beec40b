-- In a trace of one clock each source is given packets of one rate.
use Rattle.std.proofs.Common.{◌≡◌, ◌==◌, ℕ, Bool, true, false, is_some, if◌then◌else◌, List, [], ◌∷◌, ◌++◌, Some, sym, subst}
use Rattle.std.proofs.lemmas.Bool.{cond_both}
use Rattle.rtcp_wire.specs.declared.fact.Fact.TheVariants.{Told, Media}
use Rattle.rtcp_source.specs.Summary.{HasOneRate}
use Rattle.rtcp_members.specs.Traces.{TraceStep, fact_came, block_made_of}
use Rattle.rtcp_members.specs.Stays.{before_mark, mark_of, stay_of}
use Rattle.rtcp_members.specs.Entries.{given_of}
use Rattle.rtcp_members.specs.Clocks.{HasOneClock}
use Rattle.rtcp_members.proofs.stays.StayLaws.{stay_is_prefix}

prefix_has : (rate : ℕ) (since : List TraceStep) (admission : TraceStep) (before : List TraceStep) →
    HasOneClock rate (since ++ admission ∷ before) → HasOneClock rate (since ++ admission ∷ [])
prefix_has rate [] admission before has = (has.0, tt)
prefix_has rate (step ∷ since) admission before has = (has.0, prefix_has rate since admission before has.1)

unmarked_has : (rate ssrc : ℕ) (stay : List TraceStep) → HasOneClock rate stay →
    HasOneClock rate (before_mark ssrc stay)
unmarked_has rate ssrc [] has = tt
unmarked_has rate ssrc (step ∷ earlier) has =
    by_mark (is_some (mark_of ssrc (step ∷ earlier))) (unmarked_has rate ssrc earlier has.1)
  where
    by_mark : (marked : Bool) → HasOneClock rate (before_mark ssrc earlier) →
        HasOneClock rate (if marked then before_mark ssrc earlier else step ∷ earlier)
    by_mark true before = before
    by_mark false before = has

given_has : (rate ssrc : ℕ) (stay : List TraceStep) → HasOneClock rate stay → HasOneRate rate (given_of ssrc stay)
given_has rate ssrc [] has = tt
given_has rate ssrc (fact_came (Told other ntp rtp) moment ∷ earlier) has =
    let before = given_has rate ssrc earlier has.1 in
    cond_both (other == ssrc) _ (given_of ssrc earlier) (HasOneRate rate) (λ _. before) (λ _. before)
given_has rate ssrc (fact_came (Media other seq timestamp octets own) moment ∷ earlier) has =
    let before = given_has rate ssrc earlier has.1 in
    cond_both (other == ssrc) _ (given_of ssrc earlier) (HasOneRate rate) (λ _. (has.0, before)) (λ _. before)
given_has rate ssrc (block_made_of other ∷ earlier) has =
    let before = given_has rate ssrc earlier has.1 in
    cond_both (other == ssrc) _ (given_of ssrc earlier) (HasOneRate rate) (λ _. before) (λ _. before)
given_has rate ssrc (step ∷ earlier) has = given_has rate ssrc earlier has.1

pub one_rate_each : (capacity rate ssrc : ℕ) (trace stay : List TraceStep) → HasOneClock rate trace →
    stay_of capacity trace ssrc ≡ Some stay → HasOneRate rate (given_of ssrc (before_mark ssrc stay))
one_rate_each capacity rate ssrc trace stay has found =
    let is = stay_is_prefix capacity trace ssrc stay found in
    let whole : HasOneClock rate (is.since ++ is.admission ∷ is.before) = subst (HasOneClock rate) is.parts has in
    let of_stay : HasOneClock rate stay = subst (HasOneClock rate) (sym is.whole)
    (prefix_has rate is.since is.admission is.before whole) in
    given_has rate ssrc (before_mark ssrc stay) (unmarked_has rate ssrc stay of_stay)
