-- All names were gathered, or the first 512.
use Rattle.std.proofs.Common.{◌≡◌, ◌≤◌, ℕ, false, List, Option, None, length, sym, ap, subst, ◌∙◌}
use Rattle.rtcp_guard.specs.Claims.{goodbye_among}
use Rattle.rtcp_guard.specs.Guarding.{GuardValue, after_verdict, unless_more, verdict_by}
use Rattle.rtcp_guard.specs.Naming.{goodbye_of_compound, names_of_compound}
use Rattle.rtcp_guard.specs.declared.verdict.Verdict.{Verdict}
use Rattle.rtcp_guard.proofs.Deciding.{Decided, by_first, by_names}
use Rattle.rtcp_guard.proofs.guard.Guard.arrive_many.Goals as goal

whole : (origin moment : ℕ) (names gathered : List ℕ) (goodbye first : Option ℕ) (guard : GuardValue)
    (verdict : Verdict) (next : GuardValue) → length gathered ≤ 512 → gathered ≡ names → first ≡ goodbye →
    first ≡ None → verdict ≡ unless_more false (verdict_by origin moment gathered guard) →
    next ≡ after_verdict origin moment gathered None verdict guard →
    Decided origin moment names goodbye guard verdict next
whole origin moment names gathered goodbye first guard verdict next short same its none is content =
    subst (λ (ns : List ℕ). Decided origin moment ns goodbye guard verdict next) same
    (by_names origin moment gathered guard verdict next goodbye short
    (ap (goodbye_among gathered) (sym its ∙ none)) is content)

its_whole : (c : goal.After-decide) → Decided c.args.origin c.args.t
    (names_of_compound c.args.own c.args.compound.now) (goodbye_of_compound c.args.own c.args.compound.now)
    c.args.self.now c.decide.result c.decide.new.self
its_whole c =
    let gathered = c.in-Whole-None.ensures.gathered in
    whole c.args.origin c.args.t (names_of_compound c.args.own c.args.compound.now) c.as_slice.result.now
    (goodbye_of_compound c.args.own c.args.compound.now) c.in-Whole-None.field-0 c.args.self.now c.decide.result
    c.decide.new.self c.as_slice.ensures.fits (c.as_slice.ensures.value ∙ gathered.0) gathered.1
    c.in-Whole-None.field-0-is c.decide.ensures.verdict c.decide.ensures.content

pub returns-in-Whole-None-clause-verdict : goal.returns-in-Whole-None-clause-verdict
returns-in-Whole-None-clause-verdict c = (its_whole c).its

pub returns-in-Whole-None-clause-content : goal.returns-in-Whole-None-clause-content
returns-in-Whole-None-clause-content c = (its_whole c).content

its_part : (c : goal.After-decide-in-Part) → Decided c.args.origin c.args.t
    (names_of_compound c.args.own c.args.compound.now) (goodbye_of_compound c.args.own c.args.compound.now)
    c.args.self.now c.decide-in-Part.result c.decide-in-Part.new.self
its_part c =
    let gathered = c.in-Part.ensures.gathered in
    by_first c.args.origin c.args.t (names_of_compound c.args.own c.args.compound.now) c.args.self.now
    c.decide-in-Part.result c.decide-in-Part.new.self (goodbye_of_compound c.args.own c.args.compound.now)
    c.as_slice-in-Part.result.now gathered.1 (c.as_slice-in-Part.ensures.value ∙ gathered.0)
    c.decide-in-Part.ensures.verdict c.decide-in-Part.ensures.content

pub returns-in-Part-clause-verdict : goal.returns-in-Part-clause-verdict
returns-in-Part-clause-verdict c = (its_part c).its

pub returns-in-Part-clause-content : goal.returns-in-Part-clause-content
returns-in-Part-clause-content c = (its_part c).content
