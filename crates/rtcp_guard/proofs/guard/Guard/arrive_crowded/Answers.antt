-- What the first names say already, all names say.
use Rattle.std.proofs.Common.{arith, sym, ap, ◌∙◌}
use Rattle.rtcp_guard.specs.Guarding.{GuardValue, after_verdict, counted, verdict_by}
use Rattle.rtcp_guard.specs.Naming.{goodbye_of_compound, names_of_compound}
use Rattle.rtcp_guard.specs.declared.verdict.Verdict.TheVariants.{Stranger, Crowd}
use Rattle.rtcp_guard.proofs.Deciding.{first_strange, first_crowd}
use Rattle.rtcp_guard.proofs.guard.Guard.arrive_crowded.Goals as goal

pub returns-in-Stranger-clause-verdict : goal.returns-in-Stranger-clause-verdict
returns-in-Stranger-clause-verdict c = c.hold_back.ensures.verdict
    ∙ first_strange c.args.origin c.args.t 16 (names_of_compound c.args.own c.args.compound.now)
    (goodbye_of_compound c.args.own c.args.compound.now) c.args.self.now (omega arith)
    (c.in-Stranger.ensures.verdict c.args.t
    ∙ ap (λ ns. verdict_by c.args.origin c.args.t ns c.args.self.now) c.requires)

pub returns-in-Stranger-clause-content : goal.returns-in-Stranger-clause-content
returns-in-Stranger-clause-content c =
    let names = names_of_compound c.args.own c.args.compound.now in
    let goodbye = goodbye_of_compound c.args.own c.args.compound.now in
    c.hold_back.ensures.content
    ∙ ap (λ (g : GuardValue). record g { held_back = counted c.args.origin Stranger g.held_back }) c.judge.ensures.kept
    ∙ ap (λ v. after_verdict c.args.origin c.args.t names goodbye v c.args.self.now)
    (sym c.hold_back.ensures.verdict ∙ returns-in-Stranger-clause-verdict c)

pub returns-in-Crowd-clause-verdict : goal.returns-in-Crowd-clause-verdict
returns-in-Crowd-clause-verdict c = c.hold_back-in-Crowd.ensures.verdict
    ∙ first_crowd c.args.origin c.args.t 16 (names_of_compound c.args.own c.args.compound.now)
    (goodbye_of_compound c.args.own c.args.compound.now) c.args.self.now (omega arith) c.judge.ensures.rising
    (c.in-Crowd.ensures.verdict c.args.t
    ∙ ap (λ ns. verdict_by c.args.origin c.args.t ns c.args.self.now) c.requires)

pub returns-in-Crowd-clause-content : goal.returns-in-Crowd-clause-content
returns-in-Crowd-clause-content c =
    let names = names_of_compound c.args.own c.args.compound.now in
    let goodbye = goodbye_of_compound c.args.own c.args.compound.now in
    c.hold_back-in-Crowd.ensures.content
    ∙ ap (λ (g : GuardValue). record g { held_back = counted c.args.origin Crowd g.held_back }) c.judge.ensures.kept
    ∙ ap (λ v. after_verdict c.args.origin c.args.t names goodbye v c.args.self.now)
    (sym c.hold_back-in-Crowd.ensures.verdict ∙ returns-in-Crowd-clause-verdict c)
