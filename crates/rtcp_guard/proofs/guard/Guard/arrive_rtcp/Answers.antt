-- A compound about one source names that one, and says no BYE.
use Rattle.std.proofs.Common.{sym, ◌∙◌}
use Rattle.rtcp_guard.specs.Guarding.{after, datagram_came, verdict_on}
use Rattle.rtcp_guard.proofs.Leavers.{sole_leaves_not}
use Rattle.rtcp_guard.proofs.Soles.{sole_names}
use Rattle.rtcp_guard.proofs.guard.Guard.arrive_rtcp.Goals as goal

pub returns-in-Some-clause-verdict : goal.returns-in-Some-clause-verdict
returns-in-Some-clause-verdict c = c.arrive_sole.ensures.verdict
    ∙ (λ i. verdict_on c.args.origin c.args.t
    (sym (sole_names c.args.own c.in-Some.source c.args.compound.now c.in-Some.ensures.sole) i)
    (sym (sole_leaves_not c.args.own c.in-Some.source c.args.compound.now c.in-Some.ensures.sole) i) c.args.self.now)

pub returns-in-Some-clause-content : goal.returns-in-Some-clause-content
returns-in-Some-clause-content c = c.arrive_sole.ensures.content
    ∙ (λ i. after (datagram_came c.args.origin c.args.t
    (sym (sole_names c.args.own c.in-Some.source c.args.compound.now c.in-Some.ensures.sole) i)
    (sym (sole_leaves_not c.args.own c.in-Some.source c.args.compound.now c.in-Some.ensures.sole) i)) c.args.self.now)
