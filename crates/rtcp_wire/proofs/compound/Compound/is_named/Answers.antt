use Rattle.std.proofs.Common.{sym, ◌∙◌}
use Rattle.rtcp_wire.proofs.SoleSources.{named_now}
use Rattle.rtcp_wire.proofs.compound.Compound.is_named.Goals as goal

pub returns-then-self : goal.returns-then-self
returns-then-self c =
    c.if-self.true ∙ sym (named_now c.self.inside.octets.now c.self.inside.summary c.self.invariant.0
    c.self.invariant.1 c.args.self.now c.self.view_is c.if-self.true)
