use Rattle.rtcp_wire.proofs.Reporters.{accepted_length}
use Rattle.rtcp_wire.proofs.SoleSources.{sole_now, not_sole}
use Rattle.rtcp_wire.specs.Walks.{packets_in}
use Rattle.rtcp_wire.proofs.compound.Compound.sole.Goals as goal

pub returns-then-not-self-clause-several : goal.returns-then-not-self-clause-several
returns-then-not-self-clause-several c =
    not_sole c.self.inside.octets.now c.self.inside.summary c.self.invariant.0 c.self.invariant.1 c.args.self.now
    c.self.view_is c.if-not-self.true

pub first_id-requires : goal.first_id-requires
first_id-requires c =
    accepted_length c.self.inside.octets.now (packets_in c.self.inside.octets.now) c.self.invariant.0

pub returns-clause-sole : goal.returns-clause-sole
returns-clause-sole c =
    rw c.first_timestamps.ensures
    (sole_now c.self.inside.octets.now c.self.inside.summary c.self.invariant.0 c.self.invariant.1 c.args.self.now
    c.self.view_is c.first_id.result c.is_named.result c.first_id.ensures c.if-not-self.false c.is_named.ensures)
