use Rattle.rtcp_wire.proofs.LawLemmas.{readings_are_computed-accepted, readings_are_computed-faulty}
use Rattle.rtcp_wire.proofs.laws.readings_are_computed.Goals as goal

pub returns-clause-accepted : goal.returns-clause-accepted
returns-clause-accepted c = readings_are_computed-accepted

pub returns-clause-faulty : goal.returns-clause-faulty
returns-clause-faulty c = readings_are_computed-faulty
