use Rattle.rtcp_wire.proofs.LawLemmas.{rtp_readings_are_computed-head, rtp_readings_are_computed-fault}
use Rattle.rtcp_wire.proofs.rtp_laws.rtp_readings_are_computed.Goals as goal

pub returns-clause-head : goal.returns-clause-head
returns-clause-head c = rtp_readings_are_computed-head

pub returns-clause-fault : goal.returns-clause-fault
returns-clause-fault c = rtp_readings_are_computed-fault
