use Rattle.rtcp_wire.proofs.LawLemmas.{packet_or_fault-never_both, packet_or_fault-always_one}
use Rattle.rtcp_wire.proofs.rtp_laws.packet_or_fault.Goals as goal

pub returns-clause-never_both : goal.returns-clause-never_both
returns-clause-never_both c = packet_or_fault-never_both

pub returns-clause-always_one : goal.returns-clause-always_one
returns-clause-always_one c = packet_or_fault-always_one
