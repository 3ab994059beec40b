use Rattle.rtcp_wire.proofs.LawLemmas.{one_rtp_fault}
use Rattle.rtcp_wire.proofs.rtp_laws.one_rtp_fault.Goals as goal

pub returns : goal.returns
returns c = one_rtp_fault
