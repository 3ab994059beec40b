use Rattle.rtcp_wire.proofs.LawLemmas.{one_fault}
use Rattle.rtcp_wire.proofs.laws.one_fault.Goals as goal

pub returns : goal.returns
returns c = one_fault
