use Rattle.rtcp_wire.proofs.LawLemmas.{one_reading}
use Rattle.rtcp_wire.proofs.laws.one_reading.Goals as goal

pub returns : goal.returns
returns c = one_reading
