use Rattle.rtcp_wire.proofs.LawLemmas.{read_back_together}
use Rattle.rtcp_wire.proofs.write_laws.read_back_together.Goals as goal

pub returns : goal.returns
returns c = read_back_together
