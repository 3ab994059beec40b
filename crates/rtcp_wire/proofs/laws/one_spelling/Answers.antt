use Rattle.rtcp_wire.proofs.LawLemmas.{one_spelling}
use Rattle.rtcp_wire.proofs.laws.one_spelling.Goals as goal

pub returns : goal.returns
returns c = one_spelling
