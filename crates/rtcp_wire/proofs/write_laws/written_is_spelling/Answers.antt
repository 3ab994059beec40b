use Rattle.rtcp_wire.proofs.LawLemmas.{written_is_spelling}
use Rattle.rtcp_wire.proofs.write_laws.written_is_spelling.Goals as goal

pub returns : goal.returns
returns c = written_is_spelling
