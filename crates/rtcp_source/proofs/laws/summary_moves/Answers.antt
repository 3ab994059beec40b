use Rattle.std.proofs.Common.{refl}
use Rattle.rtcp_source.proofs.LawLemmas as law
use Rattle.rtcp_source.proofs.laws.summary_moves.Goals as goal

pub returns-clause-none : goal.returns-clause-none
returns-clause-none c = law.summary_moves-none

pub returns-clause-packet : goal.returns-clause-packet
returns-clause-packet c = law.summary_moves-packet

pub returns-clause-block : goal.returns-clause-block
returns-clause-block c = law.summary_moves-block
