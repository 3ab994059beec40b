use Rattle.std.proofs.Common.{false}
use Rattle.std.proofs.lemmas.List.{get_or-replicate}
use Rattle.rtcp_engine.proofs.arrival.none.Goals as goal

pub returns : goal.returns
returns c place within = get_or-replicate 32 place false false within
