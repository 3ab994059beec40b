use Rattle.rtcp_source.proofs.LawLemmas.{integer_is_found}
use Rattle.rtcp_source.proofs.laws.integer_is_found.Goals as goal

pub returns : goal.returns
returns c = integer_is_found
