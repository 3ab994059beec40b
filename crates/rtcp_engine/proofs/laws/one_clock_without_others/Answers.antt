use Rattle.rtcp_engine.proofs.LawLemmas.{one_clock_without_others}
use Rattle.rtcp_engine.proofs.laws.one_clock_without_others.Goals as goal

pub returns : goal.returns
returns c = one_clock_without_others
