use Rattle.rtcp_engine.proofs.LawLemmas.{former_paces_end-same, former_paces_end-stays, former_paces_end-end, former_paces_end-alone, former_paces_end-dropped}
use Rattle.rtcp_engine.proofs.laws.former_paces_end.Goals as goal

pub returns-clause-same : goal.returns-clause-same
returns-clause-same c = former_paces_end-same

pub returns-clause-stays : goal.returns-clause-stays
returns-clause-stays c = former_paces_end-stays

pub returns-clause-end : goal.returns-clause-end
returns-clause-end c = former_paces_end-end

pub returns-clause-alone : goal.returns-clause-alone
returns-clause-alone c = former_paces_end-alone

pub returns-clause-dropped : goal.returns-clause-dropped
returns-clause-dropped c = former_paces_end-dropped
