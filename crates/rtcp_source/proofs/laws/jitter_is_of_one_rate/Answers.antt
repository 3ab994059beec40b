use Rattle.rtcp_source.proofs.LawLemmas as law
use Rattle.rtcp_source.proofs.laws.jitter_is_of_one_rate.Goals as goal

pub returns-clause-newest : goal.returns-clause-newest
returns-clause-newest c = law.jitter_is_of_one_rate-newest

pub returns-clause-alone : goal.returns-clause-alone
returns-clause-alone c = law.jitter_is_of_one_rate-alone
