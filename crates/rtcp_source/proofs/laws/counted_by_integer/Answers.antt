use Rattle.rtcp_source.proofs.LawLemmas as law
use Rattle.rtcp_source.proofs.laws.counted_by_integer.Goals as goal

pub returns-clause-greatest : goal.returns-clause-greatest
returns-clause-greatest c = law.counted_by_integer-greatest

pub returns-clause-counted : goal.returns-clause-counted
returns-clause-counted c = law.counted_by_integer-counted

pub returns-clause-enters : goal.returns-clause-enters
returns-clause-enters c = law.counted_by_integer-enters

pub returns-clause-one : goal.returns-clause-one
returns-clause-one c = law.counted_by_integer-one
