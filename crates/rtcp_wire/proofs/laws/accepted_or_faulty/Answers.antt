use Rattle.rtcp_wire.proofs.LawLemmas.{accepted_or_faulty-never_both, accepted_or_faulty-always_one}
use Rattle.rtcp_wire.proofs.laws.accepted_or_faulty.Goals as goal

pub returns-clause-never_both : goal.returns-clause-never_both
returns-clause-never_both c = accepted_or_faulty-never_both

pub returns-clause-always_one : goal.returns-clause-always_one
returns-clause-always_one c = accepted_or_faulty-always_one
