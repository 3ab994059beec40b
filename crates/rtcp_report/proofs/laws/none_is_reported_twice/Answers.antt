use Rattle.rtcp_report.proofs.LawLemmas.{none_is_reported_twice}
use Rattle.rtcp_report.proofs.laws.none_is_reported_twice.Goals as goal

pub returns : goal.returns
returns c = none_is_reported_twice
