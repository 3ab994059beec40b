use Rattle.rtcp_timer.proofs.LawLemmas.{average_lies_between}
use Rattle.rtcp_timer.proofs.laws.average_lies_between.Goals as goal

pub returns : goal.returns
returns c = average_lies_between
