use Rattle.rtcp_report.proofs.LawLemmas.{longest_prefix_is_reported-longest, longest_prefix_is_reported-only}
use Rattle.rtcp_report.proofs.laws.longest_prefix_is_reported.Goals as goal

pub returns-clause-longest : goal.returns-clause-longest
returns-clause-longest c = longest_prefix_is_reported-longest

pub returns-clause-only : goal.returns-clause-only
returns-clause-only c = longest_prefix_is_reported-only
