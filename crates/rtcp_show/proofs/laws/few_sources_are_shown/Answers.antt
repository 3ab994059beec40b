use Rattle.rtcp_show.proofs.RankLemmas.{few_are_shown}
use Rattle.rtcp_show.proofs.laws.few_sources_are_shown.Goals as goal

pub returns : goal.returns
returns c = few_are_shown
