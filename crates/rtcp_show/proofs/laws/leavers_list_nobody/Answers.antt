use Rattle.rtcp_show.proofs.LeaveLemmas.{nobody_left}
use Rattle.rtcp_show.proofs.laws.leavers_list_nobody.Goals as goal

pub returns : goal.returns
returns c = nobody_left
