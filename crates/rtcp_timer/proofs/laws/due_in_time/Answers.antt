use Rattle.rtcp_timer.proofs.LawLemmas.{due_in_time}
use Rattle.rtcp_timer.proofs.laws.due_in_time.Goals as goal

pub returns : goal.returns
returns c = due_in_time
