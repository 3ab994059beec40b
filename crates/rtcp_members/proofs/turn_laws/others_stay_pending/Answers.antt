use Rattle.rtcp_members.proofs.LawLemmas.{others_stay_pending}
use Rattle.rtcp_members.proofs.turn_laws.others_stay_pending.Goals as goal

pub returns : goal.returns
returns c = others_stay_pending
