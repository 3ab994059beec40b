use Rattle.rtcp_members.proofs.LawLemmas.{each_is_pending_once}
use Rattle.rtcp_members.proofs.turn_laws.each_is_pending_once.Goals as goal

pub returns : goal.returns
returns c = each_is_pending_once
