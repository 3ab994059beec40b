use Rattle.rtcp_engine.proofs.LawLemmas.{own_sending_lasts}
use Rattle.rtcp_engine.proofs.laws.own_sending_lasts.Goals as goal

pub returns : goal.returns
returns c = own_sending_lasts
