use Rattle.rtcp_engine.proofs.Keeping.{others_kept}
use Rattle.rtcp_engine.proofs.difference_laws.others_change_where_said.Goals as goal

pub returns : goal.returns
returns c = others_kept
