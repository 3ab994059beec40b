-- The lemma of this name.
use Rattle.rtcp_guard.proofs.Interfering.{not_interfering}
use Rattle.rtcp_guard.proofs.laws.others_do_not_interfere.Goals as goal

pub returns : goal.returns
returns c = not_interfering
