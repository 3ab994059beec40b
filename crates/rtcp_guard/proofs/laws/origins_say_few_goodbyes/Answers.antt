-- The lemma of this name.
use Rattle.rtcp_guard.proofs.Owning.{leaving_after}
use Rattle.rtcp_guard.proofs.laws.origins_say_few_goodbyes.Goals as goal

pub returns : goal.returns
returns c = leaving_after
