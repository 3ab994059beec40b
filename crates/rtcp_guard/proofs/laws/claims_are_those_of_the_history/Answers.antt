-- The lemma of this name.
use Rattle.rtcp_guard.proofs.Owning.{found_after}
use Rattle.rtcp_guard.proofs.laws.claims_are_those_of_the_history.Goals as goal

pub returns : goal.returns
returns c = found_after
