-- The lemma of this name.
use Rattle.rtcp_guard.proofs.Parting.{few_pass_on}
use Rattle.rtcp_guard.proofs.laws.few_goodbyes_pass.Goals as goal

pub returns : goal.returns
returns c = λ settings origin first newer older. few_pass_on settings origin first newer older
