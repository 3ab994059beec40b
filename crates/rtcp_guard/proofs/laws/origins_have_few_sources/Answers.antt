-- The lemmas of these names.
use Rattle.rtcp_guard.proofs.Owning.{few_after, within_after}
use Rattle.rtcp_guard.proofs.laws.origins_have_few_sources.Goals as goal

pub returns-clause-few : goal.returns-clause-few
returns-clause-few c = few_after

pub returns-clause-within : goal.returns-clause-within
returns-clause-within c = within_after
