-- The lemmas of these names.
use Rattle.std.proofs.Common.{refl}
use Rattle.rtcp_guard.proofs.Owning.{stands_next}
use Rattle.rtcp_guard.proofs.laws.guards_follow_histories.Goals as goal

pub returns-clause-first : goal.returns-clause-first
returns-clause-first c = λ settings. refl

pub returns-clause-next : goal.returns-clause-next
returns-clause-next c = stands_next
