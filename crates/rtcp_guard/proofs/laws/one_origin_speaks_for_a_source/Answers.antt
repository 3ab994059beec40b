-- The lemmas of these names.
use Rattle.rtcp_guard.proofs.Interfering.{all_of_one, owner_stays}
use Rattle.rtcp_guard.proofs.laws.one_origin_speaks_for_a_source.Goals as goal

pub returns-clause-datagrams : goal.returns-clause-datagrams
returns-clause-datagrams c = all_of_one

pub returns-clause-owner : goal.returns-clause-owner
returns-clause-owner c = owner_stays
