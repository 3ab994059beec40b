use Rattle.rtcp_guarded.proofs.Speaking.{all_from_owner, owner_of_present}
use Rattle.rtcp_guarded.proofs.laws.one_origin_speaks_for_a_present_source.Goals as goal

pub returns-clause-datagrams : goal.returns-clause-datagrams
returns-clause-datagrams c = all_from_owner c.one_origin_speaks_for_a_source.ensures.datagrams
    c.one_origin_speaks_for_a_source.ensures.owner

pub returns-clause-owner : goal.returns-clause-owner
returns-clause-owner c = owner_of_present c.one_origin_speaks_for_a_source.ensures.datagrams
    c.one_origin_speaks_for_a_source.ensures.owner
