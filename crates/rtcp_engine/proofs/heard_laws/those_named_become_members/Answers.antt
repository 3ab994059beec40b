use Rattle.rtcp_engine.proofs.Hearing.{named_join, named_remain}
use Rattle.rtcp_engine.proofs.heard_laws.those_named_become_members.Goals as goal

pub returns-clause-joins : goal.returns-clause-joins
returns-clause-joins c = λ history moment peer word size ssrc packets outcome same named may.
    named_join moment peer word size ssrc packets named history outcome same may

pub returns-clause-remains : goal.returns-clause-remains
returns-clause-remains c =
    λ history moment peer word size ssrc packets outcome later since same named may alone heard is.
    named_remain moment peer word size ssrc packets named history outcome later since same may alone heard is
