use Rattle.rtcp_engine.proofs.Hearing.{heard_stay, checked_stay}
use Rattle.rtcp_engine.proofs.Sighting.{named_are_heard_at_ticks, sighted_at}
use Rattle.rtcp_engine.proofs.heard_laws.those_heard_stay_members.Goals as goal

pub returns-clause-stay : goal.returns-clause-stay
returns-clause-stay c = heard_stay

pub returns-clause-checked : goal.returns-clause-checked
returns-clause-checked c = checked_stay

pub returns-clause-sighted : goal.returns-clause-sighted
returns-clause-sighted c = sighted_at

pub returns-clause-datagrams : goal.returns-clause-datagrams
returns-clause-datagrams c = named_are_heard_at_ticks
