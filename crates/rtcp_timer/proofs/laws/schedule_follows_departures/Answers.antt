use Rattle.rtcp_timer.proofs.LawLemmas.{schedule_follows_departures-last, schedule_follows_departures-next, schedule_follows_departures-known}
use Rattle.rtcp_timer.proofs.laws.schedule_follows_departures.Goals as goal

pub returns-clause-last : goal.returns-clause-last
returns-clause-last c = schedule_follows_departures-last

pub returns-clause-next : goal.returns-clause-next
returns-clause-next c = schedule_follows_departures-next

pub returns-clause-known : goal.returns-clause-known
returns-clause-known c = schedule_follows_departures-known
