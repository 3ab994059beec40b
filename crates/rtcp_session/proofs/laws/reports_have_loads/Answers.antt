use Rattle.rtcp_session.proofs.Deciding.{reports_decided, intervals_decided}
use Rattle.rtcp_session.proofs.laws.reports_have_loads.Goals as goal

pub returns-clause-all : goal.returns-clause-all
returns-clause-all c = reports_decided

pub returns-clause-intervals : goal.returns-clause-intervals
returns-clause-intervals c = intervals_decided
