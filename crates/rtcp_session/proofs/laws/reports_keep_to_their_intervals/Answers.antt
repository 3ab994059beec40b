use Rattle.rtcp_session.proofs.Pacing.{own_few, own_long_few}
use Rattle.rtcp_session.proofs.laws.reports_keep_to_their_intervals.Goals as goal

pub returns-clause-long : goal.returns-clause-long
returns-clause-long c = own_long_few

pub returns-clause-all : goal.returns-clause-all
returns-clause-all c = own_few
