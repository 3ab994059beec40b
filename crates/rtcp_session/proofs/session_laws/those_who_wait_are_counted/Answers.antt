use Rattle.rtcp_session.proofs.Hearing.{those_heard_wait}
use Rattle.rtcp_session.proofs.Sessions.{averages_have_sizes}
use Rattle.rtcp_session.proofs.Waited.{crowd_is_counted}
use Rattle.rtcp_session.proofs.session_laws.those_who_wait_are_counted.Goals as goal

pub returns-clause-crowd : goal.returns-clause-crowd
returns-clause-crowd c = crowd_is_counted

pub returns-clause-heard : goal.returns-clause-heard
returns-clause-heard c = those_heard_wait

pub returns-clause-sizes : goal.returns-clause-sizes
returns-clause-sizes c = averages_have_sizes
