use Rattle.rtcp_session.proofs.Sessions.{averages_keep, others_keep, octets_keep, reports_keep, compounds_keep}
use Rattle.rtcp_session.proofs.session_laws.sessions_keep_to_their_bandwidth.Goals as goal

pub returns-clause-averages : goal.returns-clause-averages
returns-clause-averages c = averages_keep

pub returns-clause-others : goal.returns-clause-others
returns-clause-others c = others_keep

pub returns-clause-octets : goal.returns-clause-octets
returns-clause-octets c = octets_keep

pub returns-clause-reports : goal.returns-clause-reports
returns-clause-reports c = reports_keep

pub returns-clause-compounds : goal.returns-clause-compounds
returns-clause-compounds c = compounds_keep
