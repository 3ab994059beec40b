use Rattle.rtcp_session.proofs.Delivering.{heard_within, delivered_are_counted}
use Rattle.rtcp_session.proofs.Delivered.{delivered_averages, delivered_others, delivered_octets, delivered_reports, delivered_compounds}
use Rattle.rtcp_session.proofs.delivery_laws.delivered_sessions_keep_to_their_bandwidth.Goals as goal

pub returns-clause-within : goal.returns-clause-within
returns-clause-within c = heard_within

pub returns-clause-counted : goal.returns-clause-counted
returns-clause-counted c = delivered_are_counted

pub returns-clause-averages : goal.returns-clause-averages
returns-clause-averages c = delivered_averages

pub returns-clause-others : goal.returns-clause-others
returns-clause-others c = delivered_others

pub returns-clause-reports : goal.returns-clause-reports
returns-clause-reports c = delivered_reports

pub returns-clause-octets : goal.returns-clause-octets
returns-clause-octets c = delivered_octets

pub returns-clause-compounds : goal.returns-clause-compounds
returns-clause-compounds c = delivered_compounds
