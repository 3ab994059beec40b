use Rattle.rtcp_session.proofs.NewMembers.{departures_have_members, members_put_off_few}
use Rattle.rtcp_session.proofs.departure_laws.departures_take_members_away.Goals as goal

pub returns-clause-few : goal.returns-clause-few
returns-clause-few c = departures_have_members

pub returns-clause-reports : goal.returns-clause-reports
returns-clause-reports c = members_put_off_few
