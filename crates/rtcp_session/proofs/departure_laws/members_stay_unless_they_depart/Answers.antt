use Rattle.rtcp_session.proofs.Departed.{stay_unless_departed}
use Rattle.rtcp_session.proofs.departure_laws.members_stay_unless_they_depart.Goals as goal

pub returns : goal.returns
returns c = stay_unless_departed
