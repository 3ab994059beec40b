use Rattle.rtcp_session.proofs.Crowding.{no_flood, no_flood_of_others, no_flood_of_compounds, no_flood_of_octets}
use Rattle.rtcp_session.proofs.laws.crowds_do_not_flood.Goals as goal

pub returns-clause-reports : goal.returns-clause-reports
returns-clause-reports c = no_flood

pub returns-clause-others : goal.returns-clause-others
returns-clause-others c = no_flood_of_others

pub returns-clause-compounds : goal.returns-clause-compounds
returns-clause-compounds c = no_flood_of_compounds

pub returns-clause-octets : goal.returns-clause-octets
returns-clause-octets c = no_flood_of_octets
