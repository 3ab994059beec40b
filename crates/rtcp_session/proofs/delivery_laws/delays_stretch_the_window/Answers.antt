use Rattle.rtcp_session.proofs.Stretching.{averages_keep_after, others_keep_after, octets_keep_after, reports_keep_after, compounds_keep_after}
use Rattle.rtcp_session.proofs.delivery_laws.delays_stretch_the_window.Goals as goal

pub returns-clause-averages : goal.returns-clause-averages
returns-clause-averages c = averages_keep_after

pub returns-clause-others : goal.returns-clause-others
returns-clause-others c = others_keep_after

pub returns-clause-octets : goal.returns-clause-octets
returns-clause-octets c = octets_keep_after

pub returns-clause-reports : goal.returns-clause-reports
returns-clause-reports c = reports_keep_after

pub returns-clause-compounds : goal.returns-clause-compounds
returns-clause-compounds c = compounds_keep_after
