use Rattle.rtcp_guarded_session.proofs.Reporting.{origin_puts_off_few, origins_put_off_few}
use Rattle.rtcp_guarded_session.proofs.goodbye_laws.few_origins_put_off_few_reports.Goals as goal

pub returns-clause-one : goal.returns-clause-one
returns-clause-one c =
    origin_puts_off_few c.few_departures_put_off_few_reports.ensures c.origins_make_few_depart.ensures

pub returns-clause-few : goal.returns-clause-few
returns-clause-few c =
    origins_put_off_few c.few_departures_put_off_few_reports.ensures c.origins_make_few_depart.ensures
