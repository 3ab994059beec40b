use Rattle.rtcp_engine.proofs.LawLemmas.{reports_go_by_the_latest_settings-latest, reports_go_by_the_latest_settings-told}
use Rattle.rtcp_engine.proofs.laws.reports_go_by_the_latest_settings.Goals as goal

pub returns-clause-latest : goal.returns-clause-latest
returns-clause-latest c = reports_go_by_the_latest_settings-latest

pub returns-clause-told : goal.returns-clause-told
returns-clause-told c = reports_go_by_the_latest_settings-told
