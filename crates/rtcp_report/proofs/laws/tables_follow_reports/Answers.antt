use Rattle.rtcp_report.proofs.LawLemmas.{tables_follow_reports-stands, tables_follow_reports-packets}
use Rattle.rtcp_report.proofs.laws.tables_follow_reports.Goals as goal

pub returns-clause-stands : goal.returns-clause-stands
returns-clause-stands c = tables_follow_reports-stands

pub returns-clause-packets : goal.returns-clause-packets
returns-clause-packets c = tables_follow_reports-packets
