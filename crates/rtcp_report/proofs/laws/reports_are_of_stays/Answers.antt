use Rattle.rtcp_report.proofs.LawLemmas.{reports_are_of_stays-sources, reports_are_of_stays-blocks}
use Rattle.rtcp_report.proofs.laws.reports_are_of_stays.Goals as goal

pub returns : goal.returns
returns c = record {
  sources = reports_are_of_stays-sources;
  blocks = reports_are_of_stays-blocks;
}
