use Rattle.rtcp_source.proofs.Summing.{same_figures}
use Rattle.rtcp_source.specs.ReportBlocks.{last_report_at}
use Rattle.rtcp_source.specs.Packets.{run_of, PacketRun}
use Rattle.rtcp_source.proofs.laws.reception_is_that_of_blocks.Goals as goal

pub returns-clause-figures : goal.returns-clause-figures
returns-clause-figures c ssrc t given =
    let run : PacketRun = run_of given in
    let report = last_report_at t given in
    same_figures run.counted run.reported ssrc report.0 report.1
