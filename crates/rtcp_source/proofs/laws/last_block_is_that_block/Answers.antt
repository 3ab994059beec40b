use Rattle.rtcp_source.proofs.Summing.{same_said}
use Rattle.rtcp_source.specs.ReportBlocks.{last_report_at}
use Rattle.rtcp_source.specs.Packets.{run_of, PacketRun}
use Rattle.rtcp_source.proofs.laws.last_block_is_that_block.Goals as goal

pub returns-clause-said : goal.returns-clause-said
returns-clause-said c ssrc t given =
    let run : PacketRun = run_of given in
    let report = last_report_at t given in
    same_said run.counted run.reported ssrc report.0 report.1
