use Rattle.rtcp_source.proofs.Summing.{same_clock, same_report}
use Rattle.rtcp_source.specs.ReportBlocks.{last_report_at}
use Rattle.rtcp_source.specs.Packets.{run_of, PacketRun}
use Rattle.std.proofs.Common.{ap, ◌∙◌}
use Rattle.rtcp_source.proofs.laws.last_report_is_that_of_blocks.Goals as goal

pub returns-clause-clock : goal.returns-clause-clock
returns-clause-clock c ssrc t given block made =
    let run : PacketRun = run_of given in
    let report = last_report_at t given in
    let same = same_clock run.counted run.reported ssrc report.0 report.1 block made in
    let clock = same ∙ same_report t given in
    (ap (λ p. p.0) clock, ap (λ p. p.1) clock)
