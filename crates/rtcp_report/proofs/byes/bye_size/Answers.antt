-- The BYE stands after a report of the first size.
use Rattle.std.proofs.Common.{[], arith}
use Rattle.rtcp_report.specs.Reports.{bye_packet, packets_with, receiver_named}
use Rattle.rtcp_report.proofs.ReportSizes.{all_length}
use Rattle.rtcp_report.proofs.byes.bye_size.Goals as goal

pub returns-clause-exact : goal.returns-clause-exact
returns-clause-exact c ssrc =
    omega (
      arith,
      c.first_size.ensures.exact ssrc,
      all_length (packets_with (receiver_named ssrc c.args.cname.now) [])
          (bye_packet ssrc),
    )
