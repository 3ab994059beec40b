-- A report of the blocks that were written, if there are any.
use Rattle.std.proofs.Common.{◌≡◌, ◌<◌, ◌≤◌, List, [], length, take, None, arith, refl, sym, ◌∙◌}
use Rattle.std.proofs.lemmas.List.{length-take}
use Rattle.rtcp_wire.specs.Values.{ReportBlock, rr}
use Rattle.rtcp_members.specs.Pending.{pending, blocks_of}
use Rattle.rtcp_report.proofs.PutReports.{report_put, one_packet, one_further}
use Rattle.rtcp_report.proofs.ReportPackets.{report_writable}
use Rattle.rtcp_report.proofs.reports.put_further.Goals as goal

pub returns : goal.returns
returns g c =
    let waiting = pending c.args.cursor.now (g.T.MemberTable.content c.args.table.now) in
    let blocks : List ReportBlock = blocks_of c.args.t (take c.args.most waiting) in
    let taken = c.put_blocks-count.ensures.taken in
    let count : c.put_blocks-count.result ≡ length blocks = c.put_blocks-count.ensures.count ∙ sym taken.count in
    let few : length blocks ≤ 31 = omega (arith, taken.count, length-take c.args.most waiting) in
    let some : 0 < length blocks = omega (arith, count) in (
      one_further c.args.ssrc blocks some few
          (one_packet (rr c.args.ssrc blocks [])
          (report_put c.args.ssrc None blocks c.put_blocks-count.result count c.put_blocks-count.ensures.put
          c.put_receiver_head.ensures.put refl)
          (report_writable c.args.ssrc None blocks few taken.writable)
          (c.put_receiver_head.ensures.in_range, taken.in_range)),
      taken,
    )
