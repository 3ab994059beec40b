-- The reports stand at the start, and the description after them.
use Rattle.std.proofs.Common.{◌≡◌, ◌≤◌, ◌<◌, ◌+◌, List, [], ◌∷◌, length, take, arith}
use Rattle.std.proofs.lemmas.List.{length-take}
use Rattle.rtcp_wire.proofs.Putting.{put_after, after_part}
use Rattle.rtcp_wire.specs.Values.{ReportBlock}
use Rattle.rtcp_members.specs.Pending.{pending, blocks_of}
use Rattle.rtcp_report.specs.Reports.{Reporter, description_of, reports_with, items_of, report_size}
use Rattle.rtcp_report.specs.Sizes.{description_size}
use Rattle.rtcp_report.specs.Views.{extra_of, reporter_of}
use Rattle.rtcp_report.proofs.Prefixes.{size_rises}
use Rattle.rtcp_report.proofs.ReportSizes.{reports_length}
use Rattle.rtcp_report.proofs.PutReports.{both_packets}
use Rattle.rtcp_report.proofs.PutByes.{description_packet}
use Rattle.rtcp_report.proofs.WholeReports.{items_writable, whole_report}
use Rattle.rtcp_report.proofs.compound.write_report_into.Goals as goal

pub put_description-requires-clause-room : goal.put_description-requires-clause-room
put_description-requires-clause-room g c =
    let reporter : Reporter = reporter_of c.args.sender.now c.args.extra in
    let most = c.most_blocks-most.result in
    let waiting = pending c.args.cursor.now (g.T.MemberTable.content c.args.table.now) in
    let blocks : List ReportBlock = blocks_of c.args.t (take most waiting) in
    let few : length blocks ≤ most =
    omega (arith, c.put_reports-end.ensures.1.count, length-take most waiting) in
    omega (
      arith,
      c.put_reports-end.ensures.0.put.ends,
      reports_length reporter.ssrc reporter.sent blocks,
      size_rises reporter (length blocks) most few,
      c.most_blocks-most.ensures.fits,
      c.description_size-described.ensures.value,
      c.description_size-described.ensures.small,
      c.requires.least,
      c.requires.most,
    )

pub returns-clause-report : goal.returns-clause-report
returns-clause-report g c =
    let reporter : Reporter = reporter_of c.args.sender.now c.args.extra in
    let most = c.most_blocks-most.result in
    let start = g.T.MemberTable.content c.args.table.now in
    let items = items_of c.args.sender.now.cname.now (extra_of c.args.extra) in
    let blocks : List ReportBlock = blocks_of c.args.t (take most (pending c.args.cursor.now start)) in
    let described : c.description_size-described.result ≡ description_size items =
    c.description_size-described.ensures.value in
    let room : description_size items ≤ c.args.limit =
    omega (arith, described, c.description_size-described.ensures.small, c.requires.least) in
    let fits : report_size reporter most ≤ c.args.limit =
    omega (arith, described, room, c.most_blocks-most.ensures.fits) in
    let greatest : c.args.limit < report_size reporter (most + 1) =
    omega (arith, described, room, c.most_blocks-most.ensures.greatest) in
    let whole = both_packets (reports_with reporter.ssrc reporter.sent blocks) (description_of reporter ∷ [])
    c.put_reports-end.ensures.0
    (description_packet reporter (items_writable c.args.sender.now.cname.now (extra_of c.args.extra)
    c.requires.cname c.requires.extra) (omega (arith, room, c.requires.most)) c.put_description.ensures.in_range
    c.put_description.ensures.put) in
    whole_report c.args.limit most c.args.t c.args.cursor.now start reporter fits greatest c.requires.most whole
    c.put_reports-end.ensures.1

pub returns-clause-rest : goal.returns-clause-rest
returns-clause-rest g c =
    after_part (put_after c.put_reports-end.ensures.0.put c.put_description.ensures.put) c.put_description.result
    (omega arith)
