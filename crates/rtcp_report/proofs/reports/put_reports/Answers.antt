-- The first report, and a further one where the first is full.
use Rattle.std.proofs.Common.{◌≡◌, ◌+◌, ◌-◌, ◌*◌, ◌≤◌, ◌++◌, List, length, take, option_map, arith, sym, ap, subst, ◌∙◌, zero-add}
use Rattle.std.proofs.lemmas.List.{length-take}
use Rattle.rtcp_wire.specs.Values.{ReportBlock}
use Rattle.rtcp_members.specs.Pending.{EntryRow, pending, blocks_of}
use Rattle.rtcp_report.specs.Gathered.{IsTakenFrom, PutsReports}
use Rattle.rtcp_report.specs.Reports.{report_with, first_report_size}
use Rattle.rtcp_report.specs.Views.{sent_value}
use Rattle.rtcp_report.proofs.PutReports.{size_of_some, size_of_none, report_put, one_packet, few_put, more_put, short_rows, both_rows}
use Rattle.rtcp_report.proofs.ReportPackets.{report_writable}
use Rattle.rtcp_report.proofs.TakenInTurn.{blocks_of_all, taken_both}
use Rattle.rtcp_report.proofs.reports.put_reports.Goals as goal
use Rattle.rtcp_report.proofs.reports.put_reports.Goals.{then-is_some, else-is_some}

pub returns-then-count-lt-BLOCKS_OF_PACKET : goal.returns-then-count-lt-BLOCKS_OF_PACKET
returns-then-count-lt-BLOCKS_OF_PACKET g c =
    let start = g.T.MemberTable.content c.args.table.now in
    let after = g.T.MemberTable.content c.put_blocks-count.new.table in
    let waiting = pending c.args.cursor.now start in
    let ssrc = c.args.sender.now.ssrc in
    let sent = option_map sent_value c.args.sender.now.sr in
    let rows : List EntryRow = take c.min-few.result waiting in
    let blocks : List ReportBlock = blocks_of c.args.t rows in
    let taken = c.put_blocks-count.ensures.taken in
    let end = c.if-is_some.begin + 24 * c.put_blocks-count.result in
    let place : c.if-is_some.begin ≡ first_report_size sent = elim c.if-is_some.branch [
      | then-is_some w ↦ w.begin-is ∙ size_of_some c.args.sender.now.sr (sym w.if-is_some.true ∙ c.is_some.ensures)
      | else-is_some w ↦ w.begin-is ∙ size_of_none c.args.sender.now.sr (sym w.if-is_some.false ∙ c.is_some.ensures)
    ] in
    let count : c.put_blocks-count.result ≡ length blocks = c.put_blocks-count.ensures.count ∙ sym taken.count in
    let few : length blocks ≤ 31 = omega (arith, count) in
    let same : rows ≡ take c.args.most waiting =
    short_rows c.args.most c.min-few.result waiting c.min-few.ensures
    (omega (arith, c.put_blocks-count.ensures.count)) in (
      subst (λ (r : List EntryRow). PutsReports ssrc sent (blocks_of c.args.t r) c.args.octets.now
          c.put_head.new.octets end) same
          (few_put ssrc sent blocks few (one_packet (report_with ssrc sent blocks)
          (report_put ssrc sent blocks c.put_blocks-count.result count c.put_blocks-count.ensures.put
          c.put_head.ensures.put (place ∙ sym (zero-add (first_report_size sent))))
          (report_writable ssrc sent blocks few taken.writable)
          (c.put_head.ensures.in_range blocks taken.in_range))),
      subst (λ (r : List EntryRow). IsTakenFrom c.args.t r c.args.cursor.now start c.put_blocks-count.new.cursor
          after) same taken,
    )

pub returns : goal.returns
returns g c =
    let start = g.T.MemberTable.content c.args.table.now in
    let middle = g.T.MemberTable.content c.put_blocks-count.new.table in
    let after = g.T.MemberTable.content c.put_further.new.table in
    let waiting = pending c.args.cursor.now start in
    let ssrc = c.args.sender.now.ssrc in
    let sent = option_map sent_value c.args.sender.now.sr in
    let rows : List EntryRow = take c.min-few.result waiting in
    let others : List EntryRow = take (c.args.most - 31) (pending c.put_blocks-count.new.cursor middle) in
    let blocks : List ReportBlock = blocks_of c.args.t rows in
    let taken = c.put_blocks-count.ensures.taken in
    let place : c.if-is_some.begin ≡ first_report_size sent = elim c.if-is_some.branch [
      | then-is_some w ↦ w.begin-is ∙ size_of_some c.args.sender.now.sr (sym w.if-is_some.true ∙ c.is_some.ensures)
      | else-is_some w ↦ w.begin-is ∙ size_of_none c.args.sender.now.sr (sym w.if-is_some.false ∙ c.is_some.ensures)
    ] in
    let count : c.put_blocks-count.result ≡ length blocks = c.put_blocks-count.ensures.count ∙ sym taken.count in
    let within : length rows ≤ c.min-few.result = omega (arith, length-take c.min-few.result waiting) in
    let full : length blocks ≡ 31 =
    omega (arith, count, within, c.put_blocks-count.ensures.count, c.min-few.ensures) in
    let many : 31 ≤ c.args.most = omega (arith, within, c.put_blocks-count.ensures.count, c.min-few.ensures) in
    let same : rows ++ others ≡ take c.args.most waiting =
    both_rows c.args.most c.min-few.result waiting (pending c.put_blocks-count.new.cursor middle) c.min-few.ensures
    many c.put_blocks-count.ensures.rest in
    let first = one_packet (report_with ssrc sent blocks)
    (report_put ssrc sent blocks c.put_blocks-count.result count c.put_blocks-count.ensures.put c.put_head.ensures.put
    (place ∙ sym (zero-add (first_report_size sent))))
    (report_writable ssrc sent blocks (omega (arith, full)) taken.writable)
    (c.put_head.ensures.in_range blocks taken.in_range) in
    let both : PutsReports ssrc sent (blocks ++ blocks_of c.args.t others) c.args.octets.now c.put_further.new.octets
    c.put_further.result =
    more_put ssrc sent blocks (blocks_of c.args.t others) full first c.put_further.ensures.0 in (
      subst (λ (b : List ReportBlock). PutsReports ssrc sent b c.args.octets.now c.put_further.new.octets
          c.put_further.result)
          (sym (blocks_of_all c.args.t rows others) ∙ ap (λ (r : List EntryRow). blocks_of c.args.t r) same) both,
      subst (λ (r : List EntryRow). IsTakenFrom c.args.t r c.args.cursor.now start c.put_further.new.cursor after) same
          (taken_both taken c.put_further.ensures.1),
    )
