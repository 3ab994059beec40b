-- A report gives no packet.
use Rattle.std.proofs.Common.{subst, sym}
use Rattle.rtcp_members.specs.Tables.{HasFew}
use Rattle.rtcp_report.specs.Sizes.{reported_rows}
use Rattle.rtcp_report.specs.Views.{reporter_of}
use Rattle.rtcp_report.proofs.LawLemmas.{tables_follow_reports-packets}
use Rattle.rtcp_report_tests.proofs.session.Session.report.Goals as goal

pub invariant_of-self : goal.invariant_of-self
invariant_of-self g c =
    let start = g.T.MemberTable.content c.args.self.now.table in
    let rows = reported_rows (reporter_of c.args.sender.now c.args.extra) c.args.limit c.args.self.now.cursor start in
    record {
      few = subst (HasFew c.args.self.now.facts) (sym c.report-octets.ensures.content)
          (tables_follow_reports-packets c.args.self.now.facts rows start c.args.self.now.few);
    }
