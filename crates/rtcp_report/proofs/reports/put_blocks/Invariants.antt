use Rattle.std.proofs.Common.{◌-◌, ◌≤◌}
use Rattle.rtcp_report.proofs.TakenInTurn.{IsTaken}
use Rattle.rtcp_report.proofs.reports.put_blocks.Given as goal

abbrev pub invariant-sources : goal.invariant-sources
invariant-sources g l = record {
  taken : IsTaken l.t l.cursor (g.T.MemberTable.content l.initial.table) l.last
      (g.T.MemberTable.content l.table) l.at l.count l.initial.octets l.octets;
  within : l.count ≤ l.most;
}

abbrev pub decreases-sources : goal.decreases-sources
decreases-sources g l = l.most - l.count
