use Rattle.std.proofs.Common.{◌≡◌, ◌≤◌, take}
use Rattle.std.specs.List.{count_by}
use Rattle.rtcp_show.specs.ShortRows.{is_shown}
use Rattle.rtcp_show.proofs.short_rows.shown_count.Given as goal

-- those that are shown so far
abbrev pub invariant-loop-rank : goal.invariant-loop-rank
invariant-loop-rank l = record {
  counted : l.count ≡ count_by (is_shown l.most l.ranks) (take l.rank-index l.ranks);
  few : l.count ≤ l.rank-index;
}
