use Rattle.std.proofs.Common.{◌≡◌, ◌≤◌, take}
use Rattle.std.specs.List.{count_by}
use Rattle.rtcp_show.specs.ShortRows.{is_worse}
use Rattle.rtcp_show.proofs.short_rows.worse_than.Given as goal

-- those that are worse so far
abbrev pub invariant-loop-other : goal.invariant-loop-other
invariant-loop-other l = record {
  counted : l.count ≡ count_by (λ other. is_worse other l.one) (take l.other-index l.ranks);
  few : l.count ≤ l.other-index;
}
