-- The first that is due of the rest is the first of all.
use Rattle.std.proofs.Common.{◌≡◌, drop, take, filter}
use Rattle.rtcp_members.specs.Pending.{EntryRow, is_due, first_ssrc}
use Rattle.rtcp_members.specs.ListViews.{rows_of}
use Rattle.rtcp_members.proofs.sorted_table.first_due.Given as goal

abbrev pub invariant-entries : goal.invariant-entries
invariant-entries g l =
    first_ssrc (filter (λ (row : EntryRow). is_due row.1) (rows_of (drop l.at (take l.until l.entries.items))))
    ≡ first_ssrc (filter (λ (row : EntryRow). is_due row.1) (rows_of (drop l.from (take l.until l.entries.items))))
