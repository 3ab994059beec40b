-- What was found before the index, and the least from there on, are the least of all.
use Rattle.std.proofs.Common.{◌≡◌, drop}
use Rattle.rtcp_members.specs.ListViews.{rows_of}
use Rattle.rtcp_members.specs.Least.{is_due_above, least, lesser_of}
use Rattle.rtcp_members.proofs.list_table.least_due.Given as goal

abbrev pub invariant-entries : goal.invariant-entries
invariant-entries l = lesser_of l.found (least (is_due_above l.above) (rows_of (drop l.entry-index l.entries))) ≡ least
    (is_due_above l.above) (rows_of l.entries)
