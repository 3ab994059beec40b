-- The map has a row for each entry.
use Rattle.std.proofs.Common.{rules}
use Rattle.rtcp_members.proofs.lists.Listing.{entries_of}
use Rattle.rtcp_members.proofs.list_table.ListTableMemberTable.entries.Goals as goal

pub returns : goal.returns
returns c = entries_of c.self.inside.capacity c.self.inside.entries.items c.args.self.now
    c.len.result c.self.invariant.apart c.self.view_is (search rules)
