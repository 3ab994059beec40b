-- The map has a row for each entry.
use Rattle.rtcp_members.proofs.lists.Listing.{entries_of}
use Rattle.rtcp_members.proofs.sorted.Rising.{rising_apart}
use Rattle.rtcp_members.proofs.sorted_table.SortedMemberTable.entries.Goals as goal

pub returns : goal.returns
returns g c = entries_of c.self.inside.capacity c.self.inside.entries.items c.args.self.now
    c.len.result (rising_apart c.self.inside.entries.items c.self.invariant.sorted.rising) c.self.view_is
    c.len.ensures
