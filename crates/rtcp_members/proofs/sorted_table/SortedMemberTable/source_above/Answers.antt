-- The first entry above is the first of the table's.
use Rattle.std.proofs.Common.{option_map, rules}
use Rattle.rtcp_members.specs.ListViews.{state_value}
use Rattle.rtcp_members.proofs.listing.Above.{listed_of_sorted}
use Rattle.rtcp_members.proofs.sorted_table.SortedMemberTable.source_above.Goals as goal

pub returns : goal.returns
returns g c =
    listed_of_sorted c.args.after c.self.inside.capacity c.self.inside.entries.items
    c.first_above.result c.args.self.now (option_map state_value c.state_at.result)
    c.self.view_is c.self.invariant.sorted.rising (search rules) (search rules)
