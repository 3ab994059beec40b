-- The entry of the least SSRC above is the first one.
use Rattle.std.proofs.Common.{option_map, rules}
use Rattle.rtcp_members.specs.ListViews.{state_value}
use Rattle.rtcp_members.proofs.listing.Above.{listed_of_least, listed_of_none}
use Rattle.rtcp_members.proofs.list_table.ListTableMemberTable.source_from.Goals as goal

pub returns-in-Some : goal.returns-in-Some
returns-in-Some c =
    listed_of_least c.args.after c.self.inside.capacity c.self.inside.entries.items c.args.self.now
    c.self.invariant.apart c.self.view_is
    c.in-Some.ssrc (option_map state_value c.state_in.result) (search rules) (search rules)

pub returns-in-None : goal.returns-in-None
returns-in-None c = listed_of_none c.args.after c.self.inside.capacity c.self.inside.entries.items
    c.args.self.now c.self.invariant.apart c.self.view_is (search rules)
