-- The search finds an entry exactly where the table has one.
use Rattle.std.proofs.Common.{◌∙◌}
use Rattle.rtcp_members.proofs.sorted.Searching.{found_is_held}
use Rattle.rtcp_members.proofs.sorted_table.SortedMemberTable.holds.Goals as goal

pub returns : goal.returns
returns g c =
    c.is_ok.ensures.value ∙ found_is_held c.args.ssrc c.self.inside.capacity
    c.self.inside.entries.items c.args.self.now c.find.result c.self.view_is c.find.ensures
