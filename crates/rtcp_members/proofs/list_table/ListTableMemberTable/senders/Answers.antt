-- Counted in the list is counted in the table.
use Rattle.std.proofs.Common.{◌∙◌, ap}
use Rattle.rtcp_members.specs.Entries.{is_sender}
use Rattle.rtcp_members.specs.ListViews.{tally_of}
use Rattle.rtcp_members.proofs.lists.Tallies.{counted_at}
use Rattle.rtcp_members.proofs.list_table.ListTableMemberTable.senders.Goals as goal

pub returns : goal.returns
returns c = counted_at is_sender c.self.inside.capacity c.self.inside.entries.items c.args.self.now
    c.from.result c.self.invariant.apart c.self.view_is (c.from.ensures ∙ c.tally.ensures.senders
    ∙ ap (tally_of is_sender) c.as_slice.ensures.value)
