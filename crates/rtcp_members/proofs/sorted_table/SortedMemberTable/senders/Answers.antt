-- Counted in the list is counted in the table.
use Rattle.std.proofs.Common.{◌∙◌}
use Rattle.rtcp_members.specs.Entries.{is_sender}
use Rattle.rtcp_members.proofs.sorted.Rising.{rising_apart}
use Rattle.rtcp_members.proofs.lists.Tallies.{counted_at}
use Rattle.rtcp_members.proofs.sorted_table.SortedMemberTable.senders.Goals as goal

pub returns : goal.returns
returns g c =
    counted_at is_sender c.self.inside.capacity c.self.inside.entries.items c.args.self.now
    c.from.result (rising_apart c.self.inside.entries.items c.self.invariant.sorted.rising) c.self.view_is
    (c.from.ensures ∙ c.counts.ensures.senders)
