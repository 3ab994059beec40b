-- The members and senders before the index are counted.
use Rattle.std.proofs.Common.{◌≡◌, take}
use Rattle.rtcp_members.specs.Entries.{is_member, is_sender}
use Rattle.rtcp_members.specs.ListViews.{tally_of}
use Rattle.rtcp_members.proofs.counts.tally.Given as goal

abbrev pub invariant-entries : goal.invariant-entries
invariant-entries l =
    record {
      members : l.counts.members ≡ tally_of is_member (take l.entry-index l.entries);
      senders : l.counts.senders ≡ tally_of is_sender (take l.entry-index l.entries);
    }
