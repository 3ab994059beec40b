-- No more are counted than stand before the index.
use Rattle.std.proofs.Common.{◌≤◌, Bool, take, arith}
use Rattle.rtcp_members.specs.Entries.{EntryValue, is_member, is_sender}
use Rattle.rtcp_members.specs.ListViews.{tally_of}
use Rattle.rtcp_members.proofs.lists.Weights.{few_before}
use Rattle.rtcp_members.proofs.counts.tally.Goals as goal

pub add_roles-requires : goal.add_roles-requires
add_roles-requires c =
    let few : (test : EntryValue → Bool) → tally_of test (take c.entries.entry-index c.args.entries.now)
    ≤ c.entries.entry-index =
    λ test. few_before test c.args.entries.now c.entries.entry-index c.entries.auto.entry-index-end in
    record {
      members = omega (arith, few is_member, c.entries.invariant.members, c.entries-test.true, c.requires);
      senders = omega (arith, few is_sender, c.entries.invariant.senders, c.entries-test.true, c.requires);
    }
