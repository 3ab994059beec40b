-- One entry more is counted and covered.
use Rattle.std.proofs.Common.{◌≡◌, ◌+◌, ◌++◌, Bool, List, [], ◌∷◌, arith}
use Rattle.std.proofs.lemmas.List.Elements.{All-append, All-cons, All-nil}
use Rattle.rtcp_members.specs.declared.bounds.Bounds.{Bounds}
use Rattle.rtcp_members.specs.declared.counts.Counts.{Counts}
use Rattle.rtcp_members.specs.declared.entry.Entry.{Entry}
use Rattle.rtcp_members.specs.Entries.{EntryValue, is_member, is_sender}
use Rattle.rtcp_members.specs.Pending.{is_due}
use Rattle.rtcp_members.specs.ListViews.{entry_value, tally_of, weight_of}
use Rattle.rtcp_members.specs.storage.Standing.{StandsBy, AllStandBy, IsNoLater, AreRecounted, IsAmong, IsOneMore}
use Rattle.rtcp_members.proofs.lists.BoundLemmas.{all_lower, stands}
use Rattle.std.proofs.lemmas.List.Sums.{sum_by_push}
use Rattle.rtcp_members.proofs.lists.Tallies.{one_more}
use Rattle.rtcp_members.proofs.lists.Weights.{tally_sum}

tally_push : (test : EntryValue → Bool) (entries : List Entry) (e : Entry) →
    tally_of test (entries ++ e ∷ []) ≡ weight_of test e + tally_of test entries
tally_push test entries e = omega (
  arith,
  tally_sum test (entries ++ e ∷ []),
  tally_sum test entries,
  sum_by_push (weight_of test) entries e,
)

-- One more that stays stands by bounds that are no later.
pub all_more : (bounds lower : Bounds) (entries : List Entry) (e : Entry) → AllStandBy bounds entries →
    IsNoLater lower bounds → StandsBy lower (entry_value e) → AllStandBy lower (entries ++ e ∷ [])
all_more bounds lower entries e all later its = All-append (stands lower) entries (e ∷ [])
    (all_lower lower bounds later entries all) (All-cons (stands lower) e [] its (All-nil (stands lower)))

-- ---- Counts of what stays and of what is left

pub record AreShared (counts : Counts) (front back : List Entry) : Type 0 where
  pub members : counts.members ≡ tally_of is_member front + tally_of is_member back
  pub senders : counts.senders ≡ tally_of is_sender front + tally_of is_sender back
  pub due : counts.due ≡ tally_of is_due front + tally_of is_due back

pub share_dropped : (counts next : Counts) (front back : List Entry) (e : Entry) → AreShared counts front (e ∷ back)
    → IsOneMore e next counts → AreShared next front back
share_dropped counts next front back e so fewer =
    record {
      members = omega (arith, fewer.members, so.members, one_more is_member e back);
      senders = omega (arith, fewer.senders, so.senders, one_more is_sender e back);
      due = omega (arith, fewer.due, so.due, one_more is_due e back);
    }

pub share_kept : (counts next : Counts) (front back : List Entry) (e changed : Entry) →
    AreShared counts front (e ∷ back)
    → AreRecounted e changed counts next → AreShared next (front ++ changed ∷ []) back
share_kept counts next front back e changed so made =
    record {
      members = omega (arith, made.members, so.members, one_more is_member e back, tally_push is_member front changed);
      senders = omega (arith, made.senders, so.senders, one_more is_sender e back, tally_push is_sender front changed);
      due = omega (arith, made.due, so.due, one_more is_due e back, tally_push is_due front changed);
    }

-- One that is left is counted.
pub share_has : (counts : Counts) (front back : List Entry) (e : Entry) → AreShared counts front (e ∷ back) →
    IsAmong e counts
share_has counts front back e so = record {
  members = omega (arith, so.members, one_more is_member e back);
  senders = omega (arith, so.senders, one_more is_sender e back);
  due = omega (arith, so.due, one_more is_due e back);
}
