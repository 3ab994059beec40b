-- A source of which a block is due, at its entry of a sorted list.
use Rattle.std.proofs.Common.{◌≡◌, ◌-◌, ℕ, Bool, true, List, IsTrue, slice_index_or, if◌then◌else◌, arith, sym, ap, subst, ◌∙◌}
use Rattle.std.specs.FinMap as finite
use Rattle.rtcp_members.specs.declared.counts.Counts.{Counts}
use Rattle.rtcp_members.specs.declared.entry.Entry.{Entry}
use Rattle.rtcp_members.specs.Entries.{EntryValue, is_member, is_sender, is_such}
use Rattle.rtcp_members.specs.Pending.{is_due, reported_entry}
use Rattle.rtcp_members.specs.ListViews.{entry_value, map_of, weight_of, IsRankOf}
use Rattle.rtcp_members.specs.storage.Standing.{AreRecounted, IsAmong}
use Rattle.rtcp_members.proofs.lists.Applying.{read_there}
use Rattle.rtcp_members.proofs.turns.Turns.{not_due}

module _ (ssrc : ℕ) (entries : List Entry) (at : ℕ) (place : IsRankOf ssrc entries at)
    (due : IsTrue (is_such is_due (finite.get (map_of entries) ssrc))) where
  its_due : is_due (entry_value place.entry) ≡ true
  its_due = subst (λ o. IsTrue (is_such is_due o)) place.found due

  -- It is the entry that is due.
  pub due_there : (d : Entry) → IsTrue (is_due (entry_value (slice_index_or entries at d)))
  due_there d = ap (λ (y : Entry). is_due (entry_value y)) (read_there ssrc entries at d place) ∙ its_due

-- One source stands at a rank.
pub same_rank : (entries : List Entry) (at one other : ℕ) → IsRankOf one entries at → IsRankOf other entries at →
    one ≡ other
same_rank entries at one other its place =
    sym its.its_ssrc ∙ ap (λ (e : Entry). e.ssrc) (sym (read_there one entries at its.entry its)
    ∙ read_there other entries at its.entry place) ∙ place.its_ssrc

-- Once its block is made, a source is due no more, and else counts as it did.
pub recounted_reported : (e next : Entry) → entry_value next ≡ reported_entry (entry_value e) →
    IsTrue (is_due (entry_value e)) → (counts fewer : Counts) → IsAmong e counts →
    fewer.members ≡ counts.members → fewer.senders ≡ counts.senders → fewer.due ≡ counts.due - 1 →
    AreRecounted e next counts fewer
recounted_reported e next value due counts fewer among members senders less =
    let weight : (test : EntryValue → Bool) → weight_of test next ≡ (if test (reported_entry (entry_value e)) then 1
    else 0) = λ test. ap (λ v. if test v then 1 else 0) value in
    let none : weight_of is_due next ≡ 0 = weight is_due
    ∙ ap (λ (b : Bool). if b then 1 else 0) (not_due (entry_value e)) in
    let one : weight_of is_due e ≡ 1 = ap (λ (b : Bool). if b then 1 else 0) due in
    record {
      members = omega (arith, members, weight is_member);
      senders = omega (arith, senders, weight is_sender);
      due = omega (arith, less, none, one, among.due);
    }
