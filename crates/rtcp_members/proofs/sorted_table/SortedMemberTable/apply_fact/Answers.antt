-- The list that the call worked on is the table's, and a source without an entry counts no packet.
use Rattle.std.proofs.Common.{◌≡◌, ℕ, List, arith, ◌∙◌, ap, sym, subst}
use Rattle.rtcp_wire.specs.Facts.{subject}
use Rattle.rtcp_members.specs.declared.entry.Entry.{Entry}
use Rattle.rtcp_members.specs.declared.bounds.Bounds.{Bounds}
use Rattle.rtcp_members.specs.storage.Heaps.{no_entry}
use Rattle.rtcp_members.specs.storage.Shelves.{ShelfValue}
use Rattle.rtcp_members.specs.storage.Standing.{AllStandBy}
use Rattle.rtcp_members.specs.ListViews.{table_of, IsRankOf}
use Rattle.rtcp_members.specs.storage.SortedViews.{IsGapFor, IsSortedTable}
use Rattle.rtcp_members.specs.Tables.{TableValue, after_fact, counted, counted_of, entry_with_fact, placed}
use Rattle.rtcp_members.proofs.lists.Applying.{counted_applied, place_applied}
use Rattle.rtcp_members.proofs.moving.Moving.{moved_in_table}
use Rattle.rtcp_members.proofs.sorted.Edits.{sorted_edited, table_edited, stand_with_fact}
use Rattle.rtcp_members.proofs.lists.BoundLemmas.{all_lower}
use Rattle.rtcp_members.proofs.sorted.Searching.{none_in_gap}
use Rattle.rtcp_members.proofs.sorted_table.SortedMemberTable.apply_fact.Given.{Over}
use Rattle.rtcp_members.proofs.sorted_table.SortedMemberTable.apply_fact.Goals as goal
use Rattle.rtcp_members.proofs.sorted_table.SortedMemberTable.apply_fact.Goals.{In-Ok}

-- ---- The search only notes where the source stands

view_stays : (capacity : ℕ) {found entries : ShelfValue} {table : TableValue} → found ≡ entries →
    table_of capacity entries.items ≡ table → table_of capacity found.items ≡ table
view_stays capacity kept is = ap (λ (v : ShelfValue). table_of capacity v.items) kept ∙ is

sorted_stays : (capacity : ℕ) {found entries : ShelfValue} → found ≡ entries →
    IsSortedTable capacity entries.items → IsSortedTable capacity found.items
sorted_stays capacity kept = subst (λ (v : ShelfValue). IsSortedTable capacity v.items) (sym kept)

standing_stays : (bounds : Bounds) {found entries : ShelfValue} → found ≡ entries →
    AllStandBy bounds entries.items → AllStandBy bounds found.items
standing_stays bounds kept = subst (λ (v : ShelfValue). AllStandBy bounds v.items) (sym kept)

-- ---- Where the source has an entry

place : (g : Over) (c : In-Ok g) → IsRankOf (subject c.args.fact) c.search_hinted.new.entries.items c.in-Ok.at
place g c = subst (λ ssrc. IsRankOf ssrc c.search_hinted.new.entries.items c.in-Ok.at) c.ssrc-ssrc.ensures
    c.in-Ok.ensures.located

pub returns-in-Ok : goal.returns-in-Ok
returns-in-Ok g c =
    let items : List Entry = c.search_hinted.new.entries.items in
    let stands = place g (goal.at.returns-in-Ok g c).In-Ok in
    let is = view_stays c.self.inside.capacity c.in-Ok.ensures.kept c.self.view_is in
    let sorted = sorted_stays c.self.inside.capacity c.in-Ok.ensures.kept c.self.invariant.sorted in
    let taken = c.apply.ensures.taken in
    record {
      place = place_applied items c.in-Ok.at c.args.fact no_entry c.apply.result.applied.place stands
          (taken.place no_entry) c.self.inside.capacity
          ∙ ap (λ (table : TableValue). placed table c.args.fact) is;
      counted = counted_applied items c.in-Ok.at c.args.fact no_entry c.apply.result.applied.counted stands
          (taken.counted no_entry) c.self.inside.capacity
          ∙ ap (λ (table : TableValue). counted table c.args.fact) is;
      moved = taken.moved ∙ moved_in_table c.self.inside.capacity items c.apply.new.self.items c.args.self.now
          sorted.rising (sorted_edited (subject c.args.fact) items c.apply.new.self.items c.in-Ok.at
          (entry_with_fact c.args.fact c.args.t) stands taken.changed c.self.inside.capacity
          sorted).rising is;
      content = table_edited c.args.fact c.args.t items c.apply.new.self.items c.in-Ok.at stands
          taken.changed sorted.rising c.self.inside.capacity
          ∙ ap (after_fact c.args.fact c.args.t) is;
    }

pub invariant_of-self : goal.invariant_of-self
invariant_of-self g c =
    let items : List Entry = c.search_hinted.new.entries.items in
    let kept = c.in-Ok.ensures.kept in
    let stands = place g (goal.at.invariant_of-self g c).In-Ok in
    let made = c.apply.ensures.taken.changed in
    let next : List Entry = c.apply.new.self.items in
    record {
      sorted = sorted_edited (subject c.args.fact) items next c.in-Ok.at
          (entry_with_fact c.args.fact c.args.t) stands made c.self.inside.capacity
          (sorted_stays c.self.inside.capacity kept c.self.invariant.sorted);
      roomy = omega (
        arith,
        c.self.invariant.roomy,
        c.apply.ensures.in_place.room,
        ap (λ (v : ShelfValue). v.room) kept,
      );
      standing = stand_with_fact c.args.fact c.args.t items next c.in-Ok.at stands made
          c.lower.new.self c.lower.ensures.up_to
          (standing_stays c.lower.new.self kept (all_lower c.lower.new.self c.self.inside.bounds
          c.lower.ensures.no_later c.self.inside.entries.items c.self.invariant.standing));
    }

-- ---- Where it has none

pub returns-in-Err-clause-counted : goal.returns-in-Err-clause-counted
returns-in-Err-clause-counted g c =
    let items : List Entry = c.search_hinted.new.entries.items in
    let gap = subst (λ ssrc. IsGapFor ssrc items c.in-Err.gap) c.ssrc-ssrc.ensures c.in-Err.ensures.located in
    c.admit.ensures.counted
    ∙ ap (counted_of c.args.fact) (sym (none_in_gap (subject c.args.fact) items c.in-Err.gap gap))
    ∙ ap (λ (table : TableValue). counted table c.args.fact)
    (view_stays c.self.inside.capacity c.in-Err.ensures.kept c.self.view_is)

pub returns-in-Err-clause-moved : goal.returns-in-Err-clause-moved
returns-in-Err-clause-moved g c =
    let kept = c.in-Err.ensures.kept in
    c.admit.ensures.moved
    ∙ moved_in_table c.self.inside.capacity c.search_hinted.new.entries.items c.admit.new.entries.items
    c.args.self.now (sorted_stays c.self.inside.capacity kept c.self.invariant.sorted).rising
    c.admit.ensures.sorted.rising
    (view_stays c.self.inside.capacity kept c.self.view_is)

pub invariant_of-self-in-Err : goal.invariant_of-self-in-Err
invariant_of-self-in-Err g c =
    let kept = c.in-Err.ensures.kept in
    let stood = all_lower c.lower.new.self c.self.inside.bounds c.lower.ensures.no_later c.self.inside.entries.items
    c.self.invariant.standing in
    record {
      sorted = subst (λ (n : ℕ). IsSortedTable n c.admit.new.entries.items) c.from-capacity.ensures
          c.admit.ensures.sorted;
      roomy = omega (
        arith,
        c.self.invariant.roomy,
        c.admit.ensures.in_place.room,
        ap (λ (v : ShelfValue). v.room) kept,
      );
      standing = c.admit.ensures.stand c.lower.new.self c.lower.ensures.up_to
          (standing_stays c.lower.new.self kept stood);
    }
