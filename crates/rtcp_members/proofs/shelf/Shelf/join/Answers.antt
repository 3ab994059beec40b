-- The slots from the gap on are shifted, and that of the new entry is put there.
use Rattle.std.proofs.Common.{rules, arith, ◌≡◌, ◌≤◌, ◌<◌, ◌+◌, ℕ, List, length, refl, sym, ap, subst, ◌∙◌}
use Rattle.std.specs.List.{insert, remove}
use Rattle.std.proofs.lemmas.List.{length-map}
use Rattle.std.proofs.lemmas.List.Edits.{length-insert, length-remove}
use Rattle.rtcp_wire.specs.Facts.{subject}
use Rattle.rtcp_members.specs.declared.cells.Cell.{Cell}
use Rattle.rtcp_members.specs.declared.cells.Slot.{Slot}
use Rattle.rtcp_members.specs.declared.entry.Entry.{Entry}
use Rattle.rtcp_members.specs.storage.Heaps.{in_order, entries_in, IsIndexed, IsPut}
use Rattle.rtcp_members.specs.Entries.{is_member, is_sender}
use Rattle.rtcp_members.specs.Pending.{is_due}
use Rattle.rtcp_members.specs.storage.Shelves.{ShelfValue}
use Rattle.rtcp_members.specs.storage.Standing.{AreCounts}
use Rattle.rtcp_members.specs.storage.SortedViews.{IsGapFor, IsRising}
use Rattle.rtcp_members.proofs.storage.Heaps.{items_inserted, heap_inserted}
use Rattle.rtcp_members.proofs.sorted.Inserting.{counted_insert}
use Rattle.rtcp_members.proofs.storage.Ranked.{length_ranked}
use Rattle.rtcp_members.proofs.lists.Weights.{tally_at_most}
use Rattle.rtcp_members.proofs.sorted.Rising.{rising_insert}
use Rattle.rtcp_members.proofs.shelf.Shelf.join.Given.{Over}
use Rattle.rtcp_members.proofs.shelf.Shelf.join.Goals as goal
use Rattle.rtcp_members.proofs.shelf.Shelf.join.Goals.{After-shift}

-- what is left once an entry was put and the slots were shifted
module _ (old cells : List Cell) (slots spared : List Slot) (used at place : ℕ) (entry : Entry)
    (indexed : IsIndexed old slots used)
    (put : IsPut (entries_in old) (entries_in cells) slots spared used place entry)
    (gap : IsGapFor entry.ssrc (in_order old slots used) at) (few : length cells ≤ 1024) where
  abbrev shifted : List Slot
  shifted = insert spared at (record { ssrc = entry.ssrc; place = place })

  below_used : at ≤ used
  below_used = omega (arith, gap.in_range, length_ranked old slots used indexed.heap)

  pub its_items : in_order cells shifted (used + 1) ≡ insert (in_order old slots used) at entry
  its_items = items_inserted (entries_in old) (entries_in cells) slots spared used at
      (record { ssrc = entry.ssrc; place = place }) entry indexed.heap put refl below_used

  pub still_indexed : IsIndexed cells shifted (used + 1)
  still_indexed = record {
    heap = heap_inserted (entries_in old) (entries_in cells) slots spared used at
        (record { ssrc = entry.ssrc; place = place }) entry indexed.heap put refl below_used
        (omega (arith, few, length-map cells (λ (x : Cell). x.entry)));
    rising = subst IsRising (sym its_items) (rising_insert (in_order old slots used) at entry indexed.rising gap);
  }

-- where one slot leaves and one comes in, there are as many as before
same_length : (slots : List Slot) (used at : ℕ) (slot : Slot) → at ≤ used → used < length slots →
    length (insert (remove slots used) at slot) ≡ length slots
same_length slots used at slot below within =
    let fewer : length (remove slots used) + 1 ≡ length slots = length-remove slots used within in
    length-insert (remove slots used) at slot (omega (arith, below, within, fewer)) ∙ fewer

-- the slots are those that the block has then
slots_then : (g : Over) (c : After-shift g) →
    g.S.Blocks.items (g.S.Blocks.with_items c.lay-place.new.slots c.shift.new.slots)
    ≡ insert (remove (g.S.Blocks.items c.lay-place.new.slots) c.self.inside.used) c.args.gap
    (record { ssrc = c.take_fact.new.self.ssrc; place = c.lay-place.result })
slots_then g c =
    g.met.S.Blocks.written c.lay-place.new.slots c.shift.new.slots
    (ap (λ (xs : List Slot). length xs) c.shift.ensures
    ∙ same_length c.as_mut_slice.result.now c.self.inside.used c.args.gap _ below (omega
    (arith, c.lay-place.ensures.end, ap (λ (xs : List Slot). length xs) lent))
    ∙ ap (λ (xs : List Slot). length xs) lent)
    ∙ c.shift.ensures
    ∙ ap (λ xs. insert (remove xs c.self.inside.used) c.args.gap
    (record { ssrc = c.take_fact.new.self.ssrc; place = c.lay-place.result })) lent
  where
    lent : c.as_mut_slice.result.now ≡ g.S.Blocks.items c.lay-place.new.slots
    lent = c.as_mut_slice.ensures.items

    below : c.args.gap ≤ c.self.inside.used
    below = omega (
      arith,
      c.requires.gap.in_range,
      ap (λ (v : ShelfValue). length v.items) c.self.view_is,
      length_ranked (g.C.Blocks.items c.self.inside.cells) (g.S.Blocks.items c.self.inside.slots) c.self.inside.used
          c.self.invariant.kept.index.heap,
    )

its_ssrc : (g : Over) (c : After-shift g) → c.take_fact.new.self.ssrc ≡ subject c.args.fact
its_ssrc g c = search rules

made : (g : Over) (c : After-shift g) →
    (in_order (g.C.Blocks.items c.lay-place.new.cells) (g.S.Blocks.items (g.S.Blocks.with_items c.lay-place.new.slots
    c.shift.new.slots)) (c.self.inside.used + 1) ≡ insert c.args.self.now.items c.args.gap c.take_fact.new.self)
    × IsIndexed (g.C.Blocks.items c.lay-place.new.cells) (g.S.Blocks.items (g.S.Blocks.with_items
    c.lay-place.new.slots c.shift.new.slots)) (c.self.inside.used + 1)
made g c =
    let before : List Cell = g.C.Blocks.items c.self.inside.cells in
    let cells : List Cell = g.C.Blocks.items c.lay-place.new.cells in
    let slots : List Slot = g.S.Blocks.items c.self.inside.slots in
    let spared : List Slot = remove (g.S.Blocks.items c.lay-place.new.slots) c.self.inside.used in
    let used : ℕ = c.self.inside.used in
    let items = ap (λ (v : ShelfValue). v.items) c.self.view_is in
    let gap = subst (λ (entries : List Entry). IsGapFor c.take_fact.new.self.ssrc entries c.args.gap) (sym items)
    (subst (λ (ssrc : ℕ). IsGapFor ssrc c.args.self.now.items c.args.gap) (sym (its_ssrc g c)) c.requires.gap) in
    let few : length cells ≤ 1024 = omega (
      arith,
      c.lay-place.ensures.fits,
      c.lay-place.ensures.room,
      c.self.invariant.few,
    ) in (
      ap (λ xs. in_order cells xs (used + 1)) (slots_then g c)
          ∙ its_items before cells slots spared used c.args.gap c.lay-place.result c.take_fact.new.self
          c.self.invariant.kept.index c.lay-place.ensures.put gap few
          ∙ ap (λ xs. insert xs c.args.gap c.take_fact.new.self) items,
      subst (λ xs. IsIndexed cells xs (used + 1)) (sym (slots_then g c)) (still_indexed before cells slots spared used
          c.args.gap c.lay-place.result c.take_fact.new.self c.self.invariant.kept.index c.lay-place.ensures.put gap
          few),
    )

pub returns-clause-joined : goal.returns-clause-joined
returns-clause-joined g c =
    let so = (goal.at.returns-clause-joined g c).After-shift in
    record { entry = c.take_fact.new.self; ssrc = its_ssrc g so; value = search rules; items = (made g so).0 }

pub invariant_of-self : goal.invariant_of-self
invariant_of-self g c =
    let so = (goal.at.invariant_of-self g c).After-shift in
    record {
      kept = record {
        index = (made g so).1;
        counted = subst (AreCounts c.add.new.self) (sym (made g so).0)
            (counted_insert c.self.inside.counts c.add.new.self c.args.self.now.items c.args.gap c.take_fact.new.self
            (subst (AreCounts c.self.inside.counts) (ap (λ (v : ShelfValue). v.items) c.self.view_is)
            c.self.invariant.kept.counted) c.add.ensures);
      };
      few = omega (arith, c.self.invariant.few, c.lay-place.ensures.room);
      indexed = omega (
        arith,
        c.self.invariant.indexed,
        c.lay-place.ensures.room,
        c.lay-place.ensures.index_room,
        g.met.S.Blocks.kept c.lay-place.new.slots c.shift.new.slots,
      );
    }

pub add-requires : goal.add-requires
add-requires g c =
    let cells : List Cell = g.C.Blocks.items c.self.inside.cells in
    let slots : List Slot = g.S.Blocks.items c.self.inside.slots in
    let counted = c.self.invariant.kept.counted in
    let heap = c.self.invariant.kept.index.heap in
    let items = in_order cells slots c.self.inside.used in
    let most = length_ranked cells slots c.self.inside.used heap in
    record {
      members = omega (arith, counted.members, most, heap.in_use, heap.all, heap.few, tally_at_most is_member items);
      senders = omega (arith, counted.senders, most, heap.in_use, heap.all, heap.few, tally_at_most is_sender items);
      due = omega (arith, counted.due, most, heap.in_use, heap.all, heap.few, tally_at_most is_due items);
    }
