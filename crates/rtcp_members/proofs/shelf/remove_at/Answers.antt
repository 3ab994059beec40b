-- The entry of the rank is read in its cell, and then its slot is the last in use.
use Rattle.std.proofs.Common.{◌-◌, take, slice_index_or, arith, sym, ap, subst, ◌∙◌}
use Rattle.std.specs.List.{remove}
use Rattle.rtcp_members.specs.storage.Heaps.{in_order, picked}
use Rattle.rtcp_members.specs.storage.Standing.{AreCounts}
use Rattle.rtcp_members.specs.storage.SortedViews.{IsRising}
use Rattle.rtcp_members.proofs.lists.Leaving.{counted_removed, leaves_written, rising_removed}
use Rattle.rtcp_members.proofs.storage.Ranked.{IsAtRank, at_rank, stands, among_ranked, read_ranked, written_ranked, heap_written, heap_first, picked_removed}
use Rattle.rtcp_members.proofs.shelf.remove_at.Goals as goal
use Rattle.rtcp_members.proofs.shelf.remove_at.Goals.{After-index-cells-place}

seen : (c : After-index-cells-place) →
    IsAtRank c.args.cells.now c.args.slots.now c.args.used c.args.at c.slot_at-place.result
    (slice_index_or c.args.cells.now c.slot_at-place.result.place c.index-cells-place.result)
seen c =
    at_rank c.args.cells.now c.args.slots.now c.args.used c.args.at c.slot_at-place.result c.index-cells-place.result
    c.requires.kept.index.heap c.requires.stands c.slot_at-place.ensures

pub remove-requires : goal.remove-requires
remove-requires c =
    among_ranked (seen (goal.at.remove-requires c).After-index-cells-place) c.args.counts.now c.requires.kept.counted

pub returns-clause-items : goal.returns-clause-items
returns-clause-items c =
    let so = seen (goal.at.returns-clause-items c).After-index-cells-place in
    ap (picked _) (sym c.move_behind.ensures.others)
    ∙ picked_removed _ (take c.args.used c.args.slots.now) c.args.at
    ∙ ap (λ xs. remove xs c.args.at) (written_ranked so c.retire.new.self c.retire.ensures.ssrc)
    ∙ leaves_written (in_order c.args.cells.now c.args.slots.now c.args.used) c.args.at c.retire.new.self

pub returns-clause-kept : goal.returns-clause-kept
returns-clause-kept c =
    let items = in_order c.args.cells.now c.args.slots.now c.args.used in
    let so = seen (goal.at.returns-clause-kept c).After-index-cells-place in
    let is = sym (returns-clause-items c) in
    record {
      index = record {
        heap = heap_first _ _ c.args.used (c.args.used - 1) (c.move_behind.ensures.heap _
            (heap_written so c.retire.new.self c.retire.ensures.ssrc)) (omega arith);
        rising = subst IsRising is (rising_removed items c.args.at (stands so) c.requires.kept.index.rising);
      };
      counted = subst (AreCounts c.remove.new.self) is (counted_removed c.args.counts.now c.remove.new.self items
          c.args.at _ (stands so) (read_ranked so _) c.requires.kept.counted c.remove.ensures);
    }
