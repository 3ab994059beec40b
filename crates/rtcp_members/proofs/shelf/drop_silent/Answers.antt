-- A slot comes to the front where its entry stays, and else is left where it is.
use Rattle.std.proofs.Common.{◌<◌, ◌≤◌, ◌+◌, List, length, take, set, slice_index_or, arith, sym, ap, subst, ◌∙◌}
use Rattle.std.proofs.lemmas.List.{length-set}
use Rattle.rtcp_members.specs.declared.cells.Slot.{Slot}
use Rattle.rtcp_members.specs.declared.entry.Entry.{Entry}
use Rattle.rtcp_members.specs.Traces.{horizons_at}
use Rattle.rtcp_members.specs.storage.Heaps.{IsHeap, entries_in, in_order, picked}
use Rattle.rtcp_members.specs.storage.Standing.{IsMeasured}
use Rattle.rtcp_members.proofs.lists.Dropping.{IsDropping, left_is_counted, one_dropped, one_kept, all_dropped, all_measured, lapsed_ssrc}
use Rattle.rtcp_members.proofs.sorted.Checking.{rising_checked}
use Rattle.rtcp_members.proofs.storage.Ranked.{IsAtRank, at_rank, stands, read_ranked, written_ranked, heap_written, length_ranked, first_ranked, heap_first, length_exchanged, exchanged_ranked, heap_exchanged}
use Rattle.rtcp_members.proofs.shelf.drop_silent.Goals as goal
use Rattle.rtcp_members.proofs.shelf.drop_silent.Goals.{After-index-cells-place}

seen : (c : After-index-cells-place) →
    IsAtRank c.ranks.cells c.ranks.slots c.args.used c.ranks.at c.slot_at-place.result
    (slice_index_or c.ranks.cells c.slot_at-place.result.place c.index-cells-place.result)
seen c = at_rank c.ranks.cells c.ranks.slots c.args.used c.ranks.at c.slot_at-place.result c.index-cells-place.result
    c.ranks.invariant.heap (omega (arith, c.ranks-test.true)) c.slot_at-place.ensures

pub remove-requires : goal.remove-requires
remove-requires c =
    let so = c.ranks.invariant in
    let at = seen (goal.at.remove-requires c).After-index-cells-place in
    left_is_counted so.dropping (stands at) (read_ranked at _)

pub lapse-requires : goal.lapse-requires
lapse-requires c =
    let so = c.ranks.invariant in
    let at = seen (goal.at.lapse-requires c).After-index-cells-place in
    (left_is_counted so.dropping (stands at) (read_ranked at _)).senders

pub ranks-preserved-then-not-stays : goal.ranks-preserved-then-not-stays
ranks-preserved-then-not-stays c =
    let so = c.ranks.invariant in
    let at = seen (goal.at.ranks-preserved-then-not-stays c).After-index-cells-place in
    let next : Entry = c.retire.new.self in
    let step = one_dropped so.dropping (stands at) (read_ranked at _) next c.remove.new.self
    (sym c.stays.ensures ∙ c.if-not-stays.true) c.remove.ensures in
    record {
      heap = heap_written at next c.retire.ensures.ssrc;
      dropping = subst (λ xs. IsDropping (horizons_at c.args.silent c.args.idle c.args.gone)
          (in_order c.args.cells.now c.args.slots.now c.args.used) xs c.ranks.kept (c.ranks.at + 1) c.remove.new.self
          c.ranks.bounds)
          (sym (written_ranked at next c.retire.ensures.ssrc)) step;
      as_many = length-set c.ranks.cells _ _ ∙ so.as_many;
      as_many_slots = so.as_many_slots;
    }

pub ranks-preserved : goal.ranks-preserved
ranks-preserved c =
    let so = c.ranks.invariant in
    let slots : List Slot = c.ranks.slots in
    let early : c.ranks.at < c.args.used = omega (arith, c.ranks-test.true) in
    let low : c.ranks.kept < c.args.used = omega (arith, so.dropping.order, early) in
    let at = seen (goal.at.ranks-preserved c).After-index-cells-place in
    let next : Entry = c.lapse.new.entry in
    let same = ap (λ (e : Entry). e.ssrc) c.lapse.ensures.entry ∙ lapsed_ssrc c.args.idle _ in
    let heap = heap_written at next same in
    let written : List Entry = entries_in _ in
    let items = ap (λ xs. picked written (take c.args.used xs)) c.exchange.ensures
    ∙ exchanged_ranked written slots c.args.used c.ranks.kept c.ranks.at heap low early next
    ∙ ap (λ (xs : List Entry). set (set xs c.ranks.kept (slice_index_or xs c.ranks.at next)) c.ranks.at
    (slice_index_or xs c.ranks.kept next)) (written_ranked at next same) in
    record {
      heap = subst (λ xs. IsHeap written xs c.args.used) (sym c.exchange.ensures)
          (heap_exchanged written slots c.args.used c.ranks.kept c.ranks.at heap low early);
      dropping = one_kept so.dropping (stands at) (read_ranked at _) next
          (picked written (take c.args.used c.exchange.new.slots)) items c.lapse.new.self c.cover.new.self
          (sym c.stays.ensures ∙ c.if-not-stays.false) c.lapse.ensures.entry c.lapse.ensures.recounted
          c.cover.ensures.no_later c.cover.ensures.stands;
      as_many = length-set c.ranks.cells _ _ ∙ so.as_many;
      as_many_slots = ap (λ (xs : List Slot). length xs) c.exchange.ensures
          ∙ length_exchanged slots c.ranks.kept c.ranks.at ∙ so.as_many_slots;
    }

pub returns-clause-indexed : goal.returns-clause-indexed
returns-clause-indexed c =
    let so = c.ranks.invariant in
    let fewer : c.ranks.kept ≤ c.args.used = omega (arith, so.dropping.order, c.ranks.auto.at-end) in
    record {
      heap = heap_first c.ranks.cells c.ranks.slots c.args.used c.ranks.kept so.heap fewer;
      rising = rising_checked (horizons_at c.args.silent c.args.idle c.args.gone)
          (in_order c.args.cells.now c.args.slots.now c.args.used) (in_order c.ranks.cells c.ranks.slots c.ranks.kept)
          (sym (first_ranked c.ranks.cells c.ranks.slots c.args.used c.ranks.kept so.heap fewer)
          ∙ all_dropped so.dropping (omega (
            arith,
            c.ranks-test.false,
            length_ranked c.ranks.cells c.ranks.slots c.args.used so.heap,
          ))) c.requires.index.rising;
    }

pub returns-clause-items : goal.returns-clause-items
returns-clause-items c =
    let so = c.ranks.invariant in
    let fewer : c.ranks.kept ≤ c.args.used = omega (arith, so.dropping.order, c.ranks.auto.at-end) in
    sym (first_ranked c.ranks.cells c.ranks.slots c.args.used c.ranks.kept so.heap fewer)
    ∙ all_dropped so.dropping (omega (
      arith,
      c.ranks-test.false,
      length_ranked c.ranks.cells c.ranks.slots c.args.used so.heap,
    ))

pub returns-clause-measured : goal.returns-clause-measured
returns-clause-measured c =
    let so = c.ranks.invariant in
    let fewer : c.ranks.kept ≤ c.args.used = omega (arith, so.dropping.order, c.ranks.auto.at-end) in
    subst (IsMeasured c.ranks.counts c.ranks.bounds)
    (first_ranked c.ranks.cells c.ranks.slots c.args.used c.ranks.kept so.heap fewer)
    (all_measured so.dropping (omega
    (arith, c.ranks-test.false, length_ranked c.ranks.cells c.ranks.slots c.args.used so.heap)))
