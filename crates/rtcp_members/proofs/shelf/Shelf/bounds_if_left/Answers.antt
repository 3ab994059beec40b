-- Each stride is covered; those in use are among the entries of all.
use Rattle.std.proofs.Common.{◌<◌, List, arith, length, take, ap, subst}
use Rattle.std.proofs.lemmas.List.Elements.{All-take}
use Rattle.rtcp_members.specs.declared.cells.Cell.{Cell}
use Rattle.rtcp_members.specs.declared.cells.Slot.{Slot}
use Rattle.rtcp_members.specs.storage.Standing.{AllStandBy}
use Rattle.rtcp_members.specs.storage.Heaps.{entries_in}
use Rattle.rtcp_members.specs.storage.Shelves.{ShelfValue}
use Rattle.rtcp_members.proofs.lists.BoundLemmas.{all_lower, all_picked, all_parts, none_later, no_later_still, none_stand}
use Rattle.rtcp_members.proofs.shelf.Shelf.bounds_if_left.Goals as goal

pub strides-init : goal.strides-init
strides-init g c = record {
  stand = λ lower later all. all;
  within = (
    omega (arith, c.none-bounds.ensures.silent, c.ranges.silent.fits),
    omega (arith, c.none-bounds.ensures.idle, c.ranges.idle.fits),
    omega (arith, c.none-bounds.ensures.gone, c.ranges.gone.fits),
  );
}

pub strides-preserved : goal.strides-preserved
strides-preserved g c =
    let rest : List Cell = c.strides.rest.now in
    let bounds = c.cover_all.new.bounds in
    let front : AllStandBy bounds (entries_in (take c.min.result rest)) =
    subst (λ (cells : List Cell). AllStandBy bounds (entries_in cells)) c.split_at.ensures.front
    c.cover_all.ensures.stand in
    record {
      stand = λ lower later all. c.strides.invariant.stand lower
          (no_later_still lower bounds c.strides.bounds later c.cover_all.ensures.no_later) (all_parts lower rest
          c.min.result (all_lower lower bounds later (entries_in (take c.min.result rest)) front)
          (subst (λ (cells : List Cell). AllStandBy lower (entries_in cells)) c.split_at.ensures.back all));
      within = c.reach.ensures c.if-not-reach.false;
    }

pub returns : goal.returns
returns g c =
    let cells : List Cell = g.C.Blocks.items c.self.inside.cells in
    let slots : List Slot = g.S.Blocks.items c.self.inside.slots in
    let bounds = c.strides.bounds in
    let nothing_left = none_stand bounds c.strides.rest.now c.strides-test.ensures in
    let all : AllStandBy bounds (entries_in cells) =
    subst (λ (lent : List Cell). AllStandBy bounds (entries_in lent)) c.as_slice-rest.ensures.items
    (c.strides.invariant.stand bounds (none_later bounds) nothing_left) in
    record {
      stand = subst (AllStandBy bounds) (ap (λ (v : ShelfValue). v.items) c.self.view_is)
          (all_picked bounds (entries_in cells) (take c.self.inside.used slots)
          (All-take (λ (slot : Slot). slot.place < length (entries_in cells)) c.self.inside.used slots
          c.self.invariant.kept.index.heap.places.within) all);
      within = c.strides.invariant.within;
    }
