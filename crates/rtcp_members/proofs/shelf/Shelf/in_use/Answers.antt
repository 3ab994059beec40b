-- The slots in use are those of the shelf's entries, in their order.
use Rattle.std.proofs.Common.{List, length, take, arith, sym, ap, subst}
use Rattle.std.proofs.lemmas.List.{length-take-le}
use Rattle.rtcp_members.specs.declared.cells.Cell.{Cell}
use Rattle.rtcp_members.specs.declared.cells.Slot.{Slot}
use Rattle.rtcp_members.specs.declared.entry.Entry.{Entry}
use Rattle.rtcp_members.specs.storage.Index.{AreRising, Finds}
use Rattle.rtcp_members.specs.storage.Shelves.{ShelfValue}
use Rattle.rtcp_members.specs.storage.SortedViews.{Locates}
use Rattle.rtcp_members.proofs.storage.Found.{rising_row, located}
use Rattle.rtcp_members.proofs.storage.Ranked.{length_ranked}
use Rattle.rtcp_members.proofs.shelf.Shelf.in_use.Goals as goal

pub returns-clause-as_many : goal.returns-clause-as_many
returns-clause-as_many g c =
    let cells : List Cell = g.C.Blocks.items c.self.inside.cells in
    let slots : List Slot = g.S.Blocks.items c.self.inside.slots in
    omega (
      arith,
      length-take-le c.self.inside.used c.as_slice.result.now (omega (
        arith,
        c.self.invariant.kept.index.heap.in_use,
        ap (λ (xs : List Slot). length xs) c.as_slice.ensures.items,
      )),
      length_ranked cells slots c.self.inside.used c.self.invariant.kept.index.heap,
      ap (λ (v : ShelfValue). length v.items) c.self.view_is,
    )

pub returns-clause-rising : goal.returns-clause-rising
returns-clause-rising g c =
    subst (λ (slots : List Slot). AreRising (take c.self.inside.used slots)) (sym c.as_slice.ensures.items)
    (rising_row (g.C.Blocks.items c.self.inside.cells) (g.S.Blocks.items c.self.inside.slots) c.self.inside.used
    c.self.invariant.kept.index)

pub returns-clause-found : goal.returns-clause-found
returns-clause-found g c = λ ssrc found finds.
    subst (λ (entries : List Entry). Locates ssrc entries found) (ap (λ (v : ShelfValue). v.items) c.self.view_is)
    (located (g.C.Blocks.items c.self.inside.cells) (g.S.Blocks.items c.self.inside.slots) c.self.inside.used
    c.self.invariant.kept.index ssrc found
    (subst (λ (slots : List Slot). Finds ssrc (take c.self.inside.used slots) found) c.as_slice.ensures.items finds))
