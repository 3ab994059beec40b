-- Those that stay are in use, and counted.
use Rattle.std.proofs.Common.{List, arith, length, sym, ap, subst, ◌∙◌, ◌≡◌}
use Rattle.rtcp_members.specs.declared.cells.Cell.{Cell}
use Rattle.rtcp_members.specs.declared.cells.Slot.{Slot}
use Rattle.rtcp_members.specs.storage.Heaps.{in_order}
use Rattle.rtcp_members.specs.storage.Shelves.{IsCounted}
use Rattle.rtcp_members.specs.storage.Standing.{AllStandBy}
use Rattle.rtcp_members.proofs.shelf.Shelf.drop_silent.Given.{Over}
use Rattle.rtcp_members.proofs.shelf.Shelf.drop_silent.Goals as goal
use Rattle.rtcp_members.proofs.shelf.Shelf.drop_silent.Goals.{After-drop_silent-kept}

-- what the blocks have then
cells_then : (g : Over) (c : After-drop_silent-kept g) →
    g.C.Blocks.items (g.C.Blocks.with_items c.self.inside.cells c.drop_silent-kept.new.cells)
    ≡ c.drop_silent-kept.new.cells
cells_then g c = g.met.C.Blocks.written c.self.inside.cells c.drop_silent-kept.new.cells
    (c.drop_silent-kept.ensures.as_many ∙ ap (λ (xs : List Cell). length xs) c.as_mut_slice-cells.ensures.items)

slots_then : (g : Over) (c : After-drop_silent-kept g) →
    g.S.Blocks.items (g.S.Blocks.with_items c.self.inside.slots c.drop_silent-kept.new.slots)
    ≡ c.drop_silent-kept.new.slots
slots_then g c = g.met.S.Blocks.written c.self.inside.slots c.drop_silent-kept.new.slots
    (c.drop_silent-kept.ensures.as_many_slots ∙ ap (λ (xs : List Slot). length xs) c.as_mut_slice-slots.ensures.items)

pub invariant_of-self : goal.invariant_of-self
invariant_of-self g c =
    let so = (goal.at.invariant_of-self g c).After-drop_silent-kept in
    let cells : List Cell = c.drop_silent-kept.new.cells in
    let slots : List Slot = g.S.Blocks.items (g.S.Blocks.with_items c.self.inside.slots c.drop_silent-kept.new.slots) in
    record {
      kept = subst (λ xs. IsCounted xs slots c.drop_silent-kept.result.0 c.drop_silent-kept.result.1)
          (sym (cells_then g so))
          (subst (λ xs. IsCounted cells xs c.drop_silent-kept.result.0 c.drop_silent-kept.result.1)
          (sym (slots_then g so))
          (record {
            index = c.drop_silent-kept.ensures.indexed;
            counted = c.drop_silent-kept.ensures.measured.counted;
          }));
      few = omega (arith, c.self.invariant.few, g.met.C.Blocks.kept c.self.inside.cells c.drop_silent-kept.new.cells);
      indexed = omega (
        arith,
        c.self.invariant.indexed,
        g.met.C.Blocks.kept c.self.inside.cells c.drop_silent-kept.new.cells,
        g.met.S.Blocks.kept c.self.inside.slots c.drop_silent-kept.new.slots,
      );
    }

pub returns-clause-stand : goal.returns-clause-stand
returns-clause-stand g c =
    let so = (goal.at.returns-clause-stand g c).After-drop_silent-kept in
    subst (AllStandBy c.drop_silent-kept.result.2)
    (λ i. in_order (sym (cells_then g so) i) (sym (slots_then g so) i) c.drop_silent-kept.result.0)
    c.drop_silent-kept.ensures.measured.stand
