-- Each cell's entry is covered.
use Rattle.std.proofs.Common.{◌≡◌, ◌<◌, List, arith, length, slice_index_or, ap, subst, ◌∙◌, sym}
use Rattle.std.proofs.lemmas.List.{length-map, get_or_read, get_or-map}
use Rattle.rtcp_members.specs.declared.cells.Cell.{Cell}
use Rattle.rtcp_members.specs.declared.entry.Entry.{Entry}
use Rattle.rtcp_members.specs.ListViews.{entry_value}
use Rattle.rtcp_members.specs.storage.Standing.{StandsBy}
use Rattle.rtcp_members.specs.storage.Heaps.{entries_in, no_cell, no_entry}
use Rattle.rtcp_members.proofs.lists.BoundLemmas.{all_covered, no_later_still}
use Rattle.rtcp_members.proofs.shelf.cover_all.Goals as goal

pub cells-preserved : goal.cells-preserved
cells-preserved c =
    let cells : List Cell = c.args.cells.now in
    let cell : Cell = c.cell-item.result in
    let bounds = c.cover.new.self in
    let at = c.cells.cell-index in
    let early : at < length cells = c.cells-test.true in
    let its : cell.entry ≡ slice_index_or (entries_in cells) at no_entry = ap (λ (x : Cell). x.entry)
    (get_or_read cells at cell early c.cell-item.is no_cell) ∙ sym (get_or-map (λ
    (x : Cell). x.entry) cells at no_cell no_entry early) in
    record {
      no_later = no_later_still bounds c.cells.bounds c.args.bounds.now c.cover.ensures.no_later
          c.cells.invariant.no_later;
      stand = all_covered bounds c.cells.bounds c.cover.ensures.no_later (entries_in cells) at no_entry
          (omega (arith, early, length-map cells (λ (x : Cell). x.entry))) c.cells.invariant.stand
          (subst (λ (e : Entry). StandsBy bounds (entry_value e)) its c.cover.ensures.stands);
    }
