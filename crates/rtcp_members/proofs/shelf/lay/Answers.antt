-- The place is that of a new cell, or that of the first slot that is free.
use Rattle.std.proofs.Common.{arith, ◌≡◌, ◌<◌, ◌+◌, ◌++◌, ◌∷◌, [], suc, ℕ, List, length, take, drop, set, slice_index_or, refl, sym, ap, subst, ◌∙◌}
use Rattle.std.specs.List.{remove}
use Rattle.std.proofs.lemmas.List.{length-map, length-set, length-take-le, map-append, take-append-drop, drop_more}
use Rattle.rtcp_members.specs.declared.cells.Cell.{Cell}
use Rattle.rtcp_members.specs.declared.cells.Slot.{Slot}
use Rattle.rtcp_members.specs.declared.entry.Entry.{Entry}
use Rattle.rtcp_members.specs.storage.Heaps.{no_slot, entries_in, IsPut}
use Rattle.rtcp_members.proofs.storage.Heaps.{put_behind, put_free}
use Rattle.rtcp_members.proofs.storage.Rows.{entry_written, remove_pushed}
use Rattle.rtcp_members.proofs.shelf.lay.Goals as goal

pub returns-then-used-count-clause-put : goal.returns-then-used-count-clause-put
returns-then-used-count-clause-put g c =
    let cells : List Cell = g.C.Blocks.items c.args.cells.now in
    let slots : List Slot = g.S.Blocks.items c.args.slots.now in
    let next : List Cell = g.C.Blocks.items c.push.new.self in
    let entries : List Entry = entries_in cells in
    let is : entries_in next ≡ entries ++ c.args.entry ∷ [] =
    ap entries_in c.push.ensures.items ∙ map-append (λ (x : Cell). x.entry) cells (c.of.result ∷ [])
    ∙ ap (λ e. entries ++ e ∷ []) c.of.ensures in
    let count : length c.as_slice-count.result.now ≡ length cells = ap (λ
    (xs : List Cell). length xs) c.as_slice-count.ensures.items in
    let at_end : length c.as_slice-count.result.now ≡ length entries = omega
    (arith, count, length-map cells (λ (x : Cell). x.entry)) in
    let all : c.args.used ≡ length slots = omega (arith, c.if-used-count.true, at_end, c.requires.sound.all) in
    let spared : remove (g.S.Blocks.items c.push-then-used-count.new.self) c.args.used ≡ slots =
    ap (λ xs. remove xs c.args.used) c.push-then-used-count.ensures.items ∙ remove_pushed slots c.args.used _ all in
    subst (λ xs. IsPut entries (entries_in next) slots xs c.args.used (length c.as_slice-count.result.now) c.args.entry)
    (sym spared)
    (put_behind entries slots c.args.used c.args.entry (entries_in next) (length c.as_slice-count.result.now)
    c.requires.sound is at_end)

pub returns-clause-put : goal.returns-clause-put
returns-clause-put g c =
    let cells : List Cell = g.C.Blocks.items c.args.cells.now in
    let slots : List Slot = g.S.Blocks.items c.args.slots.now in
    let used : ℕ = c.args.used in
    let free : Slot = c.slot_at-place.result in
    let lent : List Cell = c.as_mut_slice.result.now in
    let entries : List Entry = entries_in cells in
    let count : length c.as_slice-count.result.now ≡ length cells = ap (λ
    (xs : List Cell). length xs) c.as_slice-count.ensures.items in
    let fewer : used < length slots = omega (
      arith,
      c.requires.sound.in_use,
      c.requires.sound.all,
      c.if-used-count.false,
      count,
      length-map cells (λ (x : Cell). x.entry),
    ) in
    let next : used + 1 ≡ suc used = omega arith in
    let its : slice_index_or slots used no_slot ≡ free =
    sym (c.slot_at-place.ensures ∙ ap (λ xs. slice_index_or xs used no_slot) c.as_slice.ensures.items) in
    let is : slots ≡ take used slots ++ free ∷ drop (suc used) slots =
    sym (take-append-drop used slots) ∙ ap (λ xs. take used slots ++ xs) (drop_more slots used no_slot fewer)
    ∙ (λ i. take used slots ++ its i ∷ drop (next i) slots) in
    let written : (cell : Cell) → cell.entry ≡ c.args.entry →
    entries_in (g.C.Blocks.items (g.C.Blocks.with_items c.args.cells.now (set lent free.place cell)))
    ≡ set entries free.place c.args.entry =
    λ cell same. ap entries_in (g.met.C.Blocks.written c.args.cells.now (set lent free.place cell)
    (length-set lent free.place cell ∙ ap (λ (xs : List Cell). length xs) c.as_mut_slice.ensures.items))
    ∙ entry_written lent free.place cell
    ∙ (λ i. set (entries_in (c.as_mut_slice.ensures.items i)) free.place (same i)) in
    subst (λ es. IsPut entries es slots (remove slots used) used free.place c.args.entry) (sym (written _ refl))
    (put_free entries slots (take used slots) (drop (suc used) slots) used free c.args.entry c.requires.sound is
    (omega (arith, length-take-le used slots c.requires.sound.in_use)))
