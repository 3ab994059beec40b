-- A cell more comes after all others.
use Rattle.std.proofs.Common.{◌≡◌, ◌<◌, ◌+◌, ◌++◌, ◌∷◌, [], length, cond, take, arith, ap, ◌∙◌}
use Rattle.std.specs.List.{insert}
use Rattle.std.proofs.lemmas.List.{take-append-le}
use Rattle.std.proofs.lemmas.List.Edits.{insert_end}
use Rattle.rtcp_guard.proofs.merging.lengthen.Goals as goal

pub names-preserved : goal.names-preserved
names-preserved c =
    let cells = c.names.cells in
    let inv = c.names.invariant in
    let cell = c.of.result in
    let has_room : cells.len < cells.cap = omega (arith, c.requires, inv.len, inv.capacity, c.names-test.true) in
    let done = c.insert-added.ensures.succeeds has_room in
    let end : c.len-end.result ≡ length cells.items = omega (arith, c.len-end.ensures, cells.ok.0) in
    let items : c.insert-added.new.self.items ≡ cells.items ++ cell ∷ [] = c.insert-added.ensures.items
    ∙ ap (λ b. cond b (insert cells.items c.len-end.result cell) cells.items) done
    ∙ ap (λ n. insert cells.items n cell) end ∙ insert_end cells.items cell in
    let more : c.insert-added.new.self.len ≡ cells.len + 1 = c.insert-added.ensures.len
    ∙ ap (λ b. cond b (cells.len + 1) cells.len) done in
    let same = (c.insert-added.ensures.in_place has_room).1.0 in
    record {
      first = ap (take c.args.cells.now.len) items
          ∙ take-append-le c.args.cells.now.len cells.items (cell ∷ []) (omega (arith, inv.len, cells.ok.0))
          ∙ inv.first;
      len = omega (arith, more, inv.len);
      capacity = omega (arith, same, inv.capacity);
    }
