-- The claim comes to its gap.
use Rattle.std.proofs.Common.{◌≡◌, ◌<◌, ◌≤◌, ◌+◌, [], ◌∷◌, arith, length, min, cond, take, drop, ◌++◌, sym, ap, subst, ◌∙◌}
use Rattle.std.specs.List.{insert}
use Rattle.std.proofs.lemmas.List.Edits.{insert_end}
use Rattle.rtcp_guard.specs.Claims.{claim_after, claim_by, found, put, with_name}
use Rattle.rtcp_guard.specs.Tables.{AreFewGoodbyes, AreRising, AreSince, AreTallies, IsGap, TableValue, claims_in}
use Rattle.rtcp_guard.proofs.Ages.{since_named}
use Rattle.rtcp_guard.proofs.Claiming.{goodbyes_name, rising_name}
use Rattle.rtcp_guard.proofs.Orders.{gap_found, gap_within}
use Rattle.rtcp_guard.proofs.Rows.{as_many, over_whole, put_in_gap}
use Rattle.rtcp_guard.proofs.table.ClaimTable.insert.Goals as goal
use Rattle.rtcp_guard.proofs.table.ClaimTable.insert.Goals.{After-forget}

its_gap : (c : After-forget) → IsGap c.args.ssrc (claims_in c.self.inside.cells.items) c.args.gap
its_gap c = subst (λ (t : TableValue). IsGap c.args.ssrc t.items c.args.gap) (sym c.self.view_is) c.requires.gap

has_room : (c : After-forget) → c.self.inside.cells.len < c.self.inside.cells.cap
has_room c =
    let room = c.requires.room in
    let long = ap (λ (t : TableValue). length t.items) c.self.view_is in
    let wide = ap (λ (t : TableValue). t.room) c.self.view_is in
    omega (arith, room, long, wide, as_many c.self.inside.cells.items, c.self.inside.cells.ok.0)

its_end : (c : After-forget) → c.len-end.result ≡ length c.self.inside.cells.items
its_end c = omega (arith, c.len-end.ensures, c.self.inside.cells.ok.0)

its_items : (c : After-forget) → c.insert-inserted.new.self.items ≡ c.self.inside.cells.items ++ c.of.result ∷ []
its_items c = c.insert-inserted.ensures.items
    ∙ ap (λ b. cond b (insert c.self.inside.cells.items c.len-end.result c.of.result) c.self.inside.cells.items)
    (c.insert-inserted.ensures.succeeds (has_room c))
    ∙ ap (λ n. insert c.self.inside.cells.items n c.of.result) (its_end c)
    ∙ insert_end c.self.inside.cells.items c.of.result

gap_inside : (c : After-forget) → c.args.gap ≤ length c.self.inside.cells.items
gap_inside c = let within = gap_within c.args.ssrc (claims_in c.self.inside.cells.items) c.args.gap (its_gap c) in
    omega (arith, within, as_many c.self.inside.cells.items)

pub settle_last-requires : goal.settle_last-requires
settle_last-requires c =
    let cells = c.self.inside.cells in
    let gap = subst (λ (t : TableValue). IsGap c.args.ssrc t.items c.args.gap) (sym c.self.view_is) c.requires.gap in
    let within = gap_within c.args.ssrc (claims_in cells.items) c.args.gap gap in
    let long = ap (λ (t : TableValue). length t.items) c.self.view_is in
    let wide = ap (λ (t : TableValue). t.room) c.self.view_is in
    let has_room : cells.len < cells.cap = omega
    (arith, c.requires.room, long, wide, as_many cells.items, cells.ok.0) in
    let more : c.insert-inserted.new.self.len ≡ cells.len + 1 = c.insert-inserted.ensures.len
    ∙ ap (λ b. cond b (cells.len + 1) cells.len) (c.insert-inserted.ensures.succeeds has_room) in
    omega (arith, within, as_many cells.items, cells.ok.0, more, c.deref_mut.ensures.len)

its_length : (c : After-forget) → c.insert-inserted.new.self.len ≡ length c.settle_last.new.cells
its_length c = omega (arith, c.insert-inserted.new.self.ok.0, c.settle_last.auto.cells, c.deref_mut.ensures.len)

then_claims : (c : After-forget) → claims_in (take c.insert-inserted.new.self.len (c.settle_last.new.cells
    ++ drop (length c.settle_last.new.cells) c.insert-inserted.new.self.items))
    ≡ with_name c.args.origin c.args.t c.args.ssrc (claims_in c.self.inside.cells.items)
then_claims c =
    ap claims_in (over_whole c.insert-inserted.new.self.len c.settle_last.new.cells c.insert-inserted.new.self.items
    (its_length c))
    ∙ c.settle_last.ensures c.self.inside.cells.items c.of.result (gap_inside c)
    (c.deref_mut.ensures.value ∙ its_items c)
    ∙ put_in_gap c.self.inside.cells.items c.args.gap c.of.result
    (claim_by c.args.origin c.args.t c.args.ssrc) (its_gap c) c.of.ensures
    ∙ ap (λ o. put (claim_after c.args.origin c.args.t c.args.ssrc o) (claims_in c.self.inside.cells.items))
    (sym (gap_found c.args.ssrc (claims_in c.self.inside.cells.items) c.args.gap c.self.invariant.rising (its_gap c)))

pub invariant_of-self : goal.invariant_of-self
invariant_of-self c =
    let cells = take c.insert-inserted.new.self.len (c.settle_last.new.cells
    ++ drop (length c.settle_last.new.cells) c.insert-inserted.new.self.items) in
    let long = ap length (over_whole c.insert-inserted.new.self.len c.settle_last.new.cells
    c.insert-inserted.new.self.items
    (its_length c)) in
    let more : c.insert-inserted.new.self.len ≡ c.self.inside.cells.len + 1 = c.insert-inserted.ensures.len
    ∙ ap (λ b. cond b (c.self.inside.cells.len + 1) c.self.inside.cells.len)
    (c.insert-inserted.ensures.succeeds (has_room c)) in
    let room = has_room c in
    record {
      rising = subst AreRising (sym (then_claims c)) (rising_name c.args.origin c.args.t c.args.ssrc
          (claims_in c.self.inside.cells.items) c.self.invariant.rising);
      since = subst (λ m. AreSince m (claims_in cells)) (sym c.min-self-inside.ensures)
          (subst (AreSince (min c.self.inside.oldest c.args.t)) (sym (then_claims c))
          (since_named c.self.inside.oldest (claim_after c.args.origin c.args.t c.args.ssrc
          (found c.args.ssrc (claims_in c.self.inside.cells.items)))
          (claims_in c.self.inside.cells.items) c.self.invariant.since));
      counted = subst (AreTallies (claims_in cells)) (sym c.forget.ensures) tt;
      within = omega (arith, as_many cells, long, its_length c, more, room, c.insert-inserted.ensures.capacity);
      small = let same = (c.insert-inserted.ensures.in_place room).1.0 in omega (arith, c.self.invariant.small, same);
      leaving = subst AreFewGoodbyes (sym (then_claims c)) (λ origin.
          let few = c.self.invariant.leaving origin in
          let no_more = goodbyes_name c.args.origin c.args.t origin c.args.ssrc
          (claims_in c.self.inside.cells.items) c.self.invariant.rising in
          omega (arith, few, no_more));
    }

pub returns-clause-items : goal.returns-clause-items
returns-clause-items c = then_claims c
    ∙ ap (λ (t : TableValue). with_name c.args.origin c.args.t c.args.ssrc t.items) c.self.view_is
