-- The new claims come among the others together.
use Rattle.std.proofs.Common.{◌≡◌, ◌++◌, arith, length, min, take, drop, sym, ap, subst, ◌∙◌}
use Rattle.rtcp_guard.specs.Claims.{with_names}
use Rattle.rtcp_guard.specs.Tables.{AreFewGoodbyes, AreRising, AreSince, AreTallies, AreUnclaimed, TableValue, claims_in}
use Rattle.rtcp_guard.proofs.Ages.{since_earlier}
use Rattle.rtcp_guard.proofs.Claiming.{goodbyes_names, rising_names}
use Rattle.rtcp_guard.proofs.Newcomers.{since_names}
use Rattle.rtcp_guard.proofs.Rows.{as_many, over_whole}
use Rattle.rtcp_guard.proofs.table.ClaimTable.insert_all.Goals as goal
use Rattle.rtcp_guard.proofs.table.ClaimTable.insert_all.Goals.{After-deref_mut, After-forget}

first_cells : (c : After-deref_mut) → take c.len-count.result c.deref_mut.result.now ≡ c.self.inside.cells.items
first_cells c = (λ i. take (c.len-count.ensures i) (c.deref_mut.ensures.value i)) ∙ c.lengthen.ensures.first

pub merge-requires : goal.merge-requires
merge-requires c =
    let cells = c.self.inside.cells in
    let same = ap claims_in (first_cells c) in
    record {
      room = omega (arith, c.deref_mut.ensures.len, c.lengthen.ensures.len, c.len-count.ensures);
      rising = subst AreRising (sym same) c.self.invariant.rising;
      names = c.requires.names;
      new = subst (AreUnclaimed c.args.fresh.now) (sym same)
          (subst (λ (t : TableValue). AreUnclaimed c.args.fresh.now t.items) (sym c.self.view_is) c.requires.new);
    }

its_length : (c : After-forget) → c.lengthen.new.cells.len ≡ length c.merge.new.cells
its_length c = omega (arith, c.merge.auto.cells, c.deref_mut.ensures.len)

then_claims : (c : After-forget) → claims_in (take c.lengthen.new.cells.len (c.merge.new.cells
    ++ drop (length c.merge.new.cells) c.lengthen.new.cells.items))
    ≡ with_names c.args.origin c.args.t c.args.fresh.now (claims_in c.self.inside.cells.items)
then_claims c =
    ap claims_in (over_whole c.lengthen.new.cells.len c.merge.new.cells c.lengthen.new.cells.items (its_length c))
    ∙ c.merge.ensures
    ∙ ap (λ cells. with_names c.args.origin c.args.t c.args.fresh.now (claims_in cells))
    ((λ i. take (c.len-count.ensures i) (c.deref_mut.ensures.value i)) ∙ c.lengthen.ensures.first)

pub invariant_of-self : goal.invariant_of-self
invariant_of-self c =
    let old = c.self.inside.cells in
    let claims = claims_in old.items in
    let cells = take c.lengthen.new.cells.len (c.merge.new.cells
    ++ drop (length c.merge.new.cells) c.lengthen.new.cells.items) in
    let whole = ap length (over_whole c.lengthen.new.cells.len c.merge.new.cells c.lengthen.new.cells.items
    (its_length c)) in
    let long = ap (λ (t : TableValue). length t.items) c.self.view_is in
    let wide = ap (λ (t : TableValue). t.room) c.self.view_is in
    record {
      rising = subst AreRising (sym (then_claims c)) (rising_names c.args.origin c.args.t c.args.fresh.now claims
          c.self.invariant.rising);
      since = subst (λ m. AreSince m (claims_in cells)) (sym c.min-self-inside.ensures)
          (subst (AreSince (min c.self.inside.oldest c.args.t)) (sym (then_claims c))
          (since_names c.args.origin c.args.t (min c.self.inside.oldest c.args.t) c.args.fresh.now claims (omega arith)
          (since_earlier c.self.inside.oldest (min c.self.inside.oldest c.args.t) claims (omega arith)
          c.self.invariant.since)));
      counted = subst (AreTallies (claims_in cells)) (sym c.forget.ensures) tt;
      within = omega (
        arith,
        as_many cells,
        as_many old.items,
        whole,
        its_length c,
        c.lengthen.ensures.len,
        c.lengthen.ensures.capacity,
        old.ok.0,
        long,
        wide,
        c.requires.room,
      );
      small = omega (arith, c.self.invariant.small, c.lengthen.ensures.capacity);
      leaving = subst AreFewGoodbyes (sym (then_claims c)) (λ origin.
          let few = c.self.invariant.leaving origin in
          let no_more = goodbyes_names c.args.origin c.args.t origin c.args.fresh.now claims
          c.self.invariant.rising in
          omega (arith, few, no_more));
    }

pub returns-clause-items : goal.returns-clause-items
returns-clause-items c = then_claims c
    ∙ ap (λ (t : TableValue). with_names c.args.origin c.args.t c.args.fresh.now t.items) c.self.view_is
