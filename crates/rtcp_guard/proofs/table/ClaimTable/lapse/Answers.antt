-- The closure returns whether a claim stays; where no moment is too early, all do.
use Rattle.std.proofs.Common.{◌≡◌, rules, arith, length, nat_le, sym, ap, subst, ◌∙◌}
use Rattle.std.proofs.lemmas.Fn.{filter_same}
use Rattle.rtcp_guard.specs.declared.cells.Cell.{Cell}
use Rattle.rtcp_guard.specs.Claims.{Claim, after_lapse, goodbyes_for}
use Rattle.rtcp_guard.specs.Tables.{AreFewGoodbyes, AreRising, AreSince, AreTallies, TableValue, claims_in}
use Rattle.rtcp_guard.proofs.Ages.{all_stay}
use Rattle.rtcp_guard.proofs.Orders.{rising_filter}
use Rattle.rtcp_guard.proofs.Putting.{length_filter, total_filter}
use Rattle.rtcp_guard.proofs.Rows.{claims_filtered}
use Rattle.rtcp_guard.proofs.table.ClaimTable.lapse.Goals as goal

left : (c : goal.After-forget) → claims_in c.retain.new.self.items
    ≡ after_lapse c.args.before (claims_in c.self.inside.cells.items)
left c =
    ap claims_in (filter_same _ (λ (cell : Cell). nat_le c.args.before cell.last) _ (λ x b f called. search rules)
    c.self.inside.cells.items c.retain.new.self.items c.retain.ensures.filtered)
    ∙ claims_filtered (λ (claim : Claim). nat_le c.args.before claim.last) c.self.inside.cells.items

pub invariant_of-self : goal.invariant_of-self
invariant_of-self c =
    let cells = c.self.inside.cells.items in
    let less = length_filter (λ (claim : Claim). nat_le c.args.before claim.last) (claims_in cells) in
    let long = ap length (left c) in
    record {
      rising = subst AreRising (sym (left c))
          (rising_filter (λ (claim : Claim). nat_le c.args.before claim.last) (claims_in cells)
          c.self.invariant.rising);
      since = subst (λ cells. AreSince c.oldest-self-inside.result (claims_in cells)) c.deref.ensures.value
          c.oldest-self-inside.ensures;
      counted = subst (AreTallies (claims_in c.retain.new.self.items)) (sym c.forget.ensures) tt;
      within = omega (arith, less, long, c.self.invariant.within, c.retain.ensures.capacity);
      small = omega (arith, c.self.invariant.small, c.retain.ensures.capacity);
      leaving = subst AreFewGoodbyes (sym (left c)) (λ origin.
          let few = c.self.invariant.leaving origin in
          let no_more = total_filter (goodbyes_for origin)
          (λ (claim : Claim). nat_le c.args.before claim.last) (claims_in cells) in
          omega (arith, few, no_more));
    }

pub returns-then-before-self-clause-items : goal.returns-then-before-self-clause-items
returns-then-before-self-clause-items c = left c ∙ ap (λ (t : TableValue). after_lapse c.args.before t.items)
    c.self.view_is

pub returns-else-before-self-clause-items : goal.returns-else-before-self-clause-items
returns-else-before-self-clause-items c =
    let same = ap (λ (t : TableValue). t.items) c.self.view_is in
    sym same ∙ all_stay c.self.inside.oldest c.args.before (claims_in c.self.inside.cells.items)
    c.if-before-self.false c.self.invariant.since
    ∙ ap (after_lapse c.args.before) same
