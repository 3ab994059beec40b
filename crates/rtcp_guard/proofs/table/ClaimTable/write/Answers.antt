-- The claim of the rank is written.
use Rattle.std.proofs.Common.{◌≡◌, ◌==◌, ℕ, List, Some, true, false, cond, arith, min, set, sym, ap, subst, ◌∙◌}
use Rattle.std.proofs.lemmas.Bool.Decides.{nat_tests}
use Rattle.std.proofs.lemmas.List.{length-set}
use Rattle.rtcp_guard.specs.declared.cells.Cell.{Cell}
use Rattle.rtcp_guard.specs.Claims.{Claim, claim_after, found, goodbyes_before, goodbyes_of, held, with_name}
use Rattle.rtcp_guard.specs.Tables.{AreFewGoodbyes, AreRising, AreSince, AreTallies, IsRankOf, TableValue, claim_in, claims_in}
use Rattle.rtcp_guard.proofs.Ages.{since_named}
use Rattle.rtcp_guard.proofs.Claiming.{goodbyes_name, rising_name}
use Rattle.rtcp_guard.proofs.Orders.{rank_found}
use Rattle.rtcp_guard.proofs.Rows.{as_many, claim_at, its_ssrc, written}
use Rattle.rtcp_guard.proofs.Tallying.{goodbyes_renewed, tallies_still, held_renewed, unmoved}
use Rattle.rtcp_guard.proofs.table.ClaimTable.write.Goals as goal
use Rattle.rtcp_guard.proofs.table.ClaimTable.write.Goals.{After-forget_if}

its_rank : (c : After-forget_if) → IsRankOf c.args.ssrc (claims_in c.self.inside.cells.items) c.args.at
its_rank c = subst (λ (t : TableValue). IsRankOf c.args.ssrc t.items c.args.at) (sym c.self.view_is) c.requires

-- the claim that was there
its_claim : (c : After-forget_if) →
    found c.args.ssrc (claims_in c.self.inside.cells.items) ≡ Some (claim_in c.index_mut.result.now)
its_claim c =
    let cells = c.self.inside.cells.items in
    let cell = c.index_mut.result.now in
    let rank = its_rank c in
    let within = rank.within in
    rank_found c.args.ssrc (claims_in cells) c.args.at (claim_in cell) c.self.invariant.rising within
    (rank.its_ssrc (claim_in cell))
    ∙ ap (λ (claim : Claim). Some claim)
    (claim_at cells c.args.at cell (claim_in cell) (omega (arith, within, as_many cells))
    ∙ ap claim_in (sym c.index_mut.ensures.value))

same_ssrc : (c : After-forget_if) → c.index_mut.result.now.ssrc ≡ c.args.ssrc
same_ssrc c =
    let cells = c.self.inside.cells.items in
    let rank = its_rank c in
    let within = rank.within in
    ap (λ (cell : Cell). cell.ssrc) c.index_mut.ensures.value
    ∙ sym (its_ssrc cells c.args.at c.index_mut.result.now (claim_in c.index_mut.result.now)
    (omega (arith, within, as_many cells)))
    ∙ rank.its_ssrc (claim_in c.index_mut.result.now)

abbrev cells_then : (c : After-forget_if) → List Cell
cells_then c = set c.self.inside.cells.items c.args.at c.renew-is_moved.new.self

then_claims : (c : After-forget_if) → claims_in (cells_then c)
    ≡ with_name c.args.origin c.args.t c.args.ssrc (claims_in c.self.inside.cells.items)
then_claims c =
    let cells = c.self.inside.cells.items in
    written cells c.args.at c.renew-is_moved.new.self
    (claim_after c.args.origin c.args.t c.args.ssrc (found c.args.ssrc (claims_in cells))) c.self.invariant.rising
    (its_rank c)
    (c.renew-is_moved.ensures.claim
    ∙ (λ i. claim_after c.args.origin c.args.t (same_ssrc c i) (sym (its_claim c) i)))

-- Where the source stays with its origin, each origin has as many sources and goodbyes.
stays_its : (c : After-forget_if) → c.renew-is_moved.result ≡ false →
    c.index_mut.result.now.origin ≡ c.args.origin
stays_its c stays = unmoved c.index_mut.result.now.origin c.args.origin (sym c.renew-is_moved.ensures.moved ∙ stays)

as_many_each : (c : After-forget_if) → c.renew-is_moved.result ≡ false → (origin : ℕ) →
    held origin (with_name c.args.origin c.args.t c.args.ssrc (claims_in c.self.inside.cells.items))
    ≡ held origin (claims_in c.self.inside.cells.items)
as_many_each c stays =
    let claims = claims_in c.self.inside.cells.items in
    held_renewed (claim_after c.args.origin c.args.t c.args.ssrc (found c.args.ssrc claims))
    (claim_in c.index_mut.result.now) claims c.self.invariant.rising (its_claim c) (stays_its c stays)

as_many_goodbyes : (c : After-forget_if) → c.renew-is_moved.result ≡ false → (origin : ℕ) →
    goodbyes_of origin (with_name c.args.origin c.args.t c.args.ssrc (claims_in c.self.inside.cells.items))
    ≡ goodbyes_of origin (claims_in c.self.inside.cells.items)
as_many_goodbyes c stays =
    let claims = claims_in c.self.inside.cells.items in
    goodbyes_renewed (claim_after c.args.origin c.args.t c.args.ssrc (found c.args.ssrc claims))
    (claim_in c.index_mut.result.now) claims c.self.invariant.rising (its_claim c) (stays_its c stays)
    (sym (ap (goodbyes_before c.args.origin) (its_claim c)
    ∙ kept_by c.index_mut.result.now.origin c.args.origin c.index_mut.result.now.goodbyes (stays_its c stays)))
  where
    kept_by : (owner origin n : ℕ) → owner ≡ origin → cond (owner == origin) n 0 ≡ n
    kept_by owner origin n same =
        let is : owner == origin ≡ true = grind (arith, nat_tests, same) in ap (λ b. cond b n 0) is

pub invariant_of-self : goal.invariant_of-self
invariant_of-self c =
    let cells = c.self.inside.cells.items in
    let claims = claims_in cells in
    record {
      rising = subst AreRising (sym (then_claims c)) (rising_name c.args.origin c.args.t c.args.ssrc claims
          c.self.invariant.rising);
      since = subst (λ m. AreSince m (claims_in (cells_then c))) (sym c.min-self-inside.ensures)
          (subst (AreSince (min c.self.inside.oldest c.args.t)) (sym (then_claims c))
          (since_named c.self.inside.oldest (claim_after c.args.origin c.args.t c.args.ssrc (found c.args.ssrc claims))
          claims c.self.invariant.since));
      counted = c.forget_if.ensures (claims_in (cells_then c))
          (λ stays. subst (λ claims. AreTallies claims c.self.inside.tallies.kept.items) (sym (then_claims c))
          (tallies_still claims (with_name c.args.origin c.args.t c.args.ssrc claims)
          c.self.inside.tallies.kept.items (as_many_each c stays) (as_many_goodbyes c stays)
          c.self.invariant.counted));
      within = omega (
        arith,
        c.self.invariant.within,
        as_many cells,
        as_many (cells_then c),
        length-set cells c.args.at c.renew-is_moved.new.self,
      );
      small = c.self.invariant.small;
      leaving = subst AreFewGoodbyes (sym (then_claims c)) (λ origin.
          let few = c.self.invariant.leaving origin in
          let no_more = goodbyes_name c.args.origin c.args.t origin c.args.ssrc claims c.self.invariant.rising in
          omega (arith, few, no_more));
    }

pub returns-clause-items : goal.returns-clause-items
returns-clause-items c = then_claims c
    ∙ ap (λ (t : TableValue). with_name c.args.origin c.args.t c.args.ssrc t.items) c.self.view_is
