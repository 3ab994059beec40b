-- The goodbye is counted in the claim of the rank; in a gap there is none.
use Rattle.std.proofs.Common.{◌≡◌, ◌<◌, Some, List, set, arith, sym, ap, subst, ◌∙◌}
use Rattle.std.proofs.lemmas.List.{length-set}
use Rattle.rtcp_guard.specs.declared.cells.Cell.{Cell}
use Rattle.rtcp_guard.specs.Claims.{Claim, goodbyes_of, with_goodbye}
use Rattle.rtcp_guard.specs.Tables.{AreFewGoodbyes, AreRising, AreSince, AreTallies, IsGap, IsRankOf, TableValue, claim_in, claims_in}
use Rattle.rtcp_guard.proofs.Ages.{since_leaving}
use Rattle.rtcp_guard.proofs.Orders.{gap_leaves, rank_found, rising_leaving}
use Rattle.rtcp_guard.proofs.Putting.{one_leaving}
use Rattle.rtcp_guard.proofs.Rows.{as_many, claim_at, goodbye_written}
use Rattle.rtcp_guard.proofs.table.ClaimTable.leave.Goals as goal
use Rattle.rtcp_guard.proofs.table.ClaimTable.leave.Goals.{After-forget}

pub leave-requires : goal.leave-requires
leave-requires c =
    let cells = c.self.inside.cells.items in
    let cell = c.index_mut.result.now in
    let rank : IsRankOf c.args.ssrc (claims_in cells) c.in-Ok.at =
    subst (λ cells. IsRankOf c.args.ssrc (claims_in cells) c.in-Ok.at) c.deref.ensures.value c.in-Ok.ensures in
    let within = rank.within in
    let there = rank_found c.args.ssrc (claims_in cells) c.in-Ok.at (claim_in cell) c.self.invariant.rising within
    (rank.its_ssrc (claim_in cell))
    ∙ ap (λ (claim : Claim). Some claim)
    (claim_at cells c.in-Ok.at cell (claim_in cell) (omega (arith, within, as_many cells))
    ∙ ap claim_in (sym c.index_mut.ensures.value)) in
    let more = one_leaving c.args.ssrc (claims_in cells) (claim_in cell) c.self.invariant.rising there in
    let few = subst (λ (t : TableValue). goodbyes_of cell.origin (with_goodbye (Some c.args.ssrc) t.items) < 65536)
    (sym c.self.view_is) (c.requires cell.origin) in
    omega (arith, more, few)

its_rank : (c : After-forget) → IsRankOf c.args.ssrc (claims_in c.self.inside.cells.items) c.in-Ok.at
its_rank c = subst (λ cells. IsRankOf c.args.ssrc (claims_in cells) c.in-Ok.at) c.deref.ensures.value c.in-Ok.ensures

abbrev cells_then : (c : After-forget) → List Cell
cells_then c = set c.self.inside.cells.items c.in-Ok.at c.leave.new.self

then_claims : (c : After-forget) →
    claims_in (cells_then c) ≡ with_goodbye (Some c.args.ssrc) (claims_in c.self.inside.cells.items)
then_claims c = goodbye_written c.args.ssrc c.self.inside.cells.items c.in-Ok.at c.index_mut.result.now c.leave.new.self
    c.self.invariant.rising (its_rank c) c.index_mut.ensures.value c.leave.ensures

pub invariant_of-self : goal.invariant_of-self
invariant_of-self c =
    let cells = c.self.inside.cells.items in
    record {
      rising = subst AreRising (sym (then_claims c))
          (rising_leaving c.args.ssrc (claims_in cells) c.self.invariant.rising);
      since = subst (AreSince c.self.inside.oldest) (sym (then_claims c))
          (since_leaving c.self.inside.oldest c.args.ssrc (claims_in cells) c.self.invariant.since);
      counted = subst (AreTallies (claims_in (cells_then c))) (sym c.forget.ensures) tt;
      within = omega (
        arith,
        c.self.invariant.within,
        as_many cells,
        as_many (cells_then c),
        length-set cells c.in-Ok.at c.leave.new.self,
      );
      small = c.self.invariant.small;
      leaving = subst AreFewGoodbyes (sym (then_claims c))
          (subst (λ (t : TableValue). AreFewGoodbyes (with_goodbye (Some c.args.ssrc) t.items)) (sym c.self.view_is)
          c.requires);
    }

pub returns-in-Ok-clause-items : goal.returns-in-Ok-clause-items
returns-in-Ok-clause-items c = then_claims c
    ∙ ap (λ (t : TableValue). with_goodbye (Some c.args.ssrc) t.items) c.self.view_is

pub returns-in_default-clause-items : goal.returns-in_default-clause-items
returns-in_default-clause-items c =
    let same = ap (λ (t : TableValue). t.items) c.self.view_is in
    sym same
    ∙ sym (gap_leaves c.args.ssrc (claims_in c.self.inside.cells.items) c.in_default.field-0 c.self.invariant.rising
    (subst (λ cells. IsGap c.args.ssrc (claims_in cells) c.in_default.field-0) c.deref.ensures.value
    c.in_default.ensures))
    ∙ ap (with_goodbye (Some c.args.ssrc)) same
