-- The claim of the rank is the source's, and in a gap there is none.
use Rattle.std.proofs.Common.{ap, subst, ◌∙◌}
use Rattle.rtcp_guard.specs.Claims.{owner_in}
use Rattle.rtcp_guard.specs.Tables.{IsGap, IsRankOf, TableValue, claims_in}
use Rattle.rtcp_guard.proofs.Rows.{owner_at_rank, owner_at_gap}
use Rattle.rtcp_guard.proofs.table.ClaimTable.owner.Goals as goal

pub returns-in-Ok : goal.returns-in-Ok
returns-in-Ok c =
    owner_at_rank c.args.ssrc c.self.inside.cells.items c.in-Ok.at c.index.result.now c.self.invariant.rising
    (subst (λ cells. IsRankOf c.args.ssrc (claims_in cells) c.in-Ok.at) c.deref.ensures.value c.in-Ok.ensures)
    c.index.ensures
    ∙ ap (λ (t : TableValue). owner_in c.args.ssrc t.items) c.self.view_is

pub returns-in-Err : goal.returns-in-Err
returns-in-Err c =
    owner_at_gap c.args.ssrc c.self.inside.cells.items c.in-Err.field-0 c.self.invariant.rising
    (subst (λ cells. IsGap c.args.ssrc (claims_in cells) c.in-Err.field-0) c.deref.ensures.value c.in-Err.ensures)
    ∙ ap (λ (t : TableValue). owner_in c.args.ssrc t.items) c.self.view_is
