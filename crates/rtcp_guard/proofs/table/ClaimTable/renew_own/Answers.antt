-- The claim of the rank is the source's.
use Rattle.std.proofs.Common.{Some, sym, ap, subst, ◌∙◌}
use Rattle.rtcp_guard.specs.Claims.{owner_in}
use Rattle.rtcp_guard.specs.Tables.{IsRankOf, TableValue}
use Rattle.rtcp_guard.proofs.Rows.{owner_at_rank}
use Rattle.rtcp_guard.proofs.table.ClaimTable.renew_own.Goals as goal

pub returns-clause-own : goal.returns-clause-own
returns-clause-own c = λ is.
    let same = c.find.ensures.kept in
    sym (owner_at_rank c.args.ssrc c.self.inside.cells.items c.in-Ok.at c.index.result.now c.self.invariant.rising
    (subst (λ (t : TableValue). IsRankOf c.args.ssrc t.items c.in-Ok.at) (sym same ∙ sym c.self.view_is)
    c.in-Ok.ensures.located)
    c.index.ensures
    ∙ ap (λ (t : TableValue). owner_in c.args.ssrc t.items) (c.self.view_is ∙ same))
    ∙ ap Some c.if-index-origin.false
