-- The claim of the rank is the source's, and in a gap there is none.
use Rattle.std.proofs.Common.{sym, ap, subst, ◌∙◌}
use Rattle.rtcp_guard.specs.Claims.{owner_in}
use Rattle.rtcp_guard.specs.Tables.{IsGap, IsRankOf, TableValue}
use Rattle.rtcp_guard.proofs.Rows.{owner_at_rank, owner_at_gap}
use Rattle.rtcp_guard.proofs.table.ClaimTable.owner_hinted.Goals as goal
use Rattle.rtcp_guard.proofs.table.ClaimTable.owner_hinted.Goals.{in-Ok, in-Err}

pub returns-clause-owner : goal.returns-clause-owner
returns-clause-owner c =
    let same = c.find.ensures.kept in
    elim c.match-find.branch [
      | in-Ok w ↦ w.result-is
          ∙ owner_at_rank c.args.ssrc c.self.inside.cells.items w.in-Ok.at w.index.result.now c.self.invariant.rising
          (subst (λ (t : TableValue). IsRankOf c.args.ssrc t.items w.in-Ok.at) (sym same ∙ sym c.self.view_is)
          w.in-Ok.ensures.located)
          w.index.ensures
          ∙ ap (λ (t : TableValue). owner_in c.args.ssrc t.items) (c.self.view_is ∙ same)
      | in-Err w ↦ w.result-is
          ∙ owner_at_gap c.args.ssrc c.self.inside.cells.items w.in-Err.field-0 c.self.invariant.rising
          (subst (λ (t : TableValue). IsGap c.args.ssrc t.items w.in-Err.field-0) (sym same ∙ sym c.self.view_is)
          w.in-Err.ensures.located)
          ∙ ap (λ (t : TableValue). owner_in c.args.ssrc t.items) (c.self.view_is ∙ same)
    ]
