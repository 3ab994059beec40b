use Rattle.std.proofs.Common.{sym, subst}
use Rattle.rtcp_members.specs.Tables.{TableValue}
use Rattle.rtcp_engine.proofs.Soundness.{IsKept, forgotten_kept, no_call, kept}
use Rattle.rtcp_engine.proofs.StepLemmas.{forgets}
use Rattle.rtcp_engine.proofs.RolesChanged.{moves_forgotten}
use Rattle.rtcp_engine.proofs.presence.Presence.drop_source.Goals as goal

pub invariant_of-self : goal.invariant_of-self
invariant_of-self g c =
    let inside = c.self.inside in
    let content = g.T.MemberTable.content in
    let is_kept = subst (λ (table : TableValue). IsKept (content inside.table) table inside.calls)
    (sym c.forget.ensures.content) (forgotten_kept c.self.invariant c.args.ssrc) in
    kept c.self.invariant (content c.forget.new.table) inside.schedule inside.average inside.own inside.cursor
    inside.reports inside.latest inside.calls is_kept (no_call c.self.invariant)

pub returns-clause-new : goal.returns-clause-new
returns-clause-new g c =
    forgets c.self.view_is (g.T.MemberTable.content c.forget.new.table) c.args.ssrc c.forget.ensures.content
    (invariant_of-self g c).room

pub returns-clause-moved : goal.returns-clause-moved
returns-clause-moved g c = moves_forgotten c.self.view_is c.args.ssrc c.forget.result c.forget.ensures.moved
