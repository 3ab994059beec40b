use Rattle.std.proofs.Common.{◌∙◌, ◌-◌, ◌<◌, ℕ, arith, sym, subst, ap}
use Rattle.rtcp_members.specs.Roles.{facts_move}
use Rattle.rtcp_members.specs.Tables.{TableValue, HasFew, after_facts, counted}
use Rattle.rtcp_engine.specs.answers.Arrivals.{facts_of_media, media_fact}
use Rattle.rtcp_engine.specs.state.States.{State}
use Rattle.rtcp_engine.proofs.StepLemmas.{takes_media}
use Rattle.rtcp_engine.proofs.RolesChanged.{moves_media}
use Rattle.rtcp_engine.proofs.Soundness.{IsKept, media_kept, no_call, kept}
use Rattle.rtcp_engine.proofs.presence.Presence.take_media.Goals as goal

pub invariant_of-self : goal.invariant_of-self
invariant_of-self g c =
    let inside = c.self.inside in
    let content = g.T.MemberTable.content in
    let head = c.args.head.now in
    let old : TableValue = content inside.table in
    let is = c.apply_media.ensures.content
    ∙ ap (λ (rate : ℕ). after_facts (facts_of_media inside.config.ssrc rate head (counted old (media_fact rate head)))
    c.args.now old) c.rate_of-rate.ensures in
    let some : 0 < inside.calls = omega (arith, c.requires.reports, ap (λ (s : State). s.calls) c.self.view_is) in
    let few = subst (λ (s : State). HasFew (s.calls - 1) s.table) (sym c.self.view_is) c.requires.few in
    let is_kept = subst (λ (table : TableValue). IsKept (content inside.table) table inside.calls) (sym is)
    (media_kept c.self.invariant some few head c.args.now) in
    kept c.self.invariant (content c.apply_media.new.table) inside.schedule inside.average inside.own inside.cursor
    inside.reports inside.latest inside.calls is_kept (no_call c.self.invariant)

pub returns-clause-new : goal.returns-clause-new
returns-clause-new g c =
    let inside = c.self.inside in
    let head = c.args.head.now in
    let old : TableValue = g.T.MemberTable.content inside.table in
    takes_media c.self.view_is c.args.now head (g.T.MemberTable.content c.apply_media.new.table)
    (c.apply_media.ensures.content
    ∙ ap (λ (rate : ℕ). after_facts (facts_of_media inside.config.ssrc rate head (counted old (media_fact rate head)))
    c.args.now old) c.rate_of-rate.ensures)
    (invariant_of-self g c).room

pub returns-clause-moved : goal.returns-clause-moved
returns-clause-moved g c =
    let inside = c.self.inside in
    let head = c.args.head.now in
    let old : TableValue = g.T.MemberTable.content inside.table in
    moves_media c.self.view_is c.args.now head c.apply_media.result
    (c.apply_media.ensures.moved
    ∙ ap (λ (rate : ℕ). facts_move (facts_of_media inside.config.ssrc rate head (counted old (media_fact rate head)))
    c.args.now old) c.rate_of-rate.ensures)
