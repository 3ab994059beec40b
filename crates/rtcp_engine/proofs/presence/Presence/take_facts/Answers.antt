use Rattle.std.proofs.Common.{sym, subst}
use Rattle.rtcp_wire.specs.Facts.{facts_of}
use Rattle.rtcp_wire.proofs.LawLemmas.{compounds_give_no_media}
use Rattle.rtcp_members.specs.Tables.{TableValue}
use Rattle.rtcp_engine.proofs.StepLemmas.{takes_facts}
use Rattle.rtcp_engine.proofs.RolesChanged.{moves_facts}
use Rattle.rtcp_engine.proofs.Soundness.{IsKept, facts_kept, no_call, kept}
use Rattle.rtcp_engine.proofs.presence.Presence.take_facts.Goals as goal

pub invariant_of-self : goal.invariant_of-self
invariant_of-self g c =
    let inside = c.self.inside in
    let content = g.T.MemberTable.content in
    let is_kept = subst (λ (table : TableValue). IsKept (content inside.table) table inside.calls)
    (sym c.apply_compound-moved.ensures.content)
    (facts_kept c.self.invariant (facts_of c.args.compound.now) c.args.now
    (compounds_give_no_media c.args.compound.now)) in
    kept c.self.invariant (content c.apply_compound-moved.new.table) inside.schedule c.add.new.self inside.own
    inside.cursor inside.reports inside.latest inside.calls is_kept (no_call c.self.invariant)

pub returns-clause-new : goal.returns-clause-new
returns-clause-new g c =
    let content = g.T.MemberTable.content in
    takes_facts c.self.view_is c.args.now c.args.size c.args.compound.now (content c.apply_compound-moved.new.table)
    c.add.new.self c.apply_compound-moved.ensures.content c.add.ensures.moves (invariant_of-self g c).room

pub returns-clause-moved : goal.returns-clause-moved
returns-clause-moved g c =
    moves_facts c.self.view_is c.args.now c.args.size c.args.compound.now c.apply_compound-moved.result
    c.apply_compound-moved.ensures.moved
