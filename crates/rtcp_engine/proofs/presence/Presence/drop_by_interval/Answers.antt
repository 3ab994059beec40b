use Rattle.std.proofs.Common.{◌≡◌, ◌∙◌, sym, ap, subst}
use Rattle.rtcp_members.specs.Traces.{Horizons, horizons_at}
use Rattle.rtcp_members.specs.Tables.{TableValue, after_check}
use Rattle.rtcp_members.specs.Roles.{check_moves}
use Rattle.rtcp_engine.specs.answers.OwnStreams.{Adds, check_passed}
use Rattle.rtcp_engine.specs.state.States.{MovesOthers, State}
use Rattle.rtcp_engine.specs.answers.Ticks.{horizons_of, without_silent}
use Rattle.rtcp_engine.proofs.Soundness.{IsKept, check_kept, no_call, kept}
use Rattle.rtcp_engine.proofs.StepLemmas.{at_latest, does_at, drops, inside_interval}
use Rattle.rtcp_engine.proofs.RolesChanged.{moves_check}
use Rattle.rtcp_engine.proofs.presence.Presence.drop_by_interval.Goals as goal

pub invariant_of-self : goal.invariant_of-self
invariant_of-self g c =
    let inside = c.self.inside in
    let content = g.T.MemberTable.content in
    let by = c.horizons-silent.result in
    let is_kept = subst (λ (table : TableValue). IsKept (content inside.table) table inside.calls)
    (sym c.check-moved.ensures.content) (check_kept c.self.invariant (horizons_at by.0 by.1 by.2)) in
    kept c.self.invariant (content c.check-moved.new.table) inside.schedule inside.average c.check.new.self
    inside.cursor inside.reports inside.latest inside.calls is_kept (no_call c.self.invariant)

pub returns : goal.returns
returns g c =
    let inside = c.self.inside in
    let td = c.check_interval.result in
    let by_interval = inside_interval c.self.view_is c.check_interval.ensures.exact in
    let table : g.T.MemberTable.content c.check-moved.new.table ≡ after_check (horizons_of inside.latest td)
    (g.T.MemberTable.content inside.table) =
    c.check-moved.ensures.content
    ∙ ap (λ (by : Horizons). after_check by (g.T.MemberTable.content inside.table)) c.horizons-silent.ensures in
    record {
      does = does_at c.self.view_is (λ t setup. without_silent setup t)
          (drops c.self.view_is (g.T.MemberTable.content c.check-moved.new.table) c.check.new.self inside.latest td
          by_interval table (subst (λ (by : Horizons). Adds inside.own c.check.new.self (check_passed by.idle))
          c.horizons-silent.ensures c.check.ensures) (invariant_of-self g c).room);
      moves = at_latest c.self.view_is
          (λ t. MovesOthers c.args.self.now c.check-moved.result (λ setup. without_silent setup t))
          (moves_check c.self.view_is inside.latest td c.check-moved.result by_interval
          (c.check-moved.ensures.moved
          ∙ ap (λ (by : Horizons). check_moves by (g.T.MemberTable.content inside.table)) c.horizons-silent.ensures));
      reports = ap (λ (s : State). s.reports) c.self.view_is;
    }
