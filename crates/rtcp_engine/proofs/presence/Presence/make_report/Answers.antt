use Rattle.std.proofs.Common.{◌≡◌, length, take, ◌∙◌, ◌+◌, ◌≤◌, ap, sym, subst, arith}
use Rattle.std.proofs.lemmas.List.{length-take-le}
use Rattle.rtcp_members.specs.Tables.{TableValue}
use Rattle.rtcp_report.specs.Sizes.{reported_rows}
use Rattle.rtcp_timer.specs.Averages.{moved_average}
use Rattle.rtcp_engine.specs.state.Views.{setup_of}
use Rattle.rtcp_engine.specs.state.States.{State}
use Rattle.rtcp_engine.specs.answers.Reporting.{report_octets, reporter_by}
use Rattle.rtcp_engine.specs.answers.Ticks.{with_report}
use Rattle.rtcp_engine.proofs.StepLemmas.{at_latest, does_at, makes, octets_of}
use Rattle.rtcp_engine.proofs.Soundness.{IsKept, IsInStep, blocks_kept, kept}
use Rattle.rtcp_engine.proofs.presence.Presence.make_report.Goals as goal

pub invariant_of-self : goal.invariant_of-self
invariant_of-self g c =
    let content = g.T.MemberTable.content in
    let inside = c.self.inside in
    let rows = reported_rows (reporter_by (setup_of inside.config) inside.own (inside.reports + 1) inside.latest)
    inside.config.limit inside.cursor (content inside.table) in
    let is_kept = subst (λ (table : TableValue). IsKept (content inside.table) table inside.calls)
    (sym c.write_numbered-size.ensures.content) (blocks_kept c.self.invariant rows) in
    let fewer : inside.reports + 1 ≤ inside.calls =
    omega (
      arith,
      c.requires.reports,
      ap (λ (s : State). s.reports) c.self.view_is,
      ap (λ (s : State). s.calls) c.self.view_is,
    ) in
    let in_step : IsInStep inside.schedule.last (inside.reports + 1) inside.latest inside.calls = record {
      is_past = c.self.invariant.timing;
      in_range = c.self.invariant.latest;
      fewer = fewer;
      few = c.self.invariant.calls;
    } in
    kept c.self.invariant (content c.write_numbered-size.new.table) inside.schedule c.add.new.self c.reported.new.self
    c.write_numbered-size.new.cursor (inside.reports + 1) inside.latest inside.calls is_kept in_step

pub returns-clause-report : goal.returns-clause-report
returns-clause-report g c outcome agrees =
    at_latest c.self.view_is (λ t. take c.write_numbered-size.result c.write_numbered-size.new.octets
    ≡ report_octets c.args.self.now.setup t outcome)
    (c.write_numbered-size.ensures.octets ∙ octets_of c.self.view_is c.self.inside.latest outcome agrees)

pub returns-clause-new : goal.returns-clause-new
returns-clause-new g c =
    let within : c.write_numbered-size.result ≤ length c.write_numbered-size.new.octets =
    omega (arith, c.write_numbered-size.ensures.small) in
    let size = c.add.ensures.moves ∙ ap (moved_average c.self.inside.average)
    (sym (length-take-le c.write_numbered-size.result c.write_numbered-size.new.octets within)
    ∙ ap length c.write_numbered-size.ensures.octets) in
    does_at c.self.view_is (λ t setup. with_report setup t)
    (makes c.self.view_is c.self.inside.latest (g.T.MemberTable.content c.write_numbered-size.new.table) c.add.new.self
    c.reported.new.self c.write_numbered-size.new.cursor
    c.write_numbered-size.ensures.content size c.reported.ensures c.write_numbered-size.ensures.cursor
    (invariant_of-self g c).room)
