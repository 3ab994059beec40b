-- To count the members again moves nobody.
use Rattle.std.proofs.Common.{◌∙◌}
use Rattle.rtcp_engine.specs.answers.Ticks.{with_recount}
use Rattle.rtcp_engine.proofs.StepLemmas.{both_now}
use Rattle.rtcp_engine.proofs.presence.Presence.check_members.Goals as goal

pub returns : goal.returns
returns g c = record {
  does = both_now (λ t setup. with_recount setup t) c.drop_silent-moved.ensures.does c.recount.ensures.new;
  moves = c.drop_silent-moved.ensures.moves;
  reports = c.recount.ensures.reports ∙ c.drop_silent-moved.ensures.reports;
}
