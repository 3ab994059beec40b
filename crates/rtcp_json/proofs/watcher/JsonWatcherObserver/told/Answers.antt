-- The line of the event, and then who is there.
use Rattle.std.proofs.Common.{rules, arith}
use Rattle.std.proofs.lemmas.Grind.{common_steps}
use Rattle.rtcp_engine.specs.state.Views.{event_value}
use Rattle.rtcp_guarded.specs.Views.{guarded_value}
use Rattle.rtcp_json.specs.Watchers.{Tells}
use Rattle.rtcp_json.proofs.WatchLemmas.{told_shown}
use Rattle.rtcp_json.proofs.watcher.JsonWatcherObserver.told.Goals as goal

pub returns-then-is_none-clause-watches : goal.returns-then-is_none-clause-watches
returns-then-is_none-clause-watches g c = record {
  moment = first_of (search rules, grind (arith, common_steps));
  writes = λ whole.
      let tells : Tells g.W.Write.contents (event_value c.args.event.now) (guarded_value c.args.answer.now)
      c.args.participant.now c.args.self.now c.finish.new.self = first_of (search rules, grind (arith, common_steps)) in
      told_shown tells;
  lasting = first_of (search rules, grind (arith, common_steps));
  silent = first_of (search rules, grind (arith, common_steps));
  fault = first_of (search rules, grind (arith, common_steps));
}
