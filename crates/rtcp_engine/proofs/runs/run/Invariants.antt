use Rattle.std.proofs.Common.{◌≡◌, ◌+◌, ◌++◌, length, map, take}
use Rattle.rtcp_engine.specs.answers.Histories.{History}
use Rattle.rtcp_engine.specs.answers.Answers.{answers_to, followed_by_all}
use Rattle.rtcp_engine.specs.answers.Acts.{act_told}
use Rattle.rtcp_engine.specs.state.States.{StandsAt, KeepsCapacity}
use Rattle.rtcp_engine.proofs.runs.run.Given as goal

abbrev pub invariant-events : goal.invariant-events
invariant-events g l = record {
  count : l.taken ≡ l.event-index;
  refusals : g.S.Sink.refusals l.sink ≡ g.S.Sink.refusals l.fn.sink;
  handed : length (g.S.Sink.content l.sink) ≡ length (g.S.Sink.content l.fn.sink) + l.taken;
  within : KeepsCapacity l.fn.participant.presence → KeepsCapacity l.participant.presence;
  told : (history : History) → StandsAt l.fn.participant history → g.S.Sink.content l.sink
      ≡ g.S.Sink.content l.fn.sink ++ answers_to history (take l.taken (map act_told l.events));
  stands : (history : History) → StandsAt l.fn.participant history →
      StandsAt l.participant (followed_by_all history (take l.taken (map act_told l.events)));
}
