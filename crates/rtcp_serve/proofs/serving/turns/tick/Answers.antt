-- The clock, and then the compound of the tick, if it has one.
use Rattle.std.proofs.Common.{◌+◌, refl, subst}
use Rattle.rtcp_guarded.specs.Views.{guarded_value}
use Rattle.rtcp_serve.specs.Serving.{resting}
use Rattle.rtcp_serve.specs.Sessions.{Reaches}
use Rattle.rtcp_serve.proofs.LinkCalls.{either_way, tick_told, walks_after, walks_to}
use Rattle.rtcp_serve.proofs.serving.turns.tick.Goals as goal

pub returns-clause-leads : goal.returns-clause-leads
returns-clause-leads g c = λ run s holds stage.
    let (moment, read, counts) = c.read_clock.ensures.called in
    let takes = c.take-answer.ensures.takes _ refl in
    let moves = tick_told run moment s _ _ _ _ _ _ _ _ _ holds stage read counts c.next_u32.ensures
    c.next_u32-2.ensures (takes.answer s.history holds.participant) in
    let walk = c.tell.ensures.leads run resting resting _ _ _ (λ after took. record {
      participant = takes.stands s.history holds.participant;
      words = refl;
      tally = refl;
      told = (_, holds.told, took);
    }) refl in
    walks_after moves (walks_to walk (subst (λ stage. Reaches stage c.tell.result walk.reached)
    (either_way resting (guarded_value c.take-answer.result)) walk.ends))

pub returns-clause-room : goal.returns-clause-room
returns-clause-room g c = λ more room. c.tell.ensures.room more (c.read_clock.ensures.room (more + 1) room)
