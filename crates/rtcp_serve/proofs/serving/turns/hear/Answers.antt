-- A datagram that came: the participant is told, and then the compound of its answer goes out, if it has one.
use Rattle.std.proofs.Common.{refl, subst}
use Rattle.rtcp_engine.specs.state.Views.{event_value}
use Rattle.rtcp_guarded.specs.Views.{guarded_value}
use Rattle.rtcp_serve.specs.Serving.{act_in, after_port}
use Rattle.rtcp_serve.specs.Sessions.{Reaches}
use Rattle.rtcp_serve.proofs.LinkCalls.{datagram_room, datagram_told, either_way, is_act_in, walks_after, walks_to}
use Rattle.rtcp_serve.proofs.serving.turns.hear.Goals as goal

pub returns-in-Got-clause-leads : goal.returns-in-Got-clause-leads
returns-in-Got-clause-leads g c = λ run s reads holds stage.
    let next = after_port c.args.port in
    let event = event_value c.arrival-event.result in
    let takes = c.take-answer.ensures.takes (act_in run.reader event) (is_act_in run.reader reads event) in
    let moves = datagram_told run c.args.port c.in-Got.peer c.split_at.result.0.now _ s _ _ _ _ _ _ _ _ _ holds stage
    c.split_at.ensures.front c.in-Got.ensures.called c.next_u32.ensures c.datagram.ensures.moved
    c.arrival.ensures.moved c.arrival-event.ensures (takes.answer s.history holds.participant) in
    let walk = c.tell.ensures.leads run next next _ _ _ (λ after took. record {
      participant = takes.stands s.history holds.participant;
      words = refl;
      tally = refl;
      told = (_, holds.told, took);
    }) refl in
    walks_after moves (walks_to walk (subst (λ stage. Reaches stage c.tell.result walk.reached)
    (either_way next (guarded_value c.take-answer.result)) walk.ends))

pub returns-in-Got-clause-room : goal.returns-in-Got-clause-room
returns-in-Got-clause-room g c = λ more room.
    c.tell.ensures.room more (datagram_room more _ _ _ _ _ _ _ _ _ _ room c.datagram.ensures.moved
    c.arrival.ensures.moved
    c.in-Got.ensures.called)
