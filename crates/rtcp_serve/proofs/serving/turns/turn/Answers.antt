-- A turn: the clock, both ports, and the tick.
use Rattle.std.proofs.Common.{◌+◌, subst, arith}
use Rattle.rtcp_serve.specs.declared.link.Port.TheVariants.{Rtp as RtpPort}
use Rattle.rtcp_serve.specs.Serving.{resting, hearing, deciding}
use Rattle.rtcp_serve.specs.Sessions.{Reaches}
use Rattle.rtcp_serve.proofs.LinkCalls.{less_room, stops, turn_clocked, walks_as, walks_on, walks_to}
use Rattle.rtcp_serve.proofs.serving.turns.turn.Goals as goal

pub returns-in_err-hear-clause-leads : goal.returns-in_err-hear-clause-leads
returns-in_err-hear-clause-leads g c = λ run left s reads holds has.
    let (moment, called, counts) = c.read_clock.ensures.called in
    let begun = turn_clocked run left moment s _ _ _ _ holds has called counts in
    let one = walks_as begun.turns
    (walks_on begun (c.hear.ensures.leads run begun.reached reads begun.holds begun.ends)) in
    walks_to one (stops (λ r. Reaches (hearing RtpPort) r one.reached) (λ r. Reaches resting r one.reached)
    c.from_residual.result c.in_err-hear.was c.from_residual.ensures.1 (λ is. is) one.ends)

pub returns-in_err-hear-clause-room : goal.returns-in_err-hear-clause-room
returns-in_err-hear-clause-room g c = λ more room.
    c.hear.ensures.room more (c.read_clock.ensures.room (more + 2)
    (less_room (more + 5) (more + 2) _ _ (omega (arith)) room))

pub hear-requires-2-clause-room : goal.hear-requires-2-clause-room
hear-requires-2-clause-room g c =
    c.hear.ensures.room 2 (c.read_clock.ensures.room 4 (less_room 5 4 _ _ (omega (arith)) c.requires.room))

pub returns-in_err-hear-2-clause-leads : goal.returns-in_err-hear-2-clause-leads
returns-in_err-hear-2-clause-leads g c = λ run left s reads holds has.
    let (moment, called, counts) = c.read_clock.ensures.called in
    let begun = turn_clocked run left moment s _ _ _ _ holds has called counts in
    let one = walks_as begun.turns
    (walks_on begun (c.hear.ensures.leads run begun.reached reads begun.holds begun.ends)) in
    let at = subst (λ r. Reaches (hearing RtpPort) r one.reached) c.in_ok-hear.was one.ends in
    let both = walks_as one.turns (walks_on one (c.hear-2.ensures.leads run one.reached reads one.holds at)) in
    walks_to both (stops (λ r. Reaches deciding r both.reached) (λ r. Reaches resting r both.reached)
    c.from_residual-in_err-hear-2.result c.in_err-hear-2.was c.from_residual-in_err-hear-2.ensures.1 (λ is. is)
    both.ends)

pub returns-in_err-hear-2-clause-room : goal.returns-in_err-hear-2-clause-room
returns-in_err-hear-2-clause-room g c = λ more room. c.hear-2.ensures.room more
    (c.hear.ensures.room (more + 2)
    (c.read_clock.ensures.room (more + 2 + 2) (less_room (more + 5) (more + 2 + 2) _ _ (omega (arith)) room)))

pub tick-requires : goal.tick-requires
tick-requires g c = record {
  room = c.hear-2.ensures.room 1
      (c.hear.ensures.room 3 (c.read_clock.ensures.room 5 c.requires.room));
}

pub returns-clause-leads : goal.returns-clause-leads
returns-clause-leads g c = λ run left s reads holds has.
    let (moment, called, counts) = c.read_clock.ensures.called in
    let begun = turn_clocked run left moment s _ _ _ _ holds has called counts in
    let one = walks_as begun.turns
    (walks_on begun (c.hear.ensures.leads run begun.reached reads begun.holds begun.ends)) in
    let at = subst (λ r. Reaches (hearing RtpPort) r one.reached) c.in_ok-hear.was one.ends in
    let both = walks_as one.turns (walks_on one (c.hear-2.ensures.leads run one.reached reads one.holds at)) in
    walks_as both.turns (walks_on both (c.tick.ensures.leads run both.reached both.holds
    (subst (λ r. Reaches deciding r both.reached) c.in_ok-hear-2.was both.ends)))

pub returns-clause-room : goal.returns-clause-room
returns-clause-room g c = λ more room. c.tick.ensures.room more
    (c.hear-2.ensures.room (more + 1)
    (c.hear.ensures.room (more + 1 + 2)
    (c.read_clock.ensures.room (more + 1 + 2 + 2)
    (less_room (more + 5) (more + 1 + 2 + 2) _ _ (omega (arith)) room))))
