-- Turn by turn, as long as the participant has not left and the ending is not met.
use Rattle.std.proofs.Common.{◌≡◌, ◌∷◌, false, ◌+◌, ◌*◌, ◌-◌, inl, inr, is_some, not, refl, sym, ap, ◌∙◌, subst, arith}
use Rattle.rtcp_serve.specs.Endings.{pause}
use Rattle.rtcp_serve.specs.Serving.{resting}
use Rattle.rtcp_serve.specs.Sessions.{HasTurn, Reaches, EndsTurns, next_at, turns_with}
use Rattle.rtcp_serve.proofs.LinkCalls.{answers_as, heeds_turn, is_leaving, is_left, is_paused, less_room, none_left, stops, uncut_whole, walks_as, walks_nowhere, walks_on, walks_to}
use Rattle.rtcp_serve.proofs.serving.turns.make_turns.Goals as goal

pub turns-init : goal.turns-init
turns-init g c = record {
  row = c.requires.row;
  later = omega (arith);
  room = λ more room. less_room (more + 0) more _ _ (omega (arith)) room;
  leads = λ run left s reads holds stage turns leaving.
      let same : s.turns ≡ left = omega (arith, turns) in
      let walk = walks_nowhere _ run s _ _ (λ t. t.stage ≡ resting) holds stage in (
        s.pauses,
        λ most before heeded. heeded,
        walks_as (ap (λ n. turns_with n s.leaving s.pauses) same) walk,
      );
  ending = λ left at. refl;
}

pub returns-then-is_none-clause-leads : goal.returns-then-is_none-clause-leads
returns-then-is_none-clause-leads g c = (
  c.args.turns,
  uncut_whole _ _,
  λ run s reads holds stage turns leaving.
      let (pauses, heeds, walk) = c.turns.invariant.leads run (c.args.turns - c.turns.counter) s reads holds
      stage (omega (arith, turns, c.turns-test.true)) leaving in (
        _,
        pauses,
        heeds,
        walks_to walk (
          walk.ends,
          inl (none_left (next_at walk.reached)
              (ap is_some (sym (c.next_tick.ensures.exact walk.reached.history walk.holds.participant))
              ∙ c.is_none.ensures
              ∙ ap not c.if-is_none.true)),
        ),
      ),
)

pub returns-then-is_none-clause-room : goal.returns-then-is_none-clause-room
returns-then-is_none-clause-room g c = λ more room.
    c.turns.invariant.room more (less_room (more + c.args.turns * 5) (more + c.turns.counter * 5) _ _
    (omega (arith, c.turns-test.true)) room)

pub returns-then-is_over-clause-leads : goal.returns-then-is_over-clause-leads
returns-then-is_over-clause-leads g c = (
  c.turns.counter,
  record {
    within = omega (arith, c.turns-test.true);
    whole = inr (answers_as _ _ _ _ (c.turns.invariant.ending _ _) c.if-is_over.true c.is_over.ensures.answer);
  },
  λ run s reads holds stage turns leaving.
      let (pauses, heeds, walk) = c.turns.invariant.leads run 0 s reads holds stage (omega (arith, turns))
      leaving in
      (_, pauses, heeds, walks_to walk (walk.ends, inr (is_left walk))),
)

pub returns-then-is_over-clause-room : goal.returns-then-is_over-clause-room
returns-then-is_over-clause-room g c = λ more room.
    c.turns.invariant.room more (less_room (more + c.args.turns * 5) (more + c.turns.counter * 5) _ _
    (omega (arith, c.turns-test.true)) room)

pub returns-then-is_over-clause-ending : goal.returns-then-is_over-clause-ending
returns-then-is_over-clause-ending g c = λ left at. c.is_over.ensures.stays left at ∙ c.turns.invariant.ending left at

pub turn-requires-clause-room : goal.turn-requires-clause-room
turn-requires-clause-room g c = c.turns.invariant.room 5
    (less_room (c.args.turns * 5) (5 + c.turns.counter * 5) _ _ (omega (arith, c.turns-test.true)) c.requires.room)

pub returns-in_err-turn-clause-leads : goal.returns-in_err-turn-clause-leads
returns-in_err-turn-clause-leads g c = (
  c.args.turns,
  uncut_whole _ _,
  λ run s reads holds stage turns leaving.
      let left = c.args.turns - (c.turns.counter + 1) in
      let (pauses, heeds, walk) = c.turns.invariant.leads run (left + 1) s reads holds stage
      (omega (arith, turns, c.turns-test.true)) leaving in
      let has : HasTurn left walk.reached = record {
        resting = walk.ends;
        there = ap is_some (sym (c.next_tick.ensures.exact walk.reached.history walk.holds.participant))
            ∙ c.is_none.ensures
            ∙ ap not c.if-is_none.false;
        turns = omega (arith, is_left walk);
      } in
      let now = walk.reached in
      let paused = pause now.leaving now.tally.moment false ∷ now.pauses in
      let further = walks_as (ap (λ b. turns_with left b paused) (is_leaving walk))
      (walks_on walk (c.turn.ensures.leads run left walk.reached reads walk.holds has)) in (
        left,
        _,
        λ most before heeded. heeds_turn _ most before _ _ _ _ _ _ (is_leaving walk ∙ leaving) walk.holds.tally
            (is_paused walk)
            (answers_as _ _ _ _ (c.turns.invariant.ending _ _) c.if-is_over.false c.is_over.ensures.answer)
            (heeds most before heeded),
        walks_to further (stops (λ r. Reaches resting r further.reached) (λ r. EndsTurns r further.reached)
            c.from_residual.result c.in_err-turn.was c.from_residual.ensures.1 (λ is. is) further.ends),
      ),
)

pub returns-in_err-turn-clause-room : goal.returns-in_err-turn-clause-room
returns-in_err-turn-clause-room g c = λ more room. c.turn.ensures.room more
    (c.turns.invariant.room (more + 5) (less_room (more + c.args.turns * 5) (more + 5 + c.turns.counter * 5) _ _
    (omega (arith, c.turns-test.true)) room))

pub returns-in_err-turn-clause-ending : goal.returns-in_err-turn-clause-ending
returns-in_err-turn-clause-ending g c = λ left at. c.is_over.ensures.stays left at ∙ c.turns.invariant.ending left at

pub turns-preserved : goal.turns-preserved
turns-preserved g c = record {
  row = c.in_ok-turn.ensures.row;
  later = omega (arith, c.turns.invariant.later, c.turn.ensures.later);
  room = λ more room. c.turn.ensures.room more
      (c.turns.invariant.room (more + 5)
      (less_room (more + (c.turns.counter + 1) * 5) (more + 5 + c.turns.counter * 5) _ _ (omega (arith)) room));
  leads = λ run left s reads holds stage turns leaving.
      let (pauses, heeds, walk) = c.turns.invariant.leads run (left + 1) s reads holds stage
      (omega (arith, turns)) leaving in
      let has : HasTurn left walk.reached = record {
        resting = walk.ends;
        there = ap is_some (sym (c.next_tick.ensures.exact walk.reached.history walk.holds.participant))
            ∙ c.is_none.ensures
            ∙ ap not c.if-is_none.false;
        turns = omega (arith, is_left walk);
      } in
      let now = walk.reached in
      let paused = pause now.leaving now.tally.moment false ∷ now.pauses in
      let further = walks_as (ap (λ b. turns_with left b paused) (is_leaving walk))
      (walks_on walk (c.turn.ensures.leads run left walk.reached reads walk.holds has)) in (
        _,
        λ most before heeded. heeds_turn _ most before _ _ _ _ _ _ (is_leaving walk ∙ leaving) walk.holds.tally
            (is_paused walk)
            (answers_as _ _ _ _ (c.turns.invariant.ending _ _) c.if-is_over.false c.is_over.ensures.answer)
            (heeds most before heeded),
        walks_to further (subst (λ r. Reaches resting r further.reached) c.in_ok-turn.was further.ends),
      );
  ending = λ left at. c.is_over.ensures.stays left at ∙ c.turns.invariant.ending left at;
}

pub returns-clause-leads : goal.returns-clause-leads
returns-clause-leads g c = (
  c.args.turns,
  uncut_whole _ _,
  λ run s reads holds stage turns leaving.
      let (pauses, heeds, walk) = c.turns.invariant.leads run 0 s reads holds stage
      (omega (arith, turns, c.turns.auto.counter-end)) leaving in
      (_, pauses, heeds, walks_to walk (walk.ends, inr (is_left walk))),
)

pub returns-clause-room : goal.returns-clause-room
returns-clause-room g c = λ more room.
    c.turns.invariant.room more (less_room (more + c.args.turns * 5) (more + c.turns.counter * 5) _ _
    (omega (arith, c.turns.auto.counter-end)) room)
