-- Turns, and then the leave.
use Rattle.std.proofs.Common.{◌+◌, ◌*◌, true, is_some, not, refl, sym, ap, ◌∙◌, subst, arith}
use Rattle.rtcp_serve.specs.declared.serving.Cause.TheVariants.{Done}
use Rattle.rtcp_serve.specs.Serving.{ended}
use Rattle.rtcp_serve.specs.Sessions.{EndsTurns, EndsAs, next_at}
use Rattle.rtcp_serve.proofs.LinkCalls.{IsClosed, closed_at, closes, closes_on, cut_alike, gone_ends, heeded_since, is_leaving, is_paused, leave_heeded, less_room, none_heeded, none_left, stops, turns_left, uncut_whole}
use Rattle.rtcp_serve.proofs.serving.turns.session.Goals as goal

pub returns-in_err-make_turns : goal.returns-in_err-make_turns
returns-in_err-make_turns g c = let (made, cut, leads) = c.make_turns.ensures.leads in record {
  serves = (
    made,
    c.args.turns,
    c.make_turns.new.tally.moment,
    cut,
    omega (arith),
    uncut_whole _ _,
    λ run s reads same holds stage turns leaving none_yet.
        let (left, pauses, heeds, walk) = leads run s reads holds stage turns leaving in (
          pauses,
          heeds c.args.turns made (none_heeded _ _ _ _ none_yet),
          closes refl walk (stops (λ r. EndsTurns r walk.reached)
              (λ r. IsClosed run walk.reached (EndsAs r)) c.from_residual.result c.in_err-make_turns.was
              c.from_residual.ensures.1 (closed_at run walk.reached) walk.ends),
        ),
  );
}

pub returns-then-is_none : goal.returns-then-is_none
returns-then-is_none g c = let (made, cut, leads) = c.make_turns.ensures.leads in record {
  serves = (
    made,
    c.args.turns,
    c.make_turns.new.tally.moment,
    cut,
    omega (arith),
    uncut_whole _ _,
    λ run s reads same holds stage turns leaving none_yet.
        let (left, pauses, heeds, walk) = leads run s reads holds stage turns leaving in
        let (rests, over) = subst (λ r. EndsTurns r walk.reached) c.in_ok-make_turns.was walk.ends in
        let none = none_left (next_at walk.reached)
        (ap is_some (sym (c.next_tick.ensures.exact walk.reached.history walk.holds.participant)) ∙ c.is_none.ensures
        ∙ ap not c.if-is_none.true) in (
          pauses,
          heeds c.args.turns made (none_heeded _ _ _ _ none_yet),
          closes refl walk (ended Done, gone_ends run.reader run.total walk.reached rests none, refl),
        ),
  );
}

pub leave-requires-clause-room : goal.leave-requires-clause-room
leave-requires-clause-room g c = c.make_turns.ensures.room (c.args.turns * 5 + 1)
    (less_room (c.args.turns * 10 + 1) (c.args.turns * 5 + 1 + c.args.turns * 5) _ _ (omega (arith)) c.requires.room)

pub returns : goal.returns
returns g c =
    let (made, cut, leads) = c.make_turns.ensures.leads in
    let (further, waits, closing) = c.leave.ensures.serves in record {
      serves = (
        made,
        further,
        c.make_turns.new.tally.moment,
        cut,
        c.leave.ensures.later,
        cut_alike (c.make_turns.ensures.ending true _) waits,
        λ run s reads same holds stage turns leaving none_yet.
            let (left, pauses, heeds, walk) = leads run s reads holds stage turns leaving in
            let (rests, over) = subst (λ r. EndsTurns r walk.reached) c.in_ok-make_turns.was walk.ends in
            let there = ap is_some (sym (c.next_tick.ensures.exact walk.reached.history walk.holds.participant))
            ∙ c.is_none.ensures ∙ ap not c.if-is_none.false in
            let (all, heed_all, closed) = closing run walk.reached reads same walk.holds (record {
              resting = rests;
              there = there;
              turns = turns_left walk.reached there over;
              leaving = is_leaving walk ∙ leaving;
            }) in
            let before = leave_heeded _ c.args.turns made _ _ cut
            (heeds c.args.turns made (none_heeded _ _ _ _ none_yet)) in
            let known = c.make_turns.ensures.ending in (
              all,
              heeded_since _ _ _ _ _ _ _ _ known (is_paused walk) (heed_all c.args.turns made) before,
              closes_on walk closed,
            ),
      );
    }
