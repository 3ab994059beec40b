-- The leave, and turns after it.
use Rattle.std.proofs.Common.{◌*◌, refl, sym, ap, ◌∙◌, subst, if◌then◌else◌, arith}
use Rattle.rtcp_guarded.specs.Views.{guarded_value}
use Rattle.rtcp_serve.specs.declared.serving.Cause.TheVariants.{Done}
use Rattle.rtcp_serve.specs.Endings.{AreHeeded}
use Rattle.rtcp_serve.specs.Serving.{resting, ended}
use Rattle.rtcp_serve.specs.Sessions.{EndsAs, Reaches, led_to}
use Rattle.rtcp_serve.proofs.LinkCalls.{IsClosed, closed_after, closed_at, closes, is_leaving, is_left, is_paused, leave_told, led_as, stops, uncut_whole, walks_on}
use Rattle.rtcp_serve.proofs.serving.turns.leave.Goals as goal

pub returns-in_err-tell : goal.returns-in_err-tell
returns-in_err-tell g c = record {
  serves = (
    c.args.turns,
    uncut_whole _ _,
    λ run s reads same holds due.
        let takes = c.take-answer.ensures.takes _ refl in
        let (u, goes, walk) = leave_told run s _ _ _ _ _ _ _ _ _ holds due c.next_u32.ensures
        (takes.answer s.history holds.participant) (takes.stands s.history holds.participant)
        (c.tell.ensures.leads run resting (ended Done) _ _) in (
          _,
          λ most before heeded. heeded,
          closes goes walk (stops
              (λ r. Reaches (led_to resting (ended Done) (guarded_value c.take-answer.result)) r walk.reached)
              (λ r. IsClosed run walk.reached (EndsAs r)) c.from_residual.result c.in_err-tell.was
              c.from_residual.ensures.1 (closed_at run walk.reached) walk.ends),
        ),
  );
  later = c.tell.ensures.later;
}

pub make_turns-requires-clause-room : goal.make_turns-requires-clause-room
make_turns-requires-clause-room g c = c.tell.ensures.room (c.args.turns * 5) c.requires.room

pub returns-then-was_taken : goal.returns-then-was_taken
returns-then-was_taken g c = let (further, cut, leads) = c.make_turns.ensures.leads in record {
  serves = (
    further,
    cut,
    λ run s reads same holds due.
        let takes = c.take-answer.ensures.takes _ refl in
        let (u, goes, walk) = leave_told run s _ _ _ _ _ _ _ _ _ holds due c.next_u32.ensures
        (takes.answer s.history holds.participant) (takes.stands s.history holds.participant)
        (c.tell.ensures.leads run resting (ended Done) _ _) in
        let stage = led_to resting (ended Done) (guarded_value c.take-answer.result) in
        let rests = subst (λ r. Reaches stage r walk.reached) c.in_ok-tell.was walk.ends
        ∙ led_as resting (ended Done) c.take-answer.result ∙ ap (λ b. if b then resting else ended Done)
        (sym c.is_ok-was_taken.ensures.value ∙ c.if-was_taken.true) in
        let (left, pauses, heeds, more) = leads run walk.reached reads walk.holds rests (is_left walk ∙ same)
        (is_leaving walk) in
        let whole = walks_on walk more in (
          pauses,
          λ most before heeded. heeds most before (subst (AreHeeded _ most before) (sym (is_paused walk)) heeded),
          closes goes whole (closed_after run whole.reached c.make_turns.result whole.ends
              (is_leaving whole ∙ is_leaving walk)),
        ),
  );
  later = omega (arith, c.tell.ensures.later, c.make_turns.ensures.later);
}

pub returns-else-was_taken : goal.returns-else-was_taken
returns-else-was_taken g c = record {
  serves = (
    c.args.turns,
    uncut_whole _ _,
    λ run s reads same holds due.
        let takes = c.take-answer.ensures.takes _ refl in
        let (u, goes, walk) = leave_told run s _ _ _ _ _ _ _ _ _ holds due c.next_u32.ensures
        (takes.answer s.history holds.participant) (takes.stands s.history holds.participant)
        (c.tell.ensures.leads run resting (ended Done) _ _) in
        let stage = led_to resting (ended Done) (guarded_value c.take-answer.result) in
        let refused = subst (λ r. Reaches stage r walk.reached) c.in_ok-tell.was walk.ends
        ∙ led_as resting (ended Done) c.take-answer.result ∙ ap (λ b. if b then resting else ended Done)
        (sym c.is_ok-was_taken.ensures.value ∙ c.if-was_taken.false) in
        (_, λ most before heeded. heeded, closes goes walk (closed_at run walk.reached refused)),
  );
  later = c.tell.ensures.later;
}
