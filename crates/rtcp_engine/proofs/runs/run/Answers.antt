use Rattle.std.proofs.Common.{◌≡◌, ◌++◌, ◌+◌, ◌-◌, ◌∙◌, ℕ, List, [], ◌∷◌, length, map, take, ap, sym, subst, arith}
use Rattle.std.proofs.lemmas.List.{append_assoc, length-append}
use Rattle.rtcp_engine.specs.answers.Acts.{act_of, AnswerValue, act_told}
use Rattle.rtcp_engine.specs.answers.Histories.{History}
use Rattle.rtcp_engine.specs.answers.Answers.{answer_of, answers_to, followed_by_all}
use Rattle.rtcp_engine.specs.declared.event.Event.{Event}
use Rattle.rtcp_engine.specs.state.Views.{answer_value, event_value}
use Rattle.rtcp_engine.specs.bounds.Runs.{HandsOver, taken_since}
use Rattle.rtcp_engine.specs.state.States.{StandsAt}
use Rattle.rtcp_engine.proofs.HandingOver.{hands_over}
use Rattle.rtcp_engine.proofs.OneMore.{answers_more, followed_more, next_act, of_error, of_no_error}
use Rattle.rtcp_engine.proofs.runs.run.Goals as goal

pub returns-then-is_err-clause-stands : goal.returns-then-is_err-clause-stands
returns-then-is_err-clause-stands g c history h =
    let next = next_act c.args.events.now c.events.taken c.events.event-index c.events.invariant.count
    c.events-test.true in
    let told = followed_by_all history (take c.events.taken (map act_told c.args.events.now)) in
    subst (λ (hs : History). StandsAt c.tell-answer.new.self hs)
    (sym (ap (followed_by_all history) next.more
    ∙ followed_more history (take c.events.taken (map act_told c.args.events.now)) next.act))
    ((c.tell-answer.ensures.takes next.act
    (subst (λ (event : Event). next.act ≡ act_of (event_value event)) (sym c.event-item.is)
    (next.is_act c.event-item.result))).stands told (c.events.invariant.stands history h))

pub returns-then-is_err-clause-sends : goal.returns-then-is_err-clause-sends
returns-then-is_err-clause-sends g c history h =
    let some = sym c.is_err.ensures.value ∙ c.if-is_err.true in
    let one_less : c.events.taken ≡ c.events.taken + 1 - 1 = omega arith in
    let given = taken_since (g.S.Sink.content c.args.sink.now) (g.S.Sink.content c.put.new.self) in
    subst (λ (n : ℕ). HandsOver history (take n (map act_told c.args.events.now)) given) one_less
    (hands_over history _ _ _
    (of_error c.put.result some c.put.ensures.lost ∙ c.events.invariant.told history h)
    (c.events.invariant.stands history h).is_history)

pub returns-clause-sends : goal.returns-clause-sends
returns-clause-sends g c history h =
    let all : c.events.taken ≡ c.events.taken - 0 = omega arith in
    let given = taken_since (g.S.Sink.content c.args.sink.now) (g.S.Sink.content c.events.sink) in
    subst (λ (n : ℕ). HandsOver history (take n (map act_told c.args.events.now)) given) all (hands_over history _ _ _
    (c.events.invariant.told history h) (c.events.invariant.stands history h).is_history)

pub events-preserved : goal.events-preserved
events-preserved g c =
    let none = sym c.is_err.ensures.value ∙ c.if-is_err.false in
    record {
      count = ap (λ n. n + 1) c.events.invariant.count;
      refusals = of_no_error c.put.result none c.put.ensures.none ∙ c.events.invariant.refusals;
      handed = ap length (of_no_error c.put.result none c.put.ensures.taken)
          ∙ length-append _ (answer_value c.tell-answer.result ∷ [])
          ∙ omega (arith, c.events.invariant.handed);
      within = λ before. c.tell-answer.ensures.spares.within;
      told = λ history h.
          let next = next_act c.args.events.now c.events.taken c.events.event-index c.events.invariant.count
          c.events-test.true in
          let told = followed_by_all history (take c.events.taken (map act_told c.args.events.now)) in
          let before = answers_to history (take c.events.taken (map act_told c.args.events.now)) in
          let one = (c.tell-answer.ensures.takes next.act
          (subst (λ (event : Event). next.act ≡ act_of (event_value event)) (sym c.event-item.is)
          (next.is_act c.event-item.result))).answer told
          (c.events.invariant.stands history h) in
          let start = g.S.Sink.content c.args.sink.now in
          of_no_error c.put.result none c.put.ensures.taken
          ∙ ap (λ (answers : List AnswerValue). answers ++ answer_value c.tell-answer.result ∷ [])
          (c.events.invariant.told history h)
          ∙ ap (λ (answer : AnswerValue). (start ++ before) ++ answer ∷ []) one
          ∙ append_assoc start before (answer_of told next.act ∷ [])
          ∙ sym (ap (λ (answers : List AnswerValue). start ++ answers)
          (ap (answers_to history) next.more
          ∙ answers_more history (take c.events.taken (map act_told c.args.events.now)) next.act));
      stands = λ history h.
          let next = next_act c.args.events.now c.events.taken c.events.event-index c.events.invariant.count
          c.events-test.true in
          let told = followed_by_all history (take c.events.taken (map act_told c.args.events.now)) in
          subst (λ (hs : History). StandsAt c.tell-answer.new.self hs)
          (sym (ap (followed_by_all history) next.more
          ∙ followed_more history (take c.events.taken (map act_told c.args.events.now)) next.act))
          ((c.tell-answer.ensures.takes next.act
          (subst (λ (event : Event). next.act ≡ act_of (event_value event)) (sym c.event-item.is)
          (next.is_act c.event-item.result))).stands told
          (c.events.invariant.stands history h));
    }
