-- What is written is the text so far, and what the next line's answer wrote.
use Rattle.std.proofs.Common.{ℕ, ◌+◌, ◌++◌, ◌∙◌, Err, refl, subst}
use Rattle.std.proofs.KnownBytes.{Appends-trans}
use Rattle.rtcp_text.specs.Progress.{LineLeaves, Lengthens, PartLeaves}
use Rattle.rtcp_text.proofs.CountedLemmas.{zero_unless}
use Rattle.rtcp_text.proofs.ProgressLemmas.{at_exit, some_from_test, block_refused, turn_failed, turn_answered, IsBetween-answered}
use Rattle.rtcp_text.proofs.lines.LineCutter.take_block.Goals as goal

pub loop-rest-preserved : goal.loop-rest-preserved
loop-rest-preserved g c =
    let so_far = c.loop-rest.invariant.written in
    let answer = c.in_ok-answer_with.ensures.written in
    let next = turn_answered c.args.self.now.most g.A.Answerer.answers g.A.Answerer.refuses _ _ _ _
    c.args.self.now.pending.items so_far.0 c.loop-rest.rest.now c.args.block.now
    c.loop-rest.self.pending.items so_far.1 so_far.4 so_far.2
    tt c.in-Some.field-0-0.now c.answer_with.new.self.answered c.loop-rest.self.answered c.loop-rest.self.answerer
    c.answer_with.new.self.answerer
    c.split_line.result.0.now c.split_line.result.1.now c.in-Some.others.now
    (c.loop-rest.self.pending.items ++ c.split_line.result.0.now) c.answer_with.new.self.pending.items answer.0
    c.loop-rest.invariant.between.part c.split_line.ensures.part c.split_line.ensures.parts c.in-Some.ensures.cases.0
    c.split_line.ensures.feed
    refl refl refl c.in_ok-answer_with.ensures.answered c.in_ok-answer_with.ensures.pending
    (rw c.loop-rest.invariant.most at answer.2) in
    record {
      between = IsBetween-answered _ _ _ _ _ (rw c.loop-rest.invariant.most at c.in_ok-answer_with.ensures.few) refl
          c.in_ok-answer_with.ensures.answered c.in_ok-answer_with.ensures.pending;
      most = c.answer_with.ensures.most ∙ c.loop-rest.invariant.most;
      unfailed = zero_unless _ (λ failed. let wrong = c.in_ok-answer_with.ensures.failed.1 failed in cc);
      written = (_, so_far.1 ++ answer.0, next.0, Appends-trans _ _ _ so_far.1 answer.0 so_far.3 answer.1, next.1);
    }

pub returns-in_err-append-clause-written : goal.returns-in_err-append-clause-written
returns-in_err-append-clause-written g c =
    let so_far = c.loop-rest.invariant.written in
    let some = some_from_test _ c.loop-rest.rest.now c.loop-rest-test.true c.is_empty.ensures in
    let fault = c.in_err-append.field-0.0 in
    let cutter = c.append.new.self in
    let octets = c.args.self.now.pending.items ++ c.args.block.now in (
      so_far.1,
      so_far.3,
      at_exit
          (λ r. PartLeaves c.args.self.now.most g.A.Answerer.answers g.A.Answerer.refuses r c.args.self.now.answered
          c.args.self.now.answerer octets cutter.answered cutter.answerer
          cutter.pending.items so_far.1)
          c.from_residual.result fault c.from_residual.ensures.1
          (block_refused c.args.self.now.most g.A.Answerer.answers g.A.Answerer.refuses _ _ _ _
          c.args.self.now.pending.items so_far.0 c.loop-rest.rest.now c.args.block.now
          c.loop-rest.self.pending.items so_far.1 so_far.4 so_far.2
          fault cutter.answered cutter.answerer c.split_line.result.0.now c.split_line.result.1.now cutter.pending.items
          cutter.pending.items
          c.loop-rest.invariant.between.part c.split_line.ensures.part c.split_line.ensures.parts some
          (subst (λ (m : ℕ). Lengthens m {A = Unit {0}} (Err fault) c.loop-rest.self.answered
          c.loop-rest.self.pending.items
          c.split_line.result.0.now cutter.pending.items) c.loop-rest.invariant.most c.in_err-append.ensures.longer)),
    )

pub returns-in_err-answer_with-clause-written : goal.returns-in_err-answer_with-clause-written
returns-in_err-answer_with-clause-written g c =
    let so_far = c.loop-rest.invariant.written in
    let answer = c.in_err-answer_with.ensures.written in
    let fault = c.in_err-answer_with.field-0.0 in
    let cutter = c.answer_with.new.self in
    let octets = c.args.self.now.pending.items ++ c.args.block.now in
    let text = so_far.1 ++ answer.0 in (
      text,
      Appends-trans _ _ _ so_far.1 answer.0 so_far.3 answer.1,
      at_exit
          (λ r. PartLeaves c.args.self.now.most g.A.Answerer.answers g.A.Answerer.refuses r c.args.self.now.answered
          c.args.self.now.answerer octets cutter.answered cutter.answerer
          cutter.pending.items text)
          c.from_residual-in_err-answer_with.result fault c.from_residual-in_err-answer_with.ensures.1
          (turn_failed c.args.self.now.most g.A.Answerer.answers g.A.Answerer.refuses _ _ _ _
          c.args.self.now.pending.items so_far.0 c.loop-rest.rest.now c.args.block.now
          c.loop-rest.self.pending.items so_far.1 so_far.4 so_far.2
          fault c.in-Some.field-0-0.now cutter.answered c.loop-rest.self.answered c.loop-rest.self.answerer
          cutter.answerer
          c.split_line.result.0.now c.split_line.result.1.now c.in-Some.others.now
          (c.loop-rest.self.pending.items ++ c.split_line.result.0.now) cutter.pending.items answer.0
          c.loop-rest.invariant.between.part c.split_line.ensures.part c.split_line.ensures.parts
          c.in-Some.ensures.cases.0 c.split_line.ensures.feed
          refl refl refl
          (subst (λ (m : ℕ). LineLeaves m g.A.Answerer.answers g.A.Answerer.refuses {A = Unit {0}} (Err fault)
          (c.loop-rest.self.answered + 1) c.loop-rest.self.answerer
          (c.loop-rest.self.pending.items ++ c.split_line.result.0.now) answer.0 cutter.answerer)
          c.loop-rest.invariant.most answer.2)),
    )
