-- The line is refused, or answered as it stands in the block, or answered from the pending part.
use Rattle.std.proofs.Common.{◌+◌, ◌++◌, []}
use Rattle.std.proofs.KnownBytes.{Appends-nil}
use Rattle.rtcp_text.specs.Progress.{LineLeaves}
use Rattle.rtcp_text.proofs.ProgressLemmas.{at_exit, LineLeaves-refused}
use Rattle.rtcp_text.proofs.lines.LineCutter.answer_with.Goals as goal

pub returns-in_err-append-clause-written : goal.returns-in_err-append-clause-written
returns-in_err-append-clause-written g c =
    let answers = g.A.Answerer.answers in
    let refuses = g.A.Answerer.refuses in
    let cutter = c.args.self.now in
    let line = cutter.pending.items ++ c.args.piece.now in
    let fault = c.in_err-append.field-0.0 in
    let after = c.append.new.self.answerer in (
      [],
      Appends-nil _,
      at_exit (λ r. LineLeaves cutter.most answers refuses r (cutter.answered + 1) cutter.answerer line [] after)
          c.from_residual.result fault c.from_residual.ensures.1
          (LineLeaves-refused cutter.most answers refuses fault cutter.answered cutter.answerer after
          cutter.pending.items c.args.piece.now c.append.new.self.pending.items c.in_err-append.ensures.longer),
    )

pub returns-in_err-admit-clause-written : goal.returns-in_err-admit-clause-written
returns-in_err-admit-clause-written g c =
    let answers = g.A.Answerer.answers in
    let refuses = g.A.Answerer.refuses in
    let cutter = c.args.self.now in
    let line = cutter.pending.items ++ c.args.piece.now in
    let fault = c.in_err-admit.field-0.0 in (
      [],
      Appends-nil _,
      at_exit (λ r. LineLeaves cutter.most answers refuses r (cutter.answered + 1) cutter.answerer line []
          cutter.answerer) c.from_residual-in_err-admit.result fault c.from_residual-in_err-admit.ensures.1
          (LineLeaves-refused cutter.most answers refuses fault cutter.answered cutter.answerer cutter.answerer
          cutter.pending.items c.args.piece.now line c.in_err-admit.ensures.longer),
    )
