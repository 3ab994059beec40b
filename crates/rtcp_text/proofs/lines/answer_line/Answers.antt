-- Nothing is written of an answer that was not made, and a prefix of one that was.
use Rattle.std.proofs.Common.{[], sym, ◌∙◌}
use Rattle.std.proofs.KnownBytes.{Appends-nil}
use Rattle.rtcp_text.specs.Progress.{LineLeaves}
use Rattle.rtcp_text.proofs.ProgressLemmas.{at_exit, LineLeaves-failed, LineLeaves-written}
use Rattle.rtcp_text.proofs.lines.answer_line.Goals as goal

pub returns-in_err-compose-clause-written : goal.returns-in_err-compose-clause-written
returns-in_err-compose-clause-written g c =
    let answers = g.A.Answerer.answers in
    let refuses = g.A.Answerer.refuses in
    let line = c.args.line.now in
    let fault = c.in_err-compose.field-0.0 in
    let after = c.compose.new.self in (
      [],
      Appends-nil _,
      at_exit (λ r. LineLeaves c.args.most answers refuses r c.args.number c.args.answerer.now line [] after)
          c.from_residual.result fault c.from_residual.ensures.1
          (LineLeaves-failed c.args.most answers refuses fault c.args.number c.args.answerer.now after after line
          c.compose.new.text.items c.requires.few c.requires.short c.in_err-compose.ensures),
    )

pub returns-clause-written : goal.returns-clause-written
returns-clause-written g c =
    let written = c.write_whole.ensures.written in (
      written.0,
      written.4,
      LineLeaves-written c.args.most g.A.Answerer.answers g.A.Answerer.refuses c.write_whole.result c.args.number
          c.args.answerer.now c.compose.new.self c.args.line.now
          c.compose.new.text.items written.0 written.1 c.requires.few c.requires.short c.in_ok-compose.ensures
          c.write_whole.ensures.only written.3
          (sym c.deref.ensures.value ∙ written.2),
    )
