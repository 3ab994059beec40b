-- What a writer that counts holds, the writer inside it holds.
use Rattle.std.proofs.Common.{Err, inl, inr, ap, sym, ◌∙◌}
use Rattle.rtcp_text.specs.Counted.{inner_of}
use Rattle.rtcp_command.proofs.StatusLemmas.{Writes-inner, refuses}
use Rattle.rtcp_command.proofs.command.command.Goals as goal

pub returns-in-Ok-clause-whole : goal.returns-in-Ok-clause-whole
returns-in-Ok-clause-whole g c = λ zero. (
  inner_of c.run.new.writer,
  Writes-inner g.R.Read.remaining g.W.Write.contents c.new-reader.result c.new-writer.result c.run.new.writer
      c.args.reader c.args.writer _
      c.new-reader.ensures.inner c.new-writer.ensures.inner c.in-Ok.ensures.answers.whole,
)

pub returns-clause-refused : goal.returns-clause-refused
returns-clause-refused g c = λ two.
    elim (refuses c.in-Err.fault (sym c.fail.ensures ∙ two)) [
      | inl config ↦ inl (config.0, c.in-Err.ensures.answers.config config.0 (ap Err config.1))
      | inr text ↦ inr (
        inner_of c.run.new.writer,
        text.0,
        text.1,
        Writes-inner g.R.Read.remaining g.W.Write.contents c.new-reader.result c.new-writer.result c.run.new.writer
            c.args.reader c.args.writer _
            c.new-reader.ensures.inner c.new-writer.ensures.inner
            (c.in-Err.ensures.answers.refused text.0 text.1 (ap Err text.2)),
      )
    ]
