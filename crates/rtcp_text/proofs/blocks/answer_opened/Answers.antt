-- The opening comes first, or a prefix of it, and what the answers leave comes after it.
use Rattle.rtcp_text.specs.Counted.{inner_of}
use Rattle.rtcp_text.specs.Lines.{IsTextFrom, Writes}
use Rattle.rtcp_text.specs.Opened.{OpenedRunLeaves}
use Rattle.rtcp_text.proofs.OpenedLemmas.{Writes-cut, Writes-opened}
use Rattle.rtcp_text.proofs.ProgressLemmas.{at_exit}
use Rattle.rtcp_text.proofs.blocks.answer_opened.Goals as goal

pub returns-in_err-write_whole-clause-leaves : goal.returns-in_err-write_whole-clause-leaves
returns-in_err-write_whole-clause-leaves g c =
    let written = c.in_err-write_whole.ensures.written in
    let fault = c.in_err-write_whole.field-0.0 in
    let remaining = g.R.Read.remaining (inner_of c.args.reader.now) in
    let held = g.W.Write.contents (inner_of c.args.writer.now) in
    let holds = g.W.Write.contents (inner_of c.write_whole.new.writer) in
    let IsAnswered = IsTextFrom c.args.lines g.A.Answerer.answers g.A.Answerer.refuses 1 c.args.answerer in
    at_exit (λ r. Writes remaining held holds (OpenedRunLeaves c.args.opening.now IsAnswered r remaining))
    c.from_residual.result fault c.from_residual.ensures.1
    (Writes-cut c.args.opening.now IsAnswered (Unit {0}) fault remaining held holds remaining written.0 written.1
    written.2 written.4 c.in_err-write_whole.ensures.only)

pub returns-clause-leaves : goal.returns-clause-leaves
returns-clause-leaves g c =
    let written = c.in_ok-write_whole.ensures.written in
    let remaining = g.R.Read.remaining (inner_of c.args.reader.now) in
    let held = g.W.Write.contents (inner_of c.args.writer.now) in
    let holds = g.W.Write.contents (inner_of c.write_whole.new.writer) in
    let last = g.W.Write.contents (inner_of c.answer_blocks.new.writer) in
    let left = g.R.Read.remaining (inner_of c.answer_blocks.new.reader) in
    Writes-opened c.args.opening.now
    (IsTextFrom c.args.lines g.A.Answerer.answers g.A.Answerer.refuses 1 c.args.answerer) c.answer_blocks.result
    remaining
    held holds last left written.0 written.1 written.2 written.3 written.4 c.answer_blocks.ensures.leaves
