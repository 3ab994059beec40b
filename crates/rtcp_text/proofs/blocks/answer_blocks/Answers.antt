-- Each turn's outcome follows from what the reader gave and what the lines' answers wrote.
use Rattle.std.proofs.Common.{ℕ, ◌++◌, ◌∙◌, ◌<◌, ◌≤◌, take, length, length-take, Ok, Err, ap, subst, sym, arith}
use Rattle.std.proofs.KnownBytes.{Consumes-trans, Appends-trans, Appends-kept}
use Rattle.rtcp_text.specs.Counted.{inner_of}
use Rattle.rtcp_text.specs.Lines.{IsTextFrom, Writes}
use Rattle.rtcp_text.specs.Progress.{PartLeaves, RunLeaves}
use Rattle.rtcp_text.proofs.CountedLemmas.{zero_unless}
use Rattle.rtcp_text.proofs.RunLemmas.{Writes-at_end, Writes-at_fault, Writes-unflushed}
use Rattle.rtcp_text.proofs.ProgressLemmas.{at_exit, PartLeaves-after}
use Rattle.rtcp_text.proofs.blocks.answer_blocks.Goals as goal

pub returns-then-count-eq0-clause-leaves : goal.returns-then-count-eq0-clause-leaves
returns-then-count-eq0-clause-leaves g c =
    let so_far = c.turns.invariant.written in
    let given = c.in-Ok.ensures.bytes in
    let written = c.finish.ensures.written in
    let cutter = c.turns.cutter in
    let room : 0 < length c.read.new.buf = omega arith in
    Writes-at_end c.args.lines g.A.Answerer.answers g.A.Answerer.refuses c.args.answerer cutter.answerer
    c.finish.result _ (g.R.Read.remaining (inner_of c.turns.reader)) _ _
    (g.W.Write.contents (inner_of c.flush.new.writer)) _
    so_far.0 cutter.pending.items so_far.1 (take c.in-Ok.count c.read.new.buf) written.0 cutter.answered
    so_far.2 (Appends-kept _ _ _ _ so_far.3 c.in_ok-flush.ensures.kept) so_far.4 given.0
    (ap (λ n. take n c.read.new.buf) c.if-count-eq0.true) (given.1 c.if-count-eq0.true room)
    c.turns.invariant.between.part written.1 (rw c.turns.invariant.most at written.2)

pub turns-preserved : goal.turns-preserved
turns-preserved g c =
    let so_far = c.turns.invariant.written in
    let given = c.in-Ok.ensures.bytes in
    let written = c.in_ok-take_block.ensures.written in
    let cutter = c.turns.cutter in
    let block = take c.in-Ok.count c.read.new.buf in
    record {
      between = rw (c.take_block.ensures.most, c.turns.invariant.most) at c.in_ok-take_block.ensures.between;
      most = c.take_block.ensures.most ∙ c.turns.invariant.most;
      size = omega arith;
      reading = omega (arith, c.in-Ok.ensures.counted);
      writing = zero_unless _ (λ failed. let wrong = c.in_ok-take_block.ensures.failed.1 failed in cc);
      written = (
        so_far.0 ++ block,
        so_far.1 ++ written.0,
        Consumes-trans _ _ _ so_far.0 block so_far.2 given.0,
        Appends-trans _ _ _ so_far.1 written.0 (Appends-kept _ _ _ _ so_far.3 c.in_ok-flush.ensures.kept) written.1,
        PartLeaves-after c.args.lines g.A.Answerer.answers g.A.Answerer.refuses 0 cutter.answered c.args.answerer
            cutter.answerer so_far.0 cutter.pending.items so_far.1 block so_far.4
            {A = Unit {0}} (Ok tt) c.take_block.new.self.answered c.take_block.new.self.answerer
            c.take_block.new.self.pending.items written.0 (rw c.turns.invariant.most at written.2),
      );
    }

pub returns-in_err-take_block-clause-leaves : goal.returns-in_err-take_block-clause-leaves
returns-in_err-take_block-clause-leaves g c =
    let so_far = c.turns.invariant.written in
    let given = c.in-Ok.ensures.bytes in
    let written = c.in_err-take_block.ensures.written in
    let fault = c.in_err-take_block.field-0.0 in
    let cutter = c.turns.cutter in
    let after = c.take_block.new.self in
    let short : length (take c.in-Ok.count c.read.new.buf) ≤ 8192 = rw length-take (omega arith) in
    let start = g.R.Read.remaining (inner_of c.args.reader.now) in
    let left = g.R.Read.remaining (inner_of c.read.new.self) in
    let held = g.W.Write.contents (inner_of c.args.writer.now) in
    let last = g.W.Write.contents (inner_of c.take_block.new.writer) in
    at_exit (λ r. Writes start held last
    (RunLeaves (IsTextFrom c.args.lines g.A.Answerer.answers g.A.Answerer.refuses 1 c.args.answerer) r left))
    c.from_residual-in_err-take_block.result fault c.from_residual-in_err-take_block.ensures.1
    (Writes-at_fault c.args.lines g.A.Answerer.answers g.A.Answerer.refuses c.args.answerer cutter.answerer
    after.answerer
    fault start (g.R.Read.remaining (inner_of c.turns.reader)) left held
    (g.W.Write.contents (inner_of c.flush.new.writer)) last
    so_far.0 cutter.pending.items so_far.1 (take c.in-Ok.count c.read.new.buf) written.0 after.pending.items
    cutter.answered after.answered
    so_far.2 (Appends-kept _ _ _ _ so_far.3 c.in_ok-flush.ensures.kept) so_far.4 given.0 c.turns.invariant.between.part
    short written.1
    (subst (λ (m : ℕ). PartLeaves m g.A.Answerer.answers g.A.Answerer.refuses {A = Unit {0}} (Err fault) cutter.answered
    cutter.answerer (cutter.pending.items ++ take c.in-Ok.count c.read.new.buf) after.answered after.answerer
    after.pending.items written.0) c.turns.invariant.most written.2))

pub returns-in_err-flush-clause-leaves : goal.returns-in_err-flush-clause-leaves
returns-in_err-flush-clause-leaves g c =
    let so_far = c.turns.invariant.written in
    let cutter = c.turns.cutter in
    let pending = cutter.pending.items in
    let start = g.R.Read.remaining (inner_of c.args.reader.now) in
    let left = g.R.Read.remaining (inner_of c.turns.reader) in
    let held = g.W.Write.contents (inner_of c.args.writer.now) in
    let last = g.W.Write.contents (inner_of c.flush.new.writer) in
    let IsText = IsTextFrom c.args.lines g.A.Answerer.answers g.A.Answerer.refuses 1 c.args.answerer in
    at_exit (λ r. Writes start held last (RunLeaves IsText r left)) c.from_residual.result c.in_err-flush.field-0.0
    c.from_residual.ensures.1
    (subst (λ f. Writes start held last (RunLeaves IsText {A = Unit {0}} (Err f) left))
    (sym c.in_err-flush.ensures.only)
    (Writes-unflushed c.args.lines g.A.Answerer.answers g.A.Answerer.refuses c.args.answerer cutter.answerer start left
    held (g.W.Write.contents (inner_of c.turns.writer)) last
    so_far.0 pending so_far.1 cutter.answered so_far.2 so_far.3 so_far.4 c.turns.invariant.between.part
    c.in_err-flush.ensures.kept))
