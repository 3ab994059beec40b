use Rattle.std.proofs.Common.{◌≡◌, ◌+◌, ◌-◌, ◌*◌, ℕ, List, length}
use Rattle.std.specs.Io.KnownBytes.{Appends, Consumes}
use Rattle.rtcp_text.specs.Counted.{failures_of, inner_of}
use Rattle.rtcp_text.specs.Progress.{IsBetween, AnswersLines}
use Rattle.rtcp_text.proofs.blocks.answer_blocks.Given as goal

-- What was read is lines, of which the answers are written, and a part of a line.
abbrev pub invariant-turns : goal.invariant-turns
invariant-turns g l = record {
  between : IsBetween l.fn.lines l.cutter.answered l.cutter.pending.items;
  most : l.cutter.most ≡ l.fn.lines;
  size : length l.block ≡ 8192;
  reading : failures_of l.reader ≡ 0;
  writing : failures_of l.writer ≡ 0;
  written : (taken : List ℕ) × (text : List ℕ)
      × Consumes (g.R.Read.remaining (inner_of l.initial.reader)) (g.R.Read.remaining (inner_of l.reader)) taken
      × Appends (g.W.Write.contents (inner_of l.initial.writer)) (g.W.Write.contents (inner_of l.writer)) text
      × AnswersLines l.fn.lines g.A.Answerer.answers g.A.Answerer.refuses 0 l.fn.answerer taken l.cutter.answered
      l.cutter.answerer
      l.cutter.pending.items text;
}

-- A line more counts as more than the longest line.
abbrev pub decreases-turns : goal.decreases-turns
decreases-turns g l = (l.fn.lines + 1) * 131201 - (l.cutter.answered * 131201 + length l.cutter.pending.items)
