use Rattle.std.proofs.Common.{◌≡◌, ◌++◌, ℕ, List, length}
use Rattle.std.specs.Io.KnownBytes.{Appends}
use Rattle.rtcp_text.specs.Counted.{failures_of, inner_of}
use Rattle.rtcp_text.specs.Progress.{IsBetween, AnswersLines}
use Rattle.rtcp_text.proofs.lines.LineCutter.take_block.Given as goal

-- a prefix of the block is taken, and its lines are answered
abbrev pub invariant-loop-rest : goal.invariant-loop-rest
invariant-loop-rest g l = record {
  between : IsBetween l.initial.self.most l.self.answered l.self.pending.items;
  most : l.self.most ≡ l.initial.self.most;
  unfailed : failures_of l.writer ≡ 0;
  written : (prefix : List ℕ) × (text : List ℕ) × (l.block ≡ prefix ++ l.rest)
      × Appends (g.W.Write.contents (inner_of l.initial.writer)) (g.W.Write.contents (inner_of l.writer)) text
      × AnswersLines l.initial.self.most g.A.Answerer.answers g.A.Answerer.refuses l.initial.self.answered
      l.initial.self.answerer
      (l.initial.self.pending.items ++ prefix) l.self.answered l.self.answerer l.self.pending.items text;
}

abbrev pub decreases-loop-rest : goal.decreases-loop-rest
decreases-loop-rest g l = length l.rest
