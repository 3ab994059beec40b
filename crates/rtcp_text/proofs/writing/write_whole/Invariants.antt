use Rattle.std.proofs.Common.{◌≡◌, ◌++◌, ℕ, List, length}
use Rattle.std.specs.Io.KnownBytes.{Appends}
use Rattle.rtcp_text.specs.Counted.{failures_of, inner_of}
use Rattle.rtcp_text.proofs.writing.write_whole.Given as goal

-- a prefix of the text is written, and the rest is left
abbrev pub invariant-loop-rest : goal.invariant-loop-rest
invariant-loop-rest g l = record {
  unfailed : failures_of l.writer ≡ 0;
  written : (prefix : List ℕ) × (l.text ≡ prefix ++ l.rest)
      × Appends (g.W.Write.contents (inner_of l.initial.writer)) (g.W.Write.contents (inner_of l.writer)) prefix;
}

abbrev pub decreases-loop-rest : goal.decreases-loop-rest
decreases-loop-rest g l = length l.rest
