-- The end is answered where nothing is pending, and otherwise by the pending line's answer.
use Rattle.std.proofs.Common.{◌≡◌, ◌<◌, [], length, arith}
use Rattle.std.proofs.KnownBytes.{Appends-nil}
use Rattle.std.proofs.lemmas.Bool.Decides.{nat_tests}
use Rattle.rtcp_text.proofs.ProgressLemmas.{EndLeaves-none, EndLeaves-line}
use Rattle.rtcp_text.proofs.lines.LineCutter.finish.Goals as goal

pub returns-then-is_empty-clause-written : goal.returns-then-is_empty-clause-written
returns-then-is_empty-clause-written g c =
    let pending = c.args.self.now.pending in
    let none : length pending.items ≡ 0 = grind (arith, nat_tests, pending.ok.0) in (
      [],
      Appends-nil _,
      EndLeaves-none c.args.self.now.most g.A.Answerer.answers g.A.Answerer.refuses tt _ _
          pending.items none,
    )

pub returns-clause-written : goal.returns-clause-written
returns-clause-written g c =
    let pending = c.args.self.now.pending in
    let some : 0 < length pending.items = grind (arith, nat_tests, pending.ok.0) in
    let written = c.answer.ensures.written in (
      written.0,
      written.1,
      EndLeaves-line c.args.self.now.most g.A.Answerer.answers g.A.Answerer.refuses _ _ _ _
          pending.items written.0 c.requires.between.part some written.2,
    )
