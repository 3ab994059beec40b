-- An entry of which a block is due counts among those, and is due no more once the block is made.
use Rattle.std.proofs.Common.{refl}
use Rattle.rtcp_members.proofs.sorted.Placing.{recounted_reported}
use Rattle.rtcp_members.proofs.counts.Counts.report.Goals as goal

pub returns-clause-recounted : goal.returns-clause-recounted
returns-clause-recounted c =
    recounted_reported c.args.entry.now c.report.new.self c.report.ensures.value c.requires.due c.args.self.now _
    c.requires.among refl refl refl
