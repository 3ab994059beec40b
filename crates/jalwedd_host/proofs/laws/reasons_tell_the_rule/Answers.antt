use Rattle.jalwedd_host.proofs.HeadReasons as heads
use Rattle.jalwedd_host.proofs.Reasons as compounds
use Rattle.jalwedd_host.proofs.laws.reasons_tell_the_rule.Goals as goal

pub returns-clause-compounds : goal.returns-clause-compounds
returns-clause-compounds c = compounds.same_rule

pub returns-clause-heads : goal.returns-clause-heads
returns-clause-heads c = heads.same_rule

pub returns-clause-apart : goal.returns-clause-apart
returns-clause-apart c = heads.apart
