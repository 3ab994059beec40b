use Rattle.std.proofs.Common.{append_assoc}
use Rattle.rtcp_command.proofs.ends.push_sendings.Goals as goal

pub returns : goal.returns
returns c = simp append_assoc (simp append_assoc at (rw c.in_ok-push_count.ensures at c.push_count-2.ensures))
