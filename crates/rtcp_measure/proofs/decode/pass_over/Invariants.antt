use Rattle.std.proofs.Common.{length}
use Rattle.rtcp_measure.proofs.decode.pass_over.Given as goal

abbrev pub invariant-datagrams : goal.invariant-datagrams
invariant-datagrams l = Unit {0}

abbrev pub decreases-datagrams : goal.decreases-datagrams
decreases-datagrams l = length l.left
