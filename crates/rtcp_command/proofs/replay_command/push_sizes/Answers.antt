use Rattle.std.proofs.Common.{codes}
use Rattle.std.specs.Fmt.{decimal}
use Rattle.rtcp_command.proofs.ReplayCommandLemmas.{pair}
use Rattle.rtcp_command.proofs.replay_command.push_sizes.Goals as goal

pub returns : goal.returns
returns c = pair _ _ (codes " --capacity ") (decimal c.args.config.now.capacity) (codes " --limit ")
    (decimal c.args.config.now.limit) _ _
    c.in_ok-push_number.ensures c.push_number-2.ensures
