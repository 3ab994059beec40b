use Rattle.std.proofs.Common.{codes}
use Rattle.std.specs.Fmt.{decimal}
use Rattle.rtcp_command.proofs.ReplayCommandLemmas.{pair}
use Rattle.rtcp_command.proofs.replay_command.push_bandwidths.Goals as goal

pub returns : goal.returns
returns c = pair _ _ (codes " --sender-bw ") (decimal c.args.config.now.sender_bw) (codes " --receiver-bw ")
    (decimal c.args.config.now.receiver_bw) _ _ c.in_ok-push_number.ensures c.push_number-2.ensures
