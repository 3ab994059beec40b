use Rattle.rtcp_parts.specs.Senders.{ShowsSender as SaysSender}
use Rattle.jalwedd_host.specs.Parts.{ShowsSender}
use Rattle.jalwedd_host.proofs.Walking.{shown_at}
use Rattle.jalwedd_c.proofs.parts.jalwedd_sender.Goals as goal

pub returns : goal.returns
returns c = shown_at (λ datagram. SaysSender) (λ datagram. ShowsSender) c.args.datagram.now c.show_at.ensures.tells
