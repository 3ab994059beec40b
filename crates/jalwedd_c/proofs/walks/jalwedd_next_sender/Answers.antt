use Rattle.rtcp_parts.specs.Senders.{ShowsSender as SaysSender}
use Rattle.jalwedd_host.specs.Parts.{ShowsSender}
use Rattle.jalwedd_host.proofs.Walking.{shown_next}
use Rattle.jalwedd_c.proofs.walks.jalwedd_next_sender.Goals as goal

pub returns : goal.returns
returns c = shown_next (λ datagram. SaysSender) (λ datagram. ShowsSender) c.args.datagram.now c.show_next.ensures.tells
