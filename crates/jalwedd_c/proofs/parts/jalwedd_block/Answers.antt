use Rattle.rtcp_parts.specs.Cursors.{ShowsReported}
use Rattle.jalwedd_host.specs.Readings.{ShowsBlock}
use Rattle.jalwedd_host.proofs.Walking.{shown_at}
use Rattle.jalwedd_c.proofs.parts.jalwedd_block.Goals as goal

pub returns : goal.returns
returns c = shown_at (λ datagram. ShowsReported) (λ datagram. ShowsBlock) c.args.datagram.now c.show_at.ensures.tells
