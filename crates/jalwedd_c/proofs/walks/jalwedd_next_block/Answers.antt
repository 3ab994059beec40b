use Rattle.rtcp_parts.specs.Cursors.{ShowsReported}
use Rattle.jalwedd_host.specs.Readings.{ShowsBlock}
use Rattle.jalwedd_host.proofs.Walking.{shown_next}
use Rattle.jalwedd_c.proofs.walks.jalwedd_next_block.Goals as goal

pub returns : goal.returns
returns c = shown_next (λ datagram. ShowsReported) (λ datagram. ShowsBlock) c.args.datagram.now
    c.show_next.ensures.tells
