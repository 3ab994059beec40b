use Rattle.rtcp_parts.specs.Placed.{PlacesGoodbye}
use Rattle.jalwedd_host.specs.Parts.{ShowsGoodbye}
use Rattle.jalwedd_host.proofs.Walking.{shown_at}
use Rattle.jalwedd_c.proofs.parts.jalwedd_goodbye.Goals as goal

pub returns : goal.returns
returns c = shown_at PlacesGoodbye ShowsGoodbye c.args.datagram.now c.show_at.ensures.tells
