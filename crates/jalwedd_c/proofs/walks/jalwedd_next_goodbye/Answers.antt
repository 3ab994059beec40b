use Rattle.rtcp_parts.specs.Placed.{PlacesGoodbye}
use Rattle.jalwedd_host.specs.Parts.{ShowsGoodbye}
use Rattle.jalwedd_host.proofs.Walking.{shown_next}
use Rattle.jalwedd_c.proofs.walks.jalwedd_next_goodbye.Goals as goal

pub returns-clause-tells : goal.returns-clause-tells
returns-clause-tells c = shown_next PlacesGoodbye ShowsGoodbye c.args.datagram.now c.show_next.ensures.tells
