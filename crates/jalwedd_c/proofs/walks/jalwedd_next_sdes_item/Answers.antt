use Rattle.rtcp_parts.specs.Placed.{PlacesItem}
use Rattle.jalwedd_host.specs.Parts.{ShowsItem}
use Rattle.jalwedd_host.proofs.Walking.{shown_next}
use Rattle.jalwedd_c.proofs.walks.jalwedd_next_sdes_item.Goals as goal

pub returns-clause-tells : goal.returns-clause-tells
returns-clause-tells c = shown_next PlacesItem ShowsItem c.args.datagram.now c.show_next.ensures.tells
