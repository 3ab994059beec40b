use Rattle.rtcp_parts.specs.Placed.{PlacesItem}
use Rattle.jalwedd_host.specs.Parts.{ShowsItem}
use Rattle.jalwedd_host.proofs.Walking.{shown_at}
use Rattle.jalwedd_c.proofs.parts.jalwedd_sdes_item.Goals as goal

pub returns : goal.returns
returns c = shown_at PlacesItem ShowsItem c.args.datagram.now c.show_at.ensures.tells
