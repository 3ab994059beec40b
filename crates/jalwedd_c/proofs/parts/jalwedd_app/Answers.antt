-- The packet that is told is one of the datagram's own.
use Rattle.rtcp_parts.specs.Placed.{PlacesApp}
use Rattle.jalwedd_host.specs.Apps.{ShowsApp}
use Rattle.jalwedd_host.proofs.OwnWalks.{own_located}
use Rattle.jalwedd_host.proofs.Walking.{shown_at}
use Rattle.jalwedd_c.proofs.parts.jalwedd_app.Goals as goal

pub returns : goal.returns
returns c =
    own_located c.args.datagram.now c.args.index c.show_at.result c.args.app.now c.show_at.new.place
    (shown_at PlacesApp ShowsApp c.args.datagram.now c.show_at.ensures.tells) (c.show_at.ensures.own (tt {0}))
