-- A packet that is told is one of the datagram's own.
use Rattle.rtcp_parts.specs.Placed.{PlacesApp}
use Rattle.jalwedd_host.specs.Apps.{ShowsApp}
use Rattle.jalwedd_host.proofs.Walking.{shown_next}
use Rattle.jalwedd_c.proofs.walks.jalwedd_next_app.Goals as goal

pub returns-clause-tells : goal.returns-clause-tells
returns-clause-tells c = shown_next PlacesApp ShowsApp c.args.datagram.now c.show_next.ensures.tells

pub returns-clause-own : goal.returns-clause-own
returns-clause-own c = record {
  stays = λ here. (c.show_next.ensures.own (tt {0}) here).0;
  own = λ here. (c.show_next.ensures.own (tt {0}) here).1;
}
