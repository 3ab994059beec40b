use Rattle.std.proofs.Common.{Ok}
use Rattle.rtcp_engine.proofs.Arriving.{as_packet}
use Rattle.rtcp_engine.proofs.participant.Participant.take_rtp_into.Goals as goal

pub returns : goal.returns
returns g c = record {
  takes = as_packet c.args.inspected.octets.now (Ok c.args.inspected.head) c.requires.read
      c.arrive_once_read.ensures.takes;
  spares = c.arrive_once_read.ensures.spares;
  writes = c.arrive_once_read.ensures.writes;
}
