use Rattle.std.proofs.Common.{Ok}
use Rattle.rtcp_engine.proofs.Arriving.{as_compound}
use Rattle.rtcp_engine.proofs.Following.{few_named}
use Rattle.rtcp_engine.proofs.participant.Participant.take_rtcp_into.Goals as goal

pub arrive_once_read-requires-clause-few : goal.arrive_once_read-requires-clause-few
arrive_once_read-requires-clause-few g c =
    few_named c.args.inspected.octets.now c.args.inspected.compound c.requires.read

pub returns : goal.returns
returns g c = record {
  takes = as_compound c.args.inspected.octets.now (Ok c.args.inspected.compound) c.requires.read
      c.arrive_once_read.ensures.takes;
  spares = c.arrive_once_read.ensures.spares;
  writes = c.arrive_once_read.ensures.writes;
}
