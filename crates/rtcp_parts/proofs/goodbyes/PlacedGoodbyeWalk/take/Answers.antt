-- The walk is ready for the source that it takes.
use Rattle.rtcp_parts.proofs.Calls.{ready_takes}
use Rattle.rtcp_parts.proofs.goodbyes.PlacedGoodbyeWalk.take.Goals as goal

pub returns-clause-takes : goal.returns-clause-takes
returns-clause-takes c =
    ready_takes c.args.datagram.now c.args.cursor.now c.ready.result _ c.requires.begun c.ready.ensures _
    c.take_source.ensures.takes
