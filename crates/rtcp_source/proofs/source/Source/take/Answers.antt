-- The numbers' step is the summary's.
use Rattle.std.proofs.Common.{rules}
use Rattle.rtcp_source.proofs.Stepping.{stands_after}
use Rattle.rtcp_source.proofs.source.Source.take.Goals as goal

pub returns-in-Became-clause-step : goal.returns-in-Became-clause-step
returns-in-Became-clause-step c = search rules

pub returns-in-Became-clause-stands : goal.returns-in-Became-clause-stands
returns-in-Became-clause-stands c = stands_after c.args.seq c.args.rtp_ts c.args.arrival c.args.octets c.args.rate
    c.args.self.now _ (returns-in-Became-clause-step c)
