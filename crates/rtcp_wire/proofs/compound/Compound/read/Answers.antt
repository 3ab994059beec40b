use Rattle.std.proofs.Common.{Err, ap}
use Rattle.rtcp_wire.proofs.LawLemmas.{accepted_or_faulty-never_both, one_fault, walks_read_encodings}
use Rattle.rtcp_wire.proofs.ReadingWalks.{accepted_as_read}
use Rattle.rtcp_wire.proofs.compound.Compound.read.Goals as goal

pub invariant_of-result : goal.invariant_of-result
invariant_of-result c = (accepted_as_read c.args.datagram.now c.in-Ok.ensures.valid, c.in-Ok.ensures.sums)

pub returns-in-Ok-clause-accepted : goal.returns-in-Ok-clause-accepted
returns-in-Ok-clause-accepted c = accepted_as_read c.args.datagram.now c.in-Ok.ensures.valid

pub returns-in-Ok-clause-reads : goal.returns-in-Ok-clause-reads
returns-in-Ok-clause-reads c = λ packets accepted. walks_read_encodings c.args.datagram.now packets accepted

pub returns-in-Ok-clause-finds : goal.returns-in-Ok-clause-finds
returns-in-Ok-clause-finds c =
    λ fault first. absurd (accepted_or_faulty-never_both c.args.datagram.now c.in-Ok.ensures.valid.0 fault
    c.in-Ok.ensures.valid.1 first)

pub returns-in-Err-clause-reads : goal.returns-in-Err-clause-reads
returns-in-Err-clause-reads c = λ packets accepted. accepted_or_faulty-never_both c.args.datagram.now packets
    c.in-Err.fault accepted c.in-Err.ensures.valid

pub returns-in-Err-clause-finds : goal.returns-in-Err-clause-finds
returns-in-Err-clause-finds c =
    λ fault first. ap Err (one_fault c.args.datagram.now c.in-Err.fault fault c.in-Err.ensures.valid first)
