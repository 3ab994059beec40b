use Rattle.std.proofs.Common.{◌-◌}
use Rattle.rtcp_wire.specs.Summaries.{sender_of}
use Rattle.rtcp_wire.specs.Walks.{chunks_in}
use Rattle.rtcp_wire.proofs.Passing.{HasTakenChunks}
use Rattle.rtcp_wire.proofs.Summing.{LeavesChunks}
use Rattle.rtcp_wire.proofs.validity.chunks.check_chunks.Given as goal

-- As many chunks as turns were taken, and are summed up.
abbrev pub invariant-loop : goal.invariant-loop
invariant-loop l = record {
  taken : HasTakenChunks l.counter l.body l.reader;
  summed : LeavesChunks (sender_of l.datagram) l.initial.summary l.summary (chunks_in l.count l.body)
      (chunks_in (l.count - l.counter) l.reader);
}
