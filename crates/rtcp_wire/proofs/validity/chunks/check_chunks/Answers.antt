use Rattle.std.proofs.Common.{arith}
use Rattle.rtcp_wire.specs.Summaries.{sender_of}
use Rattle.rtcp_wire.proofs.Passing.{no_chunk_taken, chunk_taken, all_chunks}
use Rattle.rtcp_wire.proofs.Summing.{no_chunk_summed, chunk_left, all_chunks_summed}
use Rattle.rtcp_wire.proofs.validity.chunks.check_chunks.Goals as goal

pub loop-init : goal.loop-init
loop-init c = rw c.new-reader.ensures (record {
  taken = no_chunk_taken c.args.body.now c.requires.words;
  summed = no_chunk_summed (sender_of c.args.datagram.now) c.args.count c.args.summary.now c.args.body.now;
})

pub loop-preserved : goal.loop-preserved
loop-preserved c = record {
  taken = chunk_taken c.loop.counter c.args.body.now c.loop.reader c.pass_chunk.new.reader c.loop.invariant.taken
      c.in-Some.ensures.valid.0 c.in-Some.ensures.valid.1;
  summed = chunk_left (sender_of c.args.datagram.now) c.args.count c.loop.counter c.args.body.now c.loop.reader
      c.pass_chunk.new.reader c.args.summary.now c.loop.summary c.pass_chunk.new.summary (omega arith)
      c.loop.invariant.summed c.in-Some.ensures.valid.0 c.in-Some.ensures.sums;
}

pub returns-clause-valid : goal.returns-clause-valid
returns-clause-valid c = all_chunks c.loop.counter c.args.count c.args.body.now c.loop.reader c.loop.invariant.taken
    (omega arith) (omega arith)

pub returns-clause-sums : goal.returns-clause-sums
returns-clause-sums c = all_chunks_summed (sender_of c.args.datagram.now) c.args.count c.loop.counter c.args.body.now
    c.loop.reader c.args.summary.now c.loop.summary c.loop.invariant.summed (omega arith)
