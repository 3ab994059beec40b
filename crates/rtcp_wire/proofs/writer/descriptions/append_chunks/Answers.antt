-- Each chunk can be written and has room, and one more is appended.
use Rattle.rtcp_wire.specs.WriterViews.{chunk_ref_of}
use Rattle.rtcp_wire.specs.Writing.{written_chunk, IsWritableChunk, IsChunkInRange}
use Rattle.rtcp_wire.proofs.Appending.{one_more, room_for_one, all_here, all_more}
use Rattle.rtcp_wire.proofs.writer.descriptions.append_chunks.Goals as goal

pub append_chunk-requires-clause-writable : goal.append_chunk-requires-clause-writable
append_chunk-requires-clause-writable c = all_here IsWritableChunk chunk_ref_of c.args.chunks.now
    c.loop-chunk.chunk-index _ c.loop-chunk-test.true c.requires.writable

pub append_chunk-requires-clause-room : goal.append_chunk-requires-clause-room
append_chunk-requires-clause-room c =
    room_for_one chunk_ref_of written_chunk c.args.chunks.now c.loop-chunk.chunk-index _ c.args.buffer.now.items
    c.loop-chunk.buffer.items 1472 c.loop-chunk-test.true c.loop-chunk.invariant.0 c.requires.room

pub loop-chunk-preserved : goal.loop-chunk-preserved
loop-chunk-preserved c = (
  one_more chunk_ref_of written_chunk c.args.chunks.now c.loop-chunk.chunk-index _ c.args.buffer.now.items
      c.loop-chunk.buffer.items c.append_chunk.new.buffer.items c.loop-chunk-test.true c.loop-chunk.invariant.0
      c.append_chunk.ensures.octets,
  all_more IsChunkInRange chunk_ref_of c.args.chunks.now c.loop-chunk.chunk-index _ c.loop-chunk-test.true
      c.loop-chunk.invariant.1 c.append_chunk.ensures.in_range,
)
