use Rattle.std.proofs.Common.{◌≡◌, ◌++◌, All, map, take}
use Rattle.std.specs.List.{flat_map}
use Rattle.rtcp_wire.specs.WriterViews.{chunk_ref_of}
use Rattle.rtcp_wire.specs.Writing.{written_chunk, IsChunkInRange}
use Rattle.rtcp_wire.proofs.writer.descriptions.append_chunks.Given as goal

abbrev pub invariant-loop-chunk : goal.invariant-loop-chunk
invariant-loop-chunk l =
    (l.buffer.items ≡ l.initial.buffer.items ++ flat_map written_chunk (map chunk_ref_of (take l.chunk-index l.chunks)))
    × All IsChunkInRange (map chunk_ref_of (take l.chunk-index l.chunks))
