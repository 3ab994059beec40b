use Rattle.std.proofs.Common.{◌≡◌, length, map, take}
use Rattle.std.specs.Prelude.{min}
use Rattle.std.specs.List.{flat_map}
use Rattle.rtcp_wire.specs.WriterViews.{chunk_ref_of}
use Rattle.rtcp_wire.specs.Writing.{written_chunk}
use Rattle.rtcp_wire.proofs.writer.size.chunks_size.Given as goal

abbrev pub invariant-loop-chunk : goal.invariant-loop-chunk
invariant-loop-chunk l = l.size ≡ min (length (flat_map written_chunk (map chunk_ref_of (take l.chunk-index l.chunks))))
    262145
