-- What was appended is read back.
use Rattle.std.proofs.Common.{arith}
use Rattle.rtcp_wire.specs.WriterViews.{packet_refs_of}
use Rattle.rtcp_wire.proofs.WrittenPackets.{reads_back}
use Rattle.rtcp_wire.proofs.writer.write_compound.Goals as goal

pub returns-clause-reads_back : goal.returns-clause-reads_back
returns-clause-reads_back c = reads_back (packet_refs_of c.args.packets.now) c.requires
    c.append_packets.ensures.in_range (omega (arith, c.compound_size.ensures, c.remaining_capacity.ensures))
