-- Each packet can be written.
use Rattle.std.proofs.Common.{[]}
use Rattle.rtcp_wire.specs.declared.writer.refs.PacketRef.TheVariants.{Sr}
use Rattle.rtcp_wire.specs.WriterViews.{packet_ref_of}
use Rattle.rtcp_wire.specs.Writing.{IsWritable}
use Rattle.rtcp_wire.proofs.Appending.{all_here}
use Rattle.rtcp_wire.proofs.writer.size.compound_size.Goals as goal

pub body_size-requires : goal.body_size-requires
body_size-requires c = (all_here IsWritable packet_ref_of c.args.packets.now c.loop-packet.packet-index
    (Sr 0 0 0 0 0 (record { ref_ptr = (0, 0); now = [] }) (record { ref_ptr = (0, 0); now = [] }))
    c.loop-packet-test.true c.requires).parts
