-- The crate's borrowed types as values of the grammar.
use Rattle.std.specs.Prelude.{List, map, option_copied}
use Rattle.rtcp_wire.specs.declared.writer.refs.ItemRef.{ItemRef}
use Rattle.rtcp_wire.specs.declared.writer.refs.ChunkRef.{ChunkRef}
use Rattle.rtcp_wire.specs.declared.writer.refs.PacketRef.{PacketRef}
use Rattle.rtcp_wire.specs.declared.writer.refs.PacketRef.TheVariants.{Sr, Rr, Sdes, Bye, App, Other}
use Rattle.rtcp_wire.specs.Values.{ItemValue, ChunkValue, RtcpPacket, sr, rr, sdes, bye, app, other}
use Rattle.rtcp_wire.specs.Views.{block_value}

abbrev pub item_ref_of : ItemRef → ItemValue
item_ref_of i = record { kind = i.kind; text = i.text.now }

abbrev pub chunk_ref_of : ChunkRef → ChunkValue
chunk_ref_of c = record { id = c.id; items = map item_ref_of c.items.now }

abbrev pub packet_ref_of : PacketRef → RtcpPacket
packet_ref_of (Sr ssrc ntp rtp packets octets blocks extension) =
    sr (record { ssrc = ssrc; ntp = ntp; rtp = rtp; packets = packets; octets = octets })
    (map block_value blocks.now) extension.now
packet_ref_of (Rr ssrc blocks extension) = rr ssrc (map block_value blocks.now) extension.now
packet_ref_of (Sdes chunks) = sdes (map chunk_ref_of chunks.now)
packet_ref_of (Bye ids reason) = bye ids.now (option_copied reason)
packet_ref_of (App subtype ssrc name content) = app subtype ssrc name content.now
packet_ref_of (Other kind count body) = other kind count body.now

abbrev pub packet_refs_of : List PacketRef → List RtcpPacket
packet_refs_of packets = map packet_ref_of packets
