-- The crate's types that are read from a datagram as values of the grammar.
use Rattle.std.specs.Prelude.{ℕ, ◌/◌, List, length, option_copied}
use Rattle.rtcp_wire.specs.declared.block.Block.{Block}
use Rattle.rtcp_wire.specs.declared.bye.Goodbye.{Goodbye}
use Rattle.rtcp_wire.specs.declared.rr.ReceiverReport.{ReceiverReport}
use Rattle.rtcp_wire.specs.declared.sr.SenderReport.{SenderReport}
use Rattle.rtcp_wire.specs.declared.packet.PacketView.{PacketView}
use Rattle.rtcp_wire.specs.declared.packet.PacketView.TheVariants.{Sr, Rr, Sdes, Bye, App, Other}
use Rattle.rtcp_wire.specs.Values.{SenderValue, ReportBlock, RtcpPacket, sr, rr, sdes, bye, app, other}
use Rattle.rtcp_wire.specs.Walks.{blocks_in, ids_in}

abbrev pub block_value : Block → ReportBlock
block_value b = record {
  ssrc = b.ssrc;
  fraction = b.fraction;
  lost = b.lost;
  highest = b.highest;
  jitter = b.jitter;
  lsr = b.lsr;
  dlsr = b.dlsr;
}

-- the blocks that whole octets are
abbrev pub block_values : List ℕ → List ReportBlock
block_values octets = blocks_in (length octets / 24) octets

-- the identifiers that whole octets are
abbrev pub id_values : List ℕ → List ℕ
id_values octets = ids_in (length octets / 4) octets

-- a source that reports, and what it reports of another
abbrev pub reported_value : ℕ × Block → ℕ × ReportBlock
reported_value reported = (reported.0, block_value reported.1)

abbrev pub sender_value : SenderReport → SenderValue
sender_value s = record { ssrc = s.ssrc; ntp = s.ntp; rtp = s.rtp; packets = s.packets; octets = s.octets }

abbrev pub sender_blocks : SenderReport → List ReportBlock
sender_blocks r = block_values r.block_octets.now

abbrev pub receiver_blocks : ReceiverReport → List ReportBlock
receiver_blocks r = block_values r.block_octets.now

-- the sources that leave
abbrev pub goodbye_ids : Goodbye → List ℕ
goodbye_ids b = id_values b.id_octets.now

abbrev pub packet_value : PacketView → RtcpPacket
packet_value (Sr r) = sr (sender_value r) (sender_blocks r) r.extension.now
packet_value (Rr r) = rr r.ssrc (receiver_blocks r) r.extension.now
packet_value (Sdes chunks) = sdes chunks
packet_value (Bye b) = bye (goodbye_ids b) (option_copied b.reason)
packet_value (App a) = app a.subtype a.ssrc a.name a.data.now
packet_value (Other o) = other o.kind o.count o.body.now
