-- What the reports of a compound say of one source (RFC 3550, 6.4): the blocks that name it.
use Rattle.std.specs.Prelude.{ℕ, ◌==◌, List, [], ◌++◌, map, filter, flat_map}
use Rattle.rtcp_wire.specs.Values.{ReportBlock, RtcpPacket, sr, rr, sdes, bye, app, other}

-- the blocks that name a source
abbrev pub blocks_naming : (ssrc : ℕ) → List ReportBlock → List ReportBlock
blocks_naming ssrc blocks = filter (λ block. block.ssrc == ssrc) blocks

-- those of one report, each with the source that reports
abbrev pub named_blocks : (ssrc reporter : ℕ) → List ReportBlock → List (ℕ × ReportBlock)
named_blocks ssrc reporter blocks = map (λ block. (reporter, block)) (blocks_naming ssrc blocks)

-- those of one packet: reports alone have blocks
abbrev pub packet_about : (ssrc : ℕ) → RtcpPacket → List (ℕ × ReportBlock)
packet_about ssrc (sr sender blocks extension) = named_blocks ssrc sender.ssrc blocks
packet_about ssrc (rr reporter blocks extension) = named_blocks ssrc reporter blocks
packet_about ssrc (sdes chunks) = []
packet_about ssrc (bye ids reason) = []
packet_about ssrc (app subtype source name content) = []
packet_about ssrc (other kind count body) = []

-- those of a compound, packet after packet
abbrev pub blocks_about : (ssrc : ℕ) → List RtcpPacket → List (ℕ × ReportBlock)
blocks_about ssrc packets = flat_map (packet_about ssrc) packets

-- those of the blocks of one report, and of the packets after it
abbrev pub about_left : (ssrc reporter : ℕ) → List ReportBlock → List RtcpPacket → List (ℕ × ReportBlock)
about_left ssrc reporter blocks packets = named_blocks ssrc reporter blocks ++ blocks_about ssrc packets
