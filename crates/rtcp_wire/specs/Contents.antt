-- What the packets of a compound hold, each part once and in order (RFC 3550, 6.4 to 6.7): senders, report blocks,
-- SDES items, BYEs and packets of applications.
use Rattle.std.specs.Prelude.{ℕ, List, [], ◌∷◌, Option, map, flat_map}
use Rattle.rtcp_wire.specs.Values.{SenderValue, ReportBlock, ItemValue, ChunkValue, AppValue, RtcpPacket, sr, rr, sdes, bye, app, other}

-- ---- Senders

abbrev pub packet_senders : RtcpPacket → List SenderValue
packet_senders (sr sender blocks extension) = sender ∷ []
packet_senders (rr reporter blocks extension) = []
packet_senders (sdes chunks) = []
packet_senders (bye ids reason) = []
packet_senders (app subtype source name content) = []
packet_senders (other kind count body) = []

-- what the sender reports say of their senders
abbrev pub all_senders : List RtcpPacket → List SenderValue
all_senders packets = flat_map packet_senders packets

-- ---- Report blocks

-- those of one report, each with the source that reports
abbrev pub blocks_by : (reporter : ℕ) → List ReportBlock → List (ℕ × ReportBlock)
blocks_by reporter blocks = map (λ block. (reporter, block)) blocks

abbrev pub packet_blocks : RtcpPacket → List (ℕ × ReportBlock)
packet_blocks (sr sender blocks extension) = blocks_by sender.ssrc blocks
packet_blocks (rr reporter blocks extension) = blocks_by reporter blocks
packet_blocks (sdes chunks) = []
packet_blocks (bye ids reason) = []
packet_blocks (app subtype source name content) = []
packet_blocks (other kind count body) = []

-- the blocks of all reports
abbrev pub all_blocks : List RtcpPacket → List (ℕ × ReportBlock)
all_blocks packets = flat_map packet_blocks packets

-- ---- SDES items

-- those of one chunk, each with the source that the chunk describes
abbrev pub items_by : (id : ℕ) → List ItemValue → List (ℕ × ItemValue)
items_by id items = map (λ item. (id, item)) items

abbrev pub chunk_items : ChunkValue → List (ℕ × ItemValue)
chunk_items chunk = items_by chunk.id chunk.items

abbrev pub packet_items : RtcpPacket → List (ℕ × ItemValue)
packet_items (sr sender blocks extension) = []
packet_items (rr reporter blocks extension) = []
packet_items (sdes chunks) = flat_map chunk_items chunks
packet_items (bye ids reason) = []
packet_items (app subtype source name content) = []
packet_items (other kind count body) = []

-- the items of all chunks of all source descriptions
abbrev pub all_items : List RtcpPacket → List (ℕ × ItemValue)
all_items packets = flat_map packet_items packets

-- ---- BYEs

-- the sources that one BYE names, each with its reason
abbrev pub goodbyes_by : (reason : Option (List ℕ)) → (ids : List ℕ) → List (ℕ × Option (List ℕ))
goodbyes_by reason ids = map (λ id. (id, reason)) ids

abbrev pub packet_goodbyes : RtcpPacket → List (ℕ × Option (List ℕ))
packet_goodbyes (sr sender blocks extension) = []
packet_goodbyes (rr reporter blocks extension) = []
packet_goodbyes (sdes chunks) = []
packet_goodbyes (bye ids reason) = goodbyes_by reason ids
packet_goodbyes (app subtype source name content) = []
packet_goodbyes (other kind count body) = []

-- the sources that all BYEs name
abbrev pub all_goodbyes : List RtcpPacket → List (ℕ × Option (List ℕ))
all_goodbyes packets = flat_map packet_goodbyes packets

-- ---- Packets of applications

abbrev pub packet_apps : RtcpPacket → List AppValue
packet_apps (sr sender blocks extension) = []
packet_apps (rr reporter blocks extension) = []
packet_apps (sdes chunks) = []
packet_apps (bye ids reason) = []
packet_apps (app subtype source name content) =
    record { ssrc = source; subtype = subtype; name = name; content = content } ∷ []
packet_apps (other kind count body) = []

-- what all packets of applications say
abbrev pub all_apps : List RtcpPacket → List AppValue
all_apps packets = flat_map packet_apps packets
