-- The text of packets in plain words, as `rtcp check --plain` shows them.
--
--   ok SR ssrc=0000000b ntp=3900000000.500000s rtp=160 packets=1 octets=160 SDES ssrc=0000000b cname="a@b"
--   ok RR ssrc=0000000b block about=000000aa loss=33.2% lost=1 highest=4 jitter=0.125ms lsr=2.000000s dlsr=0.500000s
--
-- Each packet is a space, its name, and ` name=value` for each fact. Each block, chunk and item is such a row too.
use Rattle.std.specs.Prelude.{ℕ, ◌*◌, ◌/◌, ◌==◌, if◌then◌else◌, List, [], ◌∷◌, ◌++◌, max, length, Option, Some, None, codes}
use Rattle.std.specs.Fmt.{decimal, signed_decimal}
use Rattle.std.specs.List.{flat_map}
use Rattle.rtcp_wire.specs.Values.{SenderValue, ReportBlock, ItemValue, ChunkValue, RtcpPacket, sr, rr, sdes, bye, app, other}
use Rattle.rtcp_text.specs.Text.{hex_word}
use Rattle.rtcp_plain.specs.Numbers.{fixed_text, time_text, seconds_text, ntp_time, middle_time, quoted_text}

-- ---- Reports

abbrev pub source_text : (ssrc : ℕ) → List ℕ
source_text ssrc = codes " ssrc=" ++ hex_word ssrc

-- a fraction in 1/256, in per cent and rounded down to tenths
abbrev pub loss_text : (fraction : ℕ) → List ℕ
loss_text fraction = codes " loss=" ++ fixed_text 10 (fraction * 1000 / 256) ++ codes "%"

-- Jitter is in milliseconds where so many units a second are known, and otherwise in units of the RTP timestamp.
abbrev pub jitter_text : (rate : Option ℕ) → (jitter : ℕ) → List ℕ
jitter_text None jitter = codes " jitter=" ++ decimal jitter ++ codes "units"
jitter_text (Some rate) jitter = codes " jitter=" ++ time_text (jitter * 1000000 / max rate 1)

-- The last sender report, by the middle 32 bits of its NTP timestamp: 0 says that there is none (6.4.1).
abbrev pub last_report_text : (lsr : ℕ) → List ℕ
last_report_text lsr = codes " lsr=" ++ (if lsr == 0 then codes "none" else seconds_text (middle_time lsr))

abbrev pub reception_text : (rate : Option ℕ) → ReportBlock → List ℕ
reception_text rate b =
    loss_text b.fraction ++ codes " lost=" ++ signed_decimal b.lost ++ codes " highest=" ++ decimal b.highest
    ++ jitter_text rate b.jitter

-- what a block says of its source
abbrev pub block_facts_text : (rate : Option ℕ) → ReportBlock → List ℕ
block_facts_text rate b =
    reception_text rate b ++ last_report_text b.lsr ++ codes " dlsr=" ++ seconds_text (middle_time b.dlsr)

abbrev pub block_text : (rate : Option ℕ) → ReportBlock → List ℕ
block_text rate b = codes " block about=" ++ hex_word b.ssrc ++ block_facts_text rate b

-- the octets of an extension, if there are any
abbrev pub extension_text : List ℕ → List ℕ
extension_text extension =
    if length extension == 0 then [] else codes " extension=" ++ decimal (length extension)

abbrev pub report_end_text : (rate : Option ℕ) → List ReportBlock → List ℕ → List ℕ
report_end_text rate blocks extension = flat_map (block_text rate) blocks ++ extension_text extension

abbrev pub sender_text : SenderValue → List ℕ
sender_text s =
    codes " SR" ++ source_text s.ssrc ++ codes " ntp=" ++ seconds_text (ntp_time s.ntp)
    ++ codes " rtp=" ++ decimal s.rtp ++ codes " packets=" ++ decimal s.packets ++ codes " octets=" ++ decimal s.octets

-- ---- Descriptions and BYEs

-- the name of an item's type (6.5)
abbrev pub item_name : (kind : ℕ) → List ℕ
item_name kind =
    if kind == 1 then codes "cname"
    else (if kind == 2 then codes "name"
    else (if kind == 3 then codes "email"
    else (if kind == 4 then codes "phone"
    else (if kind == 5 then codes "loc"
    else (if kind == 6 then codes "tool"
    else (if kind == 7 then codes "note"
    else (if kind == 8 then codes "priv"
    else codes "item" ++ decimal kind)))))))

abbrev pub item_text : ItemValue → List ℕ
item_text item = codes " " ++ item_name item.kind ++ codes "=" ++ quoted_text item.text

abbrev pub chunk_text : ChunkValue → List ℕ
chunk_text chunk = source_text chunk.id ++ flat_map item_text chunk.items

abbrev pub bye_reason_text : Option (List ℕ) → List ℕ
bye_reason_text None = []
bye_reason_text (Some text) = codes " reason=" ++ quoted_text text

-- ---- Packets

abbrev pub packet_text : (rate : Option ℕ) → RtcpPacket → List ℕ
packet_text rate (sr sender blocks extension) = sender_text sender ++ report_end_text rate blocks extension
packet_text rate (rr ssrc blocks extension) =
    codes " RR" ++ source_text ssrc ++ report_end_text rate blocks extension
packet_text rate (sdes chunks) = codes " SDES" ++ flat_map chunk_text chunks
packet_text rate (bye ids reason) = codes " BYE" ++ flat_map source_text ids ++ bye_reason_text reason
packet_text rate (app subtype ssrc name content) =
    codes " APP" ++ source_text ssrc ++ codes " subtype=" ++ decimal subtype ++ codes " name=" ++ quoted_text name
    ++ codes " data=" ++ decimal (length content)
packet_text rate (other kind count body) =
    codes " OTHER type=" ++ decimal kind ++ codes " count=" ++ decimal count
    ++ codes " body=" ++ decimal (length body)

-- the line for an accepted datagram
abbrev pub plain_text : (rate : Option ℕ) → List RtcpPacket → List ℕ
plain_text rate packets = codes "ok" ++ flat_map (packet_text rate) packets ++ 10 ∷ []
