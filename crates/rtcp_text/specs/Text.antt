-- The text of packets and of faults, as `rtcp check` shows them.
use Rattle.std.specs.Prelude.{ℕ, List, [], ◌∷◌, ◌++◌, Option, Some, None, length, map, codes}
use Rattle.std.specs.List.{flat_map, join_with_byte}
use Rattle.std.specs.Int.{w32, w64, to_be_bytes}
use Rattle.std.specs.Fmt.{decimal, signed_decimal}
use Rattle.hex.specs.Hex.{encode_lower}
use Rattle.rtcp_wire.specs.Values.{SenderValue, ReportBlock, ItemValue, ChunkValue, RtcpPacket, sr, rr, sdes, bye, app, other}
use Rattle.rtcp_wire.specs.declared.fault.FaultReason.{FaultReason}
use Rattle.rtcp_wire.specs.declared.fault.FaultReason.TheVariants.{Short, Version, FirstType, FirstPadding, Length, Padding, Body, Item, Reason, TooLong}
use Rattle.rtcp_wire.specs.declared.fault.WireFault.{WireFault}

-- eight digits of a number below 2 ^ 32
abbrev pub hex_word : ℕ → List ℕ
hex_word n = encode_lower (to_be_bytes w32 n)

-- sixteen digits of a number below 2 ^ 64
abbrev pub hex_long : ℕ → List ℕ
hex_long n = encode_lower (to_be_bytes w64 n)

-- pieces with a separator between each two of them: 44 is a comma, 59 a semicolon
abbrev pub commas : List (List ℕ) → List ℕ
commas pieces = join_with_byte 44 pieces

abbrev pub semicolons : List (List ℕ) → List ℕ
semicolons pieces = join_with_byte 59 pieces

-- SSRC/fraction/lost/highest/jitter/LSR/DLSR
abbrev pub block_text : ReportBlock → List ℕ
block_text b =
    hex_word b.ssrc ++ codes "/" ++ decimal b.fraction ++ codes "/" ++ signed_decimal b.lost
    ++ codes "/" ++ decimal b.highest ++ codes "/" ++ decimal b.jitter
    ++ codes "/" ++ hex_word b.lsr ++ codes "/" ++ hex_word b.dlsr

-- [blocks],octets of the extension
abbrev pub report_end_text : List ReportBlock → List ℕ → List ℕ
report_end_text blocks extension =
    codes "[" ++ semicolons (map block_text blocks) ++ codes "]," ++ decimal (length extension)

-- SSRC,NTP,RTP,packets,octets
abbrev pub sender_text : SenderValue → List ℕ
sender_text s =
    hex_word s.ssrc ++ codes "," ++ hex_long s.ntp ++ codes "," ++ hex_word s.rtp ++ codes ","
    ++ decimal s.packets ++ codes "," ++ decimal s.octets

-- a text as =hex, where there is one
abbrev pub bye_reason_text : Option (List ℕ) → List ℕ
bye_reason_text None = codes "-"
bye_reason_text (Some text) = codes "=" ++ encode_lower text

-- type=text
abbrev pub item_text : ItemValue → List ℕ
item_text i = decimal i.kind ++ codes "=" ++ encode_lower i.text

-- id{items}
abbrev pub chunk_text : ChunkValue → List ℕ
chunk_text c = hex_word c.id ++ codes "{" ++ commas (map item_text c.items) ++ codes "}"

abbrev pub packet_text : RtcpPacket → List ℕ
packet_text (sr sender blocks extension) =
    codes "SR(" ++ sender_text sender ++ codes "," ++ report_end_text blocks extension ++ codes ")"
packet_text (rr ssrc blocks extension) =
    codes "RR(" ++ hex_word ssrc ++ codes "," ++ report_end_text blocks extension ++ codes ")"
packet_text (sdes chunks) = codes "SDES([" ++ semicolons (map chunk_text chunks) ++ codes "])"
packet_text (bye ids reason) =
    codes "BYE([" ++ semicolons (map hex_word ids) ++ codes "]," ++ bye_reason_text reason ++ codes ")"
packet_text (app subtype ssrc name content) =
    codes "APP(" ++ decimal subtype ++ codes "," ++ hex_word ssrc ++ codes ","
    ++ encode_lower name ++ codes "," ++ decimal (length content) ++ codes ")"
packet_text (other kind count body) =
    codes "OTHER(" ++ decimal kind ++ codes "," ++ decimal count ++ codes ","
    ++ decimal (length body) ++ codes ")"

-- the line for an accepted datagram
abbrev pub accepted_text : List RtcpPacket → List ℕ
accepted_text packets = codes "ok" ++ flat_map (λ packet. codes " " ++ packet_text packet) packets ++ 10 ∷ []

abbrev pub reason_text : FaultReason → List ℕ
reason_text Short = codes "F1 Short"
reason_text Version = codes "F2 Version"
reason_text FirstType = codes "F3 FirstType"
reason_text FirstPadding = codes "F4 FirstPadding"
reason_text Length = codes "F5 Length"
reason_text Padding = codes "F6 Padding"
reason_text Body = codes "F7 Body"
reason_text Item = codes "F8 Item"
reason_text Reason = codes "F9 Reason"
reason_text TooLong = codes "F10 TooLong"

-- the rule that a datagram breaks, and where
abbrev pub fault_words : WireFault → List ℕ
fault_words fault = reason_text fault.reason ++ codes " at " ++ decimal fault.place

-- the line for a refused datagram
abbrev pub fault_text : WireFault → List ℕ
fault_text fault = fault_words fault ++ 10 ∷ []
