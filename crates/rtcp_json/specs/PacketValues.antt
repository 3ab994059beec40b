-- The values of JSON that a check shows datagrams as.
--
--   {"packets":[{"type":"RR","ssrc":"00000007","blocks":[],"extension":""}]}
--   {"refused":"F1 Short","at":0}
use Rattle.std.specs.Prelude.{◌≡◌, ℕ, ◌==◌, ◌⊎◌, if◌then◌else◌, List, [], ◌∷◌, Option, map, codes}
use Rattle.json.specs.Json.{Json, string}
use Rattle.rtcp_wire.specs.Faults.{IsFirstFault}
use Rattle.rtcp_wire.specs.Grammar.{IsAccepted}
use Rattle.rtcp_wire.specs.Values.{SenderValue, ReportBlock, ItemValue, ChunkValue, RtcpPacket, sr, rr, sdes, bye, app, other}
use Rattle.rtcp_wire.specs.declared.fault.WireFault.{WireFault}
use Rattle.rtcp_text.specs.Text.{reason_text}
use Rattle.rtcp_json.specs.JsonValues.{number_json, signed_json, word_json, long_json, octets_json, text_json, optional_json, object_of, array_of}

-- ---- Reports

abbrev pub block_json : ReportBlock → Json
block_json b = object_of (
    (codes "about", word_json b.ssrc)
    ∷ (codes "fraction", number_json b.fraction)
    ∷ (codes "lost", signed_json b.lost)
    ∷ (codes "highest", number_json b.highest)
    ∷ (codes "jitter", number_json b.jitter)
    ∷ (codes "lsr", number_json b.lsr)
    ∷ (codes "dlsr", number_json b.dlsr)
    ∷ []
    )

abbrev pub blocks_json : List ReportBlock → Json
blocks_json blocks = array_of (map block_json blocks)

abbrev pub sr_json : SenderValue → List ReportBlock → List ℕ → Json
sr_json s blocks extension = object_of (
    (codes "type", string (codes "SR"))
    ∷ (codes "ssrc", word_json s.ssrc)
    ∷ (codes "ntp", long_json s.ntp)
    ∷ (codes "rtp", number_json s.rtp)
    ∷ (codes "packets", number_json s.packets)
    ∷ (codes "octets", number_json s.octets)
    ∷ (codes "blocks", blocks_json blocks)
    ∷ (codes "extension", octets_json extension)
    ∷ []
    )

abbrev pub rr_json : (ssrc : ℕ) → List ReportBlock → List ℕ → Json
rr_json ssrc blocks extension = object_of (
    (codes "type", string (codes "RR"))
    ∷ (codes "ssrc", word_json ssrc)
    ∷ (codes "blocks", blocks_json blocks)
    ∷ (codes "extension", octets_json extension)
    ∷ []
    )

-- ---- Descriptions and BYEs

-- the name of an item's type (6.5), or the type where it has none
abbrev pub item_type_json : (kind : ℕ) → Json
item_type_json kind =
    if kind == 1 then string (codes "cname")
    else (if kind == 2 then string (codes "name")
    else (if kind == 3 then string (codes "email")
    else (if kind == 4 then string (codes "phone")
    else (if kind == 5 then string (codes "loc")
    else (if kind == 6 then string (codes "tool")
    else (if kind == 7 then string (codes "note")
    else (if kind == 8 then string (codes "priv")
    else number_json kind)))))))

abbrev pub item_json : ItemValue → Json
item_json item = object_of ((codes "type", item_type_json item.kind) ∷ (codes "text", text_json item.text) ∷ [])

abbrev pub chunk_json : ChunkValue → Json
chunk_json chunk =
    object_of ((codes "ssrc", word_json chunk.id) ∷ (codes "items", array_of (map item_json chunk.items)) ∷ [])

abbrev pub sdes_json : List ChunkValue → Json
sdes_json chunks =
    object_of ((codes "type", string (codes "SDES")) ∷ (codes "chunks", array_of (map chunk_json chunks)) ∷ [])

abbrev pub bye_json : (ids : List ℕ) → (reason : Option (List ℕ)) → Json
bye_json ids reason = object_of (
    (codes "type", string (codes "BYE"))
    ∷ (codes "ssrcs", array_of (map word_json ids))
    ∷ (codes "reason", optional_json text_json reason)
    ∷ []
    )

-- ---- Packets

abbrev pub app_json : (subtype ssrc : ℕ) → (name content : List ℕ) → Json
app_json subtype ssrc name content = object_of (
    (codes "type", string (codes "APP"))
    ∷ (codes "ssrc", word_json ssrc)
    ∷ (codes "subtype", number_json subtype)
    ∷ (codes "name", text_json name)
    ∷ (codes "data", octets_json content)
    ∷ []
    )

abbrev pub other_json : (kind count : ℕ) → (body : List ℕ) → Json
other_json kind count body = object_of (
    (codes "type", number_json kind)
    ∷ (codes "count", number_json count)
    ∷ (codes "body", octets_json body)
    ∷ []
    )

abbrev pub packet_json : RtcpPacket → Json
packet_json (sr sender blocks extension) = sr_json sender blocks extension
packet_json (rr ssrc blocks extension) = rr_json ssrc blocks extension
packet_json (sdes chunks) = sdes_json chunks
packet_json (bye ids reason) = bye_json ids reason
packet_json (app subtype ssrc name content) = app_json subtype ssrc name content
packet_json (other kind count body) = other_json kind count body

-- ---- Datagrams

-- an accepted datagram: its packets
abbrev pub datagram_json : List RtcpPacket → Json
datagram_json packets = object_of ((codes "packets", array_of (map packet_json packets)) ∷ [])

-- a refused datagram: the rule that it breaks, and the offset of the packet at fault
abbrev pub fault_json : WireFault → Json
fault_json fault =
    object_of ((codes "refused", string (reason_text fault.reason)) ∷ (codes "at", number_json fault.place) ∷ [])

-- what the octets of a datagram are shown as: its packets, or its first fault
abbrev pub IsShownAs : (octets : List ℕ) → Json → Type 0
IsShownAs octets value =
    ((packets : List RtcpPacket) × IsAccepted octets packets × (value ≡ datagram_json packets))
    ⊎ ((fault : WireFault) × IsFirstFault octets fault × (value ≡ fault_json fault))
