-- Worked examples: what packets that are written out hold, and where texts stand in octets.
use Rattle.std.proofs.Common.{◌≡◌, ℕ, pos, List, [], ◌∷◌, ◌++◌, take, drop, Some, None, refl}
use Rattle.rtcp_wire.specs.Values.{SenderValue, ReportBlock, ItemValue, AppValue, RtcpPacket, sr, rr, sdes, bye, app, other}
use Rattle.rtcp_wire.specs.Contents.{all_senders, all_blocks, all_items, all_goodbyes, all_apps}
use Rattle.rtcp_wire.specs.Placed.{StandsIn}
use Rattle.rtcp_wire.specs.Walks.{packets_in}

-- ---- What the packets have

abbrev sender : SenderValue
sender = record { ssrc = 9; ntp = 5; rtp = 1; packets = 2; octets = 3 }

abbrev block : ReportBlock
block = record { ssrc = 0xaa; fraction = 25; lost = pos 3; highest = 11; jitter = 0; lsr = 0; dlsr = 0 }

abbrev later : ReportBlock
later = record { ssrc = 0xbb; fraction = 0; lost = pos 0; highest = 12; jitter = 1; lsr = 0; dlsr = 0 }

-- a CNAME, "ab"
abbrev cname : ItemValue
cname = record { kind = 1; text = 0x61 ∷ 0x62 ∷ [] }

-- a NOTE without text
abbrev note : ItemValue
note = record { kind = 7; text = [] }

-- of source 7, with subtype 0, named "none", without data
abbrev named : AppValue
named = record { ssrc = 7; subtype = 0; name = 0x6e ∷ 0x6f ∷ 0x6e ∷ 0x65 ∷ []; content = [] }

abbrev packets : List RtcpPacket
packets =
    sr sender (block ∷ later ∷ []) []
    ∷ rr 7 (block ∷ []) []
    ∷ sdes (record { id = 9; items = cname ∷ note ∷ [] } ∷ record { id = 5; items = [] } ∷ record
    { id = 7; items = cname ∷ [] } ∷ [])
    ∷ app 0 7 named.name []
    ∷ bye (9 ∷ 7 ∷ []) (Some [])
    ∷ other 207 0 []
    ∷ bye (5 ∷ []) None
    ∷ []

-- ---- What they hold, in order

record Held : Type 0 where
  senders : all_senders packets ≡ sender ∷ []
  -- Each block counts with the source that reports.
  blocks : all_blocks packets ≡ (9, block) ∷ (9, later) ∷ (7, block) ∷ []
  -- Each item counts with the source that its chunk describes.
  items : all_items packets ≡ (9, cname) ∷ (9, note) ∷ (7, cname) ∷ []
  -- A reason belongs to each source of its packet, and one without text is a reason.
  goodbyes : all_goodbyes packets ≡ (9, Some []) ∷ (7, Some []) ∷ (5, None) ∷ []
  apps : all_apps packets ≡ named ∷ []

held : Held
held = search

-- ---- In octets

-- 80c90001 00000007: an empty receiver report of source 7
abbrev report : List ℕ
report = 0x80 ∷ 0xc9 ∷ 0 ∷ 1 ∷ 0 ∷ 0 ∷ 0 ∷ 7 ∷ []

-- 82ca0005: two chunks, of source 5 without items, and of source 9 with "ab" and a NOTE without text
abbrev description : List ℕ
description =
    0x82 ∷ 0xca ∷ 0 ∷ 5 ∷ 0 ∷ 0 ∷ 0 ∷ 5 ∷ 0 ∷ 0 ∷ 0 ∷ 0
    ∷ 0 ∷ 0 ∷ 0 ∷ 9 ∷ 1 ∷ 2 ∷ 0x61 ∷ 0x62 ∷ 7 ∷ 0 ∷ 0 ∷ 0 ∷ []

-- 82cb0003: sources 9 and 7 leave, "c"
abbrev goodbye : List ℕ
goodbye = 0x82 ∷ 0xcb ∷ 0 ∷ 3 ∷ 0 ∷ 0 ∷ 0 ∷ 9 ∷ 0 ∷ 0 ∷ 0 ∷ 7 ∷ 1 ∷ 0x63 ∷ 0 ∷ 0 ∷ []

abbrev datagram : List ℕ
datagram = report ++ (description ++ goodbye)

-- The description begins at octet 8, its second chunk at 20, and its items at 24.
name_place : StandsIn 26 (0x61 ∷ 0x62 ∷ []) datagram
name_place = record { before = take 26 datagram; after = drop 28 datagram; parts = refl; counted = refl }

note_place : StandsIn 30 [] datagram
note_place = record { before = take 30 datagram; after = drop 30 datagram; parts = refl; counted = refl }

-- The BYE begins at octet 32, and its reason after two identifiers and the octet of the size.
reason_place : StandsIn 45 (0x63 ∷ []) datagram
reason_place = record { before = take 45 datagram; after = drop 46 datagram; parts = refl; counted = refl }

-- 85cc0003 00000007: of source 7, with subtype 5, named "none", with a word of data, after the report
abbrev application : List ℕ
application = 0x85 ∷ 0xcc ∷ 0 ∷ 3 ∷ 0 ∷ 0 ∷ 0 ∷ 7 ∷ (named.name ++ 1 ∷ 2 ∷ 3 ∷ 4 ∷ [])

data_place : StandsIn 20 (1 ∷ 2 ∷ 3 ∷ 4 ∷ []) (report ++ application)
data_place = record { before = report ++ take 12 application; after = []; parts = refl; counted = refl }

record InOctets : Type 0 where
  read_items : all_items (packets_in datagram) ≡ (9, cname) ∷ (9, note) ∷ []
  read_goodbyes : all_goodbyes (packets_in datagram) ≡ (9, Some (0x63 ∷ [])) ∷ (7, Some (0x63 ∷ [])) ∷ []
  read_apps : all_apps (packets_in (report ++ application)) ≡
      record { ssrc = 7; subtype = 5; name = named.name; content = 1 ∷ 2 ∷ 3 ∷ 4 ∷ [] } ∷ []

in_octets : InOctets
in_octets = search
