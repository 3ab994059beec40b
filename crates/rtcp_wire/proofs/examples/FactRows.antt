-- Worked examples: the facts of packets that are written out.
use Rattle.std.proofs.Common.{◌≡◌, List, [], ◌∷◌, None, pos}
use Rattle.rtcp_wire.specs.declared.fact.Fact.TheVariants.{Heard, Told, Named, Gone}
use Rattle.rtcp_wire.specs.Values.{SenderValue, ReportBlock, ItemValue, ChunkValue, sr, rr, sdes, bye, app, other}
use Rattle.rtcp_wire.specs.Facts.{facts_of_packet, facts_of}

-- ---- What the packets have

-- a sender that was at NTP timestamp 5
abbrev sender : SenderValue
sender = record { ssrc = 9; ntp = 5; rtp = 1; packets = 2; octets = 3 }

-- what is reported of source 13
abbrev block : ReportBlock
block = record { ssrc = 13; fraction = 0; lost = pos 0; highest = 1; jitter = 2; lsr = 3; dlsr = 4 }

abbrev cname : ItemValue
cname = record { kind = 1; text = 97 ∷ [] }

abbrev empty_cname : ItemValue
empty_cname = record { kind = 1; text = [] }

abbrev tool : ItemValue
tool = record { kind = 6; text = 98 ∷ [] }

-- a chunk of source 7
abbrev chunk : List ItemValue → ChunkValue
chunk items = record { id = 7; items = items }

-- ---- What they say

record Said : Type 0 where
  -- A report and a name are heard twice.
  named_report : facts_of (rr 7 [] [] ∷ sdes (chunk (cname ∷ []) ∷ []) ∷ []) ≡ Heard 7 ∷ Heard 7 ∷ Named 7 ∷ []
  sender_report : facts_of_packet (sr sender [] []) ≡ Heard 9 ∷ Told 9 5 1 ∷ []
  -- The sources of report blocks were not heard.
  reported_sources : facts_of (sr sender (block ∷ []) [] ∷ rr 7 (block ∷ []) [] ∷ []) ≡ Heard 9 ∷ Told 9 5 1 ∷ Heard
      7 ∷ []
  goodbye : facts_of_packet (bye (7 ∷ 8 ∷ []) None) ≡ Gone 7 ∷ Gone 8 ∷ []
  -- A source gives its name once,
  two_names : facts_of_packet (sdes (chunk (cname ∷ tool ∷ cname ∷ []) ∷ [])) ≡ Heard 7 ∷ Named 7 ∷ []
  -- also by an empty text after other items,
  empty_name : facts_of_packet (sdes (chunk (tool ∷ empty_cname ∷ []) ∷ [])) ≡ Heard 7 ∷ Named 7 ∷ []
  -- and by no other item.
  no_name : facts_of_packet (sdes (chunk (tool ∷ []) ∷ chunk [] ∷ [])) ≡ Heard 7 ∷ Heard 7 ∷ []
  application : facts_of_packet (app 0 8 (97 ∷ 98 ∷ 99 ∷ 100 ∷ []) []) ≡ Heard 8 ∷ []
  -- What follows a packet that says nothing is not lost.
  silent : facts_of (other 205 0 [] ∷ sdes [] ∷ bye [] None ∷ app 0 8 (97 ∷ 98 ∷ 99 ∷ 100 ∷ []) [] ∷ []) ≡ Heard 8 ∷ []

said : Said
said = search
