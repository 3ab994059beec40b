-- Worked examples: the blocks that name a source, of packets that are written out and of octets.
use Rattle.std.proofs.Common.{◌≡◌, ℕ, pos, negsuc, List, [], ◌∷◌, ◌++◌, None}
use Rattle.rtcp_wire.specs.Values.{SenderValue, ReportBlock, sr, rr, sdes, bye, app, other}
use Rattle.rtcp_wire.specs.Walks.{packets_in}
use Rattle.rtcp_wire.specs.About.{blocks_about}

-- ---- What the packets have

abbrev sender : SenderValue
sender = record { ssrc = 9; ntp = 5; rtp = 1; packets = 2; octets = 3 }

-- what is reported of source 0xaa
abbrev block : ReportBlock
block = record {
  ssrc = 0xaa;
  fraction = 25;
  lost = pos 3;
  highest = 11;
  jitter = 0;
  lsr = 0xb7052000;
  dlsr = 0x00054000;
}

-- and later
abbrev later : ReportBlock
later = record { ssrc = 0xaa; fraction = 0; lost = negsuc 0; highest = 12; jitter = 1; lsr = 0; dlsr = 0 }

-- what is reported of source 0xbb
abbrev of_another : ReportBlock
of_another = record { ssrc = 0xbb; fraction = 1; lost = pos 2; highest = 3; jitter = 4; lsr = 5; dlsr = 6 }

-- ---- What they say of a source

record OfPackets : Type 0 where
  -- A block counts with the source that reports,
  one_report : blocks_about 0xaa (rr 7 (block ∷ []) [] ∷ []) ≡ (7, block) ∷ []
  -- but says nothing of that source,
  of_the_reporter : blocks_about 7 (rr 7 (block ∷ []) [] ∷ []) ≡ []
  -- unless it names it.
  of_itself : blocks_about 0xaa (rr 0xaa (block ∷ []) [] ∷ []) ≡ (0xaa, block) ∷ []
  -- Both reports of a compound count, in order, whatever stands between their blocks.
  two_reports : blocks_about 0xaa (sr sender (of_another ∷ block ∷ of_another ∷ []) [] ∷ rr 7 (of_another ∷ later ∷ [])
      [] ∷ [])
      ≡ (9, block) ∷ (7, later) ∷ []
  -- The other source is named three times.
  of_the_other : blocks_about 0xbb (sr sender (of_another ∷ block ∷ of_another ∷ []) [] ∷ rr 7 (of_another ∷ later ∷ [])
      [] ∷ [])
      ≡ (9, of_another) ∷ (9, of_another) ∷ (7, of_another) ∷ []
  -- A report may name a source twice,
  named_twice : blocks_about 0xaa (rr 7 (block ∷ later ∷ []) [] ∷ []) ≡ (7, block) ∷ (7, later) ∷ []
  -- and a packet that is no report is passed over.
  between : blocks_about 0xaa (rr 7 [] [] ∷ sdes [] ∷ bye (0xaa ∷ []) None ∷ app 0 0xaa [] [] ∷ other 207 0 [] ∷ rr 8
      (block ∷ []) [] ∷ [])
      ≡ (8, block) ∷ []
  empty : blocks_about 0xaa [] ≡ []

of_packets : OfPackets
of_packets = search

-- ---- In octets

-- the octets of `block`
abbrev block_octets : List ℕ
block_octets = 0 ∷ 0 ∷ 0 ∷ 0xaa ∷ 0x19 ∷ 0 ∷ 0 ∷ 3 ∷ 0 ∷ 0 ∷ 0 ∷ 0x0b ∷ 0 ∷ 0 ∷ 0 ∷ 0
    ∷ 0xb7 ∷ 5 ∷ 0x20 ∷ 0 ∷ 0 ∷ 5 ∷ 0x40 ∷ 0 ∷ []

-- of `later`
abbrev later_octets : List ℕ
later_octets = 0 ∷ 0 ∷ 0 ∷ 0xaa ∷ 0 ∷ 0xff ∷ 0xff ∷ 0xff ∷ 0 ∷ 0 ∷ 0 ∷ 0x0c ∷ 0 ∷ 0 ∷ 0 ∷ 1
    ∷ 0 ∷ 0 ∷ 0 ∷ 0 ∷ 0 ∷ 0 ∷ 0 ∷ 0 ∷ []

-- and of `of_another`
abbrev other_octets : List ℕ
other_octets = 0 ∷ 0 ∷ 0 ∷ 0xbb ∷ 1 ∷ 0 ∷ 0 ∷ 2 ∷ 0 ∷ 0 ∷ 0 ∷ 3 ∷ 0 ∷ 0 ∷ 0 ∷ 4
    ∷ 0 ∷ 0 ∷ 0 ∷ 5 ∷ 0 ∷ 0 ∷ 0 ∷ 6 ∷ []

-- 81c90007 00000007: a receiver report of source 7, with one block
abbrev report : List ℕ
report = 0x81 ∷ 0xc9 ∷ 0 ∷ 7 ∷ 0 ∷ 0 ∷ 0 ∷ 7 ∷ block_octets

-- a sender report of source 9 with three blocks, and a receiver report of source 7 with two
abbrev compound : List ℕ
compound = 0x83 ∷ 0xc8 ∷ 0 ∷ 24 ∷ 0 ∷ 0 ∷ 0 ∷ 9 ∷ 0 ∷ 0 ∷ 0 ∷ 0 ∷ 0 ∷ 0 ∷ 0 ∷ 5
    ∷ 0 ∷ 0 ∷ 0 ∷ 1 ∷ 0 ∷ 0 ∷ 0 ∷ 2 ∷ 0 ∷ 0 ∷ 0 ∷ 3 ∷ other_octets ++ block_octets ++ other_octets
    ++ 0x82 ∷ 0xc9 ∷ 0 ∷ 13 ∷ 0 ∷ 0 ∷ 0 ∷ 7 ∷ other_octets ++ later_octets

record OfOctets : Type 0 where
  read_about : blocks_about 0xaa (packets_in report) ≡ (7, block) ∷ []
  read_of_the_reporter : blocks_about 7 (packets_in report) ≡ []
  read_two_reports : packets_in compound
      ≡ sr sender (of_another ∷ block ∷ of_another ∷ []) [] ∷ rr 7 (of_another ∷ later ∷ []) [] ∷ []
  read_about_both : blocks_about 0xaa (packets_in compound) ≡ (9, block) ∷ (7, later) ∷ []

of_octets : OfOctets
of_octets = search
