-- How the packets of a source are received, as its report block says it, whenever one is made (RFC 3550, 6.4.1,
-- A.3, A.8).
use Rattle.std.specs.Prelude.{ℕ, ℤ, ◌/◌, List, [], ◌∷◌, length, Option, Some, None, option_map}
use Rattle.rtcp_wire.specs.Values.{ReportBlock}
use Rattle.rtcp_source.specs.Packets.{Given, CountedPacket, greatest_ordinal, run_of}
use Rattle.rtcp_source.specs.LastBlocks.{LastBlockValue}
use Rattle.rtcp_source.specs.ReportBlocks.{expected_of, jitter_of}
use Rattle.rtcp_source.specs.Fields.{lost_of, highest_of}
use Rattle.rtcp_source.specs.Summary.{RunValue, SourceValue, octets_of}
use Rattle.rtcp_source.specs.Blocks.{expected_in}

pub record ReceptionValue : Type 0 where
  -- how many packets were counted in the last run
  pub received : ℕ
  -- the octets of their payload, modulo 2^64
  pub octets : ℕ
  -- the packets lost in it, clamped to a signed number of 24 bits
  pub lost : ℤ
  -- the extended highest sequence number
  pub highest : ℕ
  -- the jitter, in units of the clock of the newest packet, and how many of these a second has
  pub jitter : ℕ
  pub rate : ℕ

-- ---- By the packets of the last run

abbrev pub newest_rate : List CountedPacket → ℕ
newest_rate [] = 0
newest_rate (p ∷ earlier) = p.rate

abbrev pub reception_of_packets : List CountedPacket → ReceptionValue
reception_of_packets counted =
    record {
      received = length counted;
      octets = octets_of counted;
      lost = lost_of (expected_of counted) (length counted);
      highest = highest_of (greatest_ordinal counted);
      jitter = jitter_of counted / 16;
      rate = newest_rate counted;
    }

-- There is none where no packet was counted.
abbrev pub reception_where : List CountedPacket → Option ReceptionValue
reception_where [] = None
reception_where (p ∷ earlier) = Some (reception_of_packets (p ∷ earlier))

-- How the packets of a source are received, by all that it was given.
abbrev pub reception_over : List Given → Option ReceptionValue
reception_over given = reception_where (run_of given).counted

-- ---- By what is kept

abbrev pub reception_of_run : RunValue → ReceptionValue
reception_of_run run =
    record {
      received = run.received;
      octets = run.octets;
      lost = lost_of (expected_in run) run.received;
      highest = highest_of run.greatest;
      jitter = run.jitter / 16;
      rate = run.rate;
    }

abbrev pub reception_in : SourceValue → Option ReceptionValue
reception_in source = option_map reception_of_run source.run

-- ---- What a block says of it

pub record Figures : Type 0 where
  pub lost : ℤ
  pub highest : ℕ
  pub jitter : ℕ

abbrev pub figures_of : ReceptionValue → Figures
figures_of reception =
    record { lost = reception.lost; highest = reception.highest; jitter = reception.jitter }

abbrev pub figures_in : ReportBlock → Figures
figures_in block = record { lost = block.lost; highest = block.highest; jitter = block.jitter }

-- what a block says that is told of it later
abbrev pub said_by : ReportBlock → LastBlockValue
said_by block = record { fraction = block.fraction; highest = block.highest }
