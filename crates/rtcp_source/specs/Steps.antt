-- How the numbers that are kept of a source change with one thing more that it is given.
use Rattle.std.specs.Prelude.{ℕ, ◌==◌, ◌+◌, ◌-◌, max, Option, Some, None, option_map}
use Rattle.rtcp_source.specs.declared.taken.Taken.{Taken}
use Rattle.rtcp_source.specs.declared.taken.Taken.TheVariants.{Probation, Counted, Became, Restarted, Bad}
use Rattle.rtcp_source.specs.Packets.{ordinal_near}
use Rattle.rtcp_source.specs.Takings.{taken_as, transit_of}
use Rattle.rtcp_source.specs.LastBlocks.{LastBlockValue}
use Rattle.rtcp_source.specs.ReportBlocks.{transit_distance}
use Rattle.rtcp_source.specs.Fields.{fraction_of, highest_of, jitter_on}
use Rattle.rtcp_source.specs.Summary.{RunValue, SourceValue, with_octets}
use Rattle.rtcp_source.specs.Blocks.{expected_in}

-- a source that was given nothing
abbrev pub no_source : SourceValue
no_source = record { packets = 0; run = None; stray = None; last_report = None; last_block = None }

abbrev pub greatest_in : Option RunValue → Option ℕ
greatest_in None = None
greatest_in (Some run) = Some run.greatest

-- What a packet of this number is to the source.
abbrev pub taken_by : SourceValue → (seq : ℕ) → Taken
taken_by source seq = taken_as (greatest_in source.run) source.stray seq

-- A run that starts with a packet. Its jitter is 0.
abbrev pub run_from : (seq transit octets rate : ℕ) → RunValue
run_from seq transit octets rate =
    record {
      first = seq + 65536;
      greatest = seq + 65536;
      received = 1;
      expected_before = 0;
      received_before = 0;
      transit = transit;
      rate = rate;
      jitter = 0;
      octets = with_octets 0 octets;
    }

-- The run after one counted packet more.
abbrev pub run_after : (seq transit octets rate : ℕ) → RunValue → RunValue
run_after seq transit octets rate run =
    record run {
      greatest = max (ordinal_near run.greatest seq) run.greatest;
      received = run.received + 1;
      transit = transit;
      rate = rate;
      jitter = jitter_on (rate == run.rate) run.jitter (transit_distance transit run.transit);
      octets = with_octets run.octets octets;
    }

abbrev pub counted_in : (seq transit octets rate : ℕ) → Option RunValue → Option RunValue
counted_in seq transit octets rate None = None
counted_in seq transit octets rate (Some run) = Some (run_after seq transit octets rate run)

-- The source after one packet more. A run that starts forgets the strays before it.
abbrev pub source_with : Taken → (seq transit octets rate : ℕ) → SourceValue → SourceValue
source_with Counted seq transit octets rate source =
    record source { packets = source.packets + 1; run = counted_in seq transit octets rate source.run }
source_with Became seq transit octets rate source =
    record source { packets = source.packets + 1; run = Some (run_from seq transit octets rate); stray = None }
source_with Restarted seq transit octets rate source =
    record source { packets = source.packets + 1; run = Some (run_from seq transit octets rate); stray = None }
source_with Probation seq transit octets rate source = record source { packets = source.packets + 1; stray = Some seq }
source_with Bad seq transit octets rate source = record source { packets = source.packets + 1; stray = Some seq }

abbrev pub after_packet : (seq timestamp arrival octets rate : ℕ) → SourceValue → SourceValue
after_packet seq timestamp arrival octets rate source =
    source_with (taken_by source seq) seq (transit_of timestamp arrival) octets rate source

abbrev pub after_report_came : (ntp rtp moment : ℕ) → SourceValue → SourceValue
after_report_came ntp rtp moment source =
    record source { last_report = Some (record { ntp = ntp; rtp = rtp; moment = moment }) }

abbrev pub run_reported : Option RunValue → Option RunValue
run_reported None = None
run_reported (Some run) =
    Some (record run { expected_before = expected_in run; received_before = run.received })

-- what a block says that is made of a run
abbrev pub said_in : RunValue → LastBlockValue
said_in run =
    record {
      fraction = fraction_of (expected_in run - run.expected_before) (run.received - run.received_before);
      highest = highest_of run.greatest;
    }

abbrev pub after_block_made : SourceValue → SourceValue
after_block_made source =
    record source { run = run_reported source.run; last_block = option_map said_in source.run }
