-- The crate's types, as values of the definitions.
use Rattle.std.specs.Prelude.{ℕ, ◌+◌, ◌==◌, if◌then◌else◌, Option, Some, None}
use Rattle.rtcp_source.specs.declared.run.Run.{Run}
use Rattle.rtcp_source.specs.declared.reception.LastReport.{LastReport}
use Rattle.rtcp_source.specs.declared.reception.LastBlock.{LastBlock}
use Rattle.rtcp_source.specs.declared.reception.Reception.{Reception}
use Rattle.rtcp_source.specs.LastBlocks.{LastBlockValue}
use Rattle.rtcp_source.specs.Summary.{RunValue}
use Rattle.rtcp_source.specs.Fields.{LastReportValue}
use Rattle.rtcp_source.specs.Receptions.{ReceptionValue}

abbrev pub run_value : Run → RunValue
run_value r =
    record {
      first = r.first;
      greatest = r.greatest;
      received = r.received;
      expected_before = r.expected_before;
      received_before = r.received_before;
      transit = r.transit;
      rate = r.rate;
      jitter = r.jitter;
      octets = r.octets;
    }

-- The run that these numbers are kept of, if there is one: some packet was counted in it. The number of its first
-- packet is 65536 below its ordinal.
abbrev pub run_kept : (seq greatest received expected_before received_before transit rate jitter octets : ℕ) →
    Option RunValue
run_kept seq greatest received expected_before received_before transit rate jitter octets =
    if received == 0 then None
    else Some (record {
      first = seq + 65536;
      greatest = greatest;
      received = received;
      expected_before = expected_before;
      received_before = received_before;
      transit = transit;
      rate = rate;
      jitter = jitter;
      octets = octets;
    })

abbrev pub last_report_value : LastReport → LastReportValue
last_report_value t = record { ntp = t.ntp; rtp = t.rtp; moment = t.moment }

abbrev pub reception_value : Reception → ReceptionValue
reception_value r =
    record {
      received = r.received;
      octets = r.octets;
      lost = r.lost;
      highest = r.highest;
      jitter = r.jitter;
      rate = r.rate;
    }

abbrev pub last_block_value : LastBlock → LastBlockValue
last_block_value b = record { fraction = b.fraction; highest = b.highest }
