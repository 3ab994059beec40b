-- The reception report block of a source by what is kept of it (RFC 3550, 6.4.1, A.3), and whether it has news.
use Rattle.std.specs.Prelude.{ℕ, ◌+◌, ◌-◌, ◌/◌, Bool, false, nat_lt, Option, Some, None, option_map}
use Rattle.rtcp_wire.specs.Values.{ReportBlock}
use Rattle.rtcp_source.specs.Fields.{fraction_of, highest_of, lost_of, lsr_of, dlsr_of}
use Rattle.rtcp_source.specs.Summary.{RunValue, SourceValue}

abbrev pub expected_in : RunValue → ℕ
expected_in run = run.greatest + 1 - run.first

-- The block of a source over its last run, with what is known of its last sender report.
abbrev pub block_of_run : (ssrc lsr dlsr : ℕ) → RunValue → ReportBlock
block_of_run ssrc lsr dlsr run =
    record {
      ssrc = ssrc;
      fraction = fraction_of (expected_in run - run.expected_before) (run.received - run.received_before);
      lost = lost_of (expected_in run) run.received;
      highest = highest_of run.greatest;
      jitter = run.jitter / 16;
      lsr = lsr;
      dlsr = dlsr;
    }

-- Whether a source has news, by its numbers: more packets were counted in its last run than when a block was
-- last made of that run, or any if none was.
abbrev pub news_of : Option RunValue → Bool
news_of None = false
news_of (Some run) = nat_lt run.received_before run.received

-- The block of a source `ssrc` at the moment `t`, if some packet of it was counted.
abbrev pub block_for : (ssrc t : ℕ) → SourceValue → Option ReportBlock
block_for ssrc t source =
    option_map (block_of_run ssrc (lsr_of source.last_report) (dlsr_of source.last_report t)) source.run
