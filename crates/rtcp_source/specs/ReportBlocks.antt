-- The reception report block of a source, field by field, by the packets of its last run and its last sender report
-- (RFC 3550, 6.4.1, A.3, A.8).
use Rattle.std.specs.Prelude.{ℕ, pos, negsuc, ◌-ℤ◌, ◌+◌, ◌-◌, ◌*◌, ◌/◌, ◌%◌, ◌^◌, ◌==◌, min, if◌then◌else◌, List, [], ◌∷◌, length, Option, Some, None}
use Rattle.std.specs.Int.{int_min, int_max}
use Rattle.rtcp_wire.specs.Values.{ReportBlock}
use Rattle.rtcp_source.specs.Packets.{Given, report_came, CountedPacket, PacketRun, greatest_ordinal, first_ordinal, run_of}

-- How many packets are expected (A.3): as many as there are integers from the first packet's to the greatest.
abbrev pub expected_of : List CountedPacket → ℕ
expected_of [] = 0
expected_of counted = greatest_ordinal counted + 1 - first_ordinal counted

-- The distance of two transits, whose difference is a signed number of 32 bits.
abbrev pub transit_distance : (transit before : ℕ) → ℕ
transit_distance transit before =
    min ((transit + 2 ^ 32 - before) % 2 ^ 32) ((before + 2 ^ 32 - transit) % 2 ^ 32)

-- The jitter of a run (A.8): over the distances d of successive transits, j + d - (j + 8) / 16. Transits in units of
-- two clocks have no distance: with the first packet of another rate it begins anew, in its units (RFC 7160, 4.3).
-- That it returns to 0 at a restart is this project's choice: A.1 leaves it open.
abbrev pub jitter_of : List CountedPacket → ℕ
jitter_of (p ∷ q ∷ earlier) =
    let jitter : ℕ = jitter_of (q ∷ earlier) in
    if p.rate == q.rate then jitter + transit_distance p.transit q.transit - (jitter + 8) / 16 else 0
jitter_of _ = 0

-- The LSR and the DLSR at the moment `t`: the middle 32 bits of the last sender report's NTP timestamp, and the time
-- since it came, in 1/65,536 of a second, capped at 32 bits. Both are 0 if there was none.
abbrev pub last_report_at : (t : ℕ) → List Given → ℕ × ℕ
last_report_at t [] = (0, 0)
last_report_at t (report_came ntp rtp moment ∷ given) =
    (ntp / 65536 % 2 ^ 32, min ((t - moment) * 65536 / 1000000) (2 ^ 32 - 1))
last_report_at t (_ ∷ given) = last_report_at t given

-- The block over the packets counted in a run, of which some were counted when a block was last made. There is none
-- where no packet was counted.
abbrev pub block_of_packets : (ssrc lsr dlsr : ℕ) (counted reported : List CountedPacket) → Option ReportBlock
block_of_packets ssrc lsr dlsr [] reported = None
block_of_packets ssrc lsr dlsr counted reported =
    let expected : ℕ = expected_of counted - expected_of reported in
    let received : ℕ = length counted - length reported in
    Some (record {
      ssrc = ssrc;
      -- in 1/256 of those expected since that block; 0 where none was expected, or as many came or more
      fraction = 256 * (expected - received) / expected;
      -- clamped to a signed number of 24 bits; negative where more came than were expected: repeated packets,
      -- and late ones from before the first
      lost = int_max (negsuc 8388607) (int_min (pos 8388607) (pos (expected_of counted) -ℤ pos (length counted)));
      -- an ordinal is 65536 above its integer
      highest = (greatest_ordinal counted - 65536) % 2 ^ 32;
      jitter = jitter_of counted / 16;
      lsr = lsr;
      dlsr = dlsr;
    })

-- The block of a source `ssrc` at the moment `t`, by all that it was given.
abbrev pub block_over : (ssrc t : ℕ) → List Given → Option ReportBlock
block_over ssrc t given =
    let run : PacketRun = run_of given in
    let report : ℕ × ℕ = last_report_at t given in
    block_of_packets ssrc report.0 report.1 run.counted run.reported
