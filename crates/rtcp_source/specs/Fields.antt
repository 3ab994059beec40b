-- The fields of a report block one by one, as the calls and the laws name them (RFC 3550, 6.4.1, A.3, A.8).
use Rattle.std.specs.Prelude.{ℕ, ℤ, pos, negsuc, ◌-ℤ◌, ◌+◌, ◌-◌, ◌*◌, ◌/◌, ◌%◌, ◌^◌, Bool, if◌then◌else◌, List, [], ◌∷◌, length, Option, Some, None}
use Rattle.std.specs.Int.{int_min, int_max}
use Rattle.rtcp_clock.specs.Moments.{short_seconds}
use Rattle.rtcp_source.specs.Packets.{Given, report_came, CountedPacket}
use Rattle.rtcp_source.specs.ReportBlocks.{expected_of}

-- The fraction lost, in 1/256. It is 0 where no packet was expected, and where as many came as were expected,
-- or more.
abbrev pub fraction_of : (expected received : ℕ) → ℕ
fraction_of expected received = 256 * (expected - received) / expected

-- The fraction of the packets lost since the last block (A.3): of those expected since then, and those
-- counted.
abbrev pub fraction_since : (counted reported : List CountedPacket) → ℕ
fraction_since counted reported =
    fraction_of (expected_of counted - expected_of reported) (length counted - length reported)

-- The packets lost, clamped to a signed number of 24 bits. It is negative where more came than were expected:
-- repeated packets, and late ones from before the first.
abbrev pub lost_of : (expected received : ℕ) → ℤ
lost_of expected received = int_max (negsuc 8388607) (int_min (pos 8388607) (pos expected -ℤ pos received))

-- The extended highest sequence number of a greatest ordinal, which is 65536 above its integer.
abbrev pub highest_of : (greatest : ℕ) → ℕ
highest_of greatest = (greatest - 65536) % 2 ^ 32

-- The jitter after one more distance (A.8).
abbrev pub jitter_with : (jitter distance : ℕ) → ℕ
jitter_with jitter distance = jitter + distance - (jitter + 8) / 16

-- The jitter with one packet more, whose clock has the rate of the one before it, or not (RFC 7160, 4.3).
abbrev pub jitter_on : (same_rate : Bool) (jitter distance : ℕ) → ℕ
jitter_on same_rate jitter distance = if same_rate then jitter_with jitter distance else 0

-- The last sender report: its NTP timestamp, its RTP timestamp, and the moment at which it came.
pub record LastReportValue : Type 0 where
  pub ntp : ℕ
  pub rtp : ℕ
  pub moment : ℕ

abbrev pub last_report_of : List Given → Option LastReportValue
last_report_of [] = None
last_report_of (report_came ntp rtp moment ∷ given) = Some (record { ntp = ntp; rtp = rtp; moment = moment })
last_report_of (_ ∷ given) = last_report_of given

abbrev pub middle_bits : ℕ → ℕ
middle_bits ntp = ntp / 65536 % 2 ^ 32

-- the middle 32 bits of the last sender report's NTP timestamp, or 0 if there was none
abbrev pub lsr_of : Option LastReportValue → ℕ
lsr_of None = 0
lsr_of (Some last_report) = middle_bits last_report.ntp

-- the time since the last sender report, in 1/65,536 of a second, or 0 if there was none
abbrev pub dlsr_of : Option LastReportValue → (t : ℕ) → ℕ
dlsr_of None t = 0
dlsr_of (Some last_report) t = short_seconds (t - last_report.moment)
